-- What a response of a zone that denies by NSEC proves to a validator; and what is common to both kinds of denial
use Rattle.std.specs.Prelude.{◌≡◌, ◌≢◌, ℕ, Bool, true, false, ◌⊎◌, cond, ◌==◌, List, [], ◌∷◌, Option, Some, IsTrue, IsFalse, ◌&&◌, length}
use Rattle.std.specs.List.{Contains, list_any}
use Rattle.zone_proto.specs.declared.nx_proof_kind.NxProofKind.TheVariants as kind
use Rattle.zone_proto.specs.declared.rdata.RData.{RData}
use Rattle.zone_proto.specs.declared.rdata.RData.TheVariants as V
use Rattle.zone_proto.specs.declared.record.Record.{Record}
use Rattle.zone_proto.specs.Names.{Name, lower, name_eq, IsAbove, wildcard_under, is_wildcard, base_name}
use Rattle.zone_proto.specs.Sets.{RRset}
use Rattle.zone_proto.specs.Types.{NS, SOA, DS, RRSIG, DNAME}
use Rattle.zone_map.specs.Wildcards.{exists, renamed}
use Rattle.zone_map.specs.Zones.{Sets, IsZone, set_at, owns}
use Rattle.zone_denial.specs.Chains.{chain_sets, IsNsecChain}
use Rattle.zone_denial.specs.NsecDenial.{nsec_encloser}
use Rattle.denial_validation.specs.declared.proof.Proof.{Proof}
use Rattle.denial_validation.specs.declared.proof.Proof.TheVariants.{NameError, UnsignedDelegation, EmptyNonTerminal, NoData, WildcardNoData}
use Rattle.denial_validation.specs.Judgement.{nsec_proof}
use Rattle.denial_validation.specs.NsecProofs.{proves_name_error, proves_empty_answer, proves_wildcard_answer, proves_unsigned_delegation}
use Rattle.denial_validation.specs.NsecRecords.{NsecRecord}
use Rattle.denial_laws.specs.Chains.{IsInScopeOfChain}
use Rattle.denial_laws.specs.Scope.{read, AreOfZone, Unreferred, is_parents_ds}
use Rattle.denial_laws.specs.Soundness.{IsNoName, IsWithoutData, IsUnflattened, IsUnsignedDelegation, IsSound}
use Rattle.zone_response.specs.declared.response.Part.{Part}
use Rattle.zone_response.specs.declared.response.Part.TheVariants as part
use Rattle.zone_response.specs.Queries.{Zone, Query, inquiry}
use Rattle.zone_response.specs.Sections.{Sections, as_it_is}
use Rattle.response_laws.specs.Contents.{IsSynthesizedAlias, Origin}
use Rattle.response_laws.specs.Sayings.{Saying, data_of, name_error, no_data, referral, asks_alias, last_name, saying, name_of}
use Rattle.response_laws.specs.Servers.{Server}

-- ---- the zone

-- nothing at the origin or above it refers elsewhere
pub record IsUnreferred (z : Zone) : Type 0 where
  pub unreferred : Unreferred z.origin z.sets
  pub no_dname : (a : Name) → IsAbove a z.origin → IsFalse (owns z.sets a DNAME)

-- a zone that denies by NSEC: without the sets of NSEC3 that it may have besides, its NSEC sets are a chain, as BIND, ldns, Knot and this library write it
pub record DeniesByNsec (z : Zone) : Type 0 where
  pub kind : z.nx_proof_kind ≡ Some kind.Nsec
  pub zone : IsZone z.sets
  -- what denies are the zone's sets without those of denial that don't belong to its chain; what is there otherwise is
  -- the same
  pub denials : z.denials ≡ chain_sets z.nx_proof_kind z.sets
  pub chain : IsNsecChain z.origin z.denials
  pub top : IsUnreferred z

-- ---- signatures

-- how many labels a signature of an owner's set counts: `*` doesn't count (RFC 4034 section 3.1.3)
abbrev pub counted_labels : Name → ℕ
counted_labels n = length (cond (is_wildcard n) (base_name n) n)

-- a signature that a validator looks at for a set: it covers the type, the zone is the signer, and it counts the
-- owner's labels, so that the set wasn't made from a wildcard (RFC 4035 section 5.3.1)
abbrev pub signs : Name → RRset → RData → Bool
signs origin s (V.RRSIG d) = (d.type_covered.0 == s.record_type) && name_eq (lower d.signer_name) origin && (d.num_labels == counted_labels s.owner)
signs origin s _ = false

abbrev pub is_signed_by : Name → RRset → Bool
is_signed_by origin s = list_any (λ (r : Record). signs origin s r.rdata) s.signatures

-- each set of type t is signed so, other chains aside
abbrev pub AreSigned : Zone → ℕ → Type 0
AreSigned z t = (n : Name) (s : RRset) → set_at z.denials n t ≡ Some s → IsTrue (is_signed_by z.origin s)

-- ---- by either kind

-- a set of a name and a type is in the authority section, with its own TTL
pub record HasAuthority (z : Zone) (r : Sections) (p : Part) (x : Name) (t : ℕ) : Type 0 where
  pub stored : RRset
  pub stands : set_at z.sets x t ≡ Some stored
  pub among : Contains r.authorities (as_it_is p stored)

-- the servers of a child are told, and what is proved of its keys: their digests are there, or that it has none (RFC
-- 4035 section 3.1.4). A name that owns SOA too is the apex of a zone that is in this one, of which no record of the
-- parent is there
pub record IsProvedReferral (z : Zone) (r : Sections) (IsUnsigned : Name → Type 0) (c : Name) : Type 0 where
  pub servers : HasAuthority z r part.Records c NS
  pub keys : IsFalse (owns z.sets c SOA) → HasAuthority z r part.Signed c DS ⊎ IsUnsigned c

-- the data of a name that are an alias by a DNAME, which was asked for: the name is below the DNAME, where no record of denial tells of it
pub record IsAliasData (z : Zone) (q : Query) (r : Sections) (w : Saying) : Type 0 where
  pub name : Name
  pub says : w ≡ data_of name
  pub asked : IsTrue (asks_alias q.record_type)
  pub alias : RRset
  pub answer : last_name q.record_type q.name r.answers ≡ record { name = name; sets = alias ∷ [] }
  pub made : IsSynthesizedAlias (inquiry z q) r.answers alias

-- what a response says is proved, by records that prove of a set that a wildcard may answer with it, of a name that
-- there is none, that it has no data, that it is a child without keys; and that tell of such names
pub record ProvesBy (z : Zone) (q : Query) (r : Sections) (IsByWildcard : Name → ℕ → RRset → Type 0) (IsReported IsError IsEmpty IsUnsigned : Name → Type 0) : Type 0 where
  -- each set of the answer section is the zone's, or made of one that is
  pub answers : (s : RRset) → Contains r.answers s → Origin (inquiry z q) r.answers IsByWildcard s
  -- where each set of a type is signed by the zone, NS aside, so is each of these
  pub signatures : (t : ℕ) → t ≢ NS → AreSigned z t → (s : RRset) → Contains r.authorities s → s.record_type ≡ t → IsTrue (is_signed_by z.origin s)
  -- what is said is said of a name of which records tell, but for an alias by a DNAME that was asked for; and proved
  pub call_concludes : (w : Saying) → saying q r ≡ Some w → IsReported (name_of w) ⊎ IsAliasData z q r w
  pub error : (x : Name) → saying q r ≡ Some (name_error x) → IsError x
  pub empty : (x : Name) → saying q r ≡ Some (no_data x) → IsEmpty x
  pub delegation : (c : Name) → saying q r ≡ Some (referral c) → IsProvedReferral z r IsUnsigned c

-- what sums up to no data of type t; where DS is asked for, also that a zone cut has none
abbrev pub IsEmptyProof : ℕ → Option Proof → Type 0
IsEmptyProof t (Some NoData) = Unit {0}
IsEmptyProof t (Some EmptyNonTerminal) = Unit {0}
IsEmptyProof t (Some (WildcardNoData opted_out)) = opted_out ≡ false
IsEmptyProof t (Some UnsignedDelegation) = t ≡ DS
IsEmptyProof t _ = ⊥

-- ---- by NSEC

-- the NSEC records that a validator reads in the authority section
abbrev pub shown : Sections → List NsecRecord
shown r = read r.authorities

-- a set as it is found for a name by a wildcard: the wildcard's under that name, for which the wildcard may answer, as
-- the records rs prove (RFC 4035 section 3.1.3.3)
pub record IsFoundByWildcard (origin : Name) (m : Sets) (rs : List NsecRecord) (name : Name) (record_type : ℕ) (found : RRset) : Type 0 where
  pub encloser : Name
  pub stored : RRset
  pub stands : set_at m (wildcard_under encloser) record_type ≡ Some stored
  pub made : found ≡ renamed true (wildcard_under encloser) name stored
  pub proved : IsTrue (proves_wildcard_answer origin rs name encloser)

-- a type whose absence at x can be shown: not RRSIG, which the list of every signed name has; and not DS where the
-- parent denies it. Where x doesn't exist, the same of the wildcard at its closest encloser, which is no delegation
-- either, since no standard says what that makes of x (RFC 4592 section 4.2)
pub record HasProvableAbsence (origin : Name) (m : Sets) (x : Name) (t : ℕ) : Type 0 where
  pub no_signature : t ≢ RRSIG
  pub no_apex : t ≡ DS → IsFalse (is_parents_ds origin m x)
  pub no_wildcard_apex : IsFalse (exists m x) → t ≡ DS → IsFalse (is_parents_ds origin m (wildcard_under (nsec_encloser origin m x)))
  pub no_wildcard_cut : IsFalse (exists m x) → IsFalse (owns m (wildcard_under (nsec_encloser origin m x)) NS)

-- no ANAME of x stands in for addresses of type t; and where x doesn't exist, none of the wildcard at its closest
-- encloser. A lookup finds such an ANAME, of which no record tells that it leads to no addresses
pub record HasNoStandIn (origin : Name) (m : Sets) (x : Name) (t : ℕ) : Type 0 where
  pub own : IsUnflattened m x t
  pub wildcard_name : IsFalse (exists m x) → IsUnflattened m (wildcard_under (nsec_encloser origin m x)) t

-- there is no such name, and that is proved (RFC 4035 section 3.1.3.2)
pub record IsProvedError (z : Zone) (r : Sections) (x : Name) : Type 0 where
  pub proved : IsTrue (proves_name_error z.origin (shown r) x)
  pub call_concludes : (t : ℕ) → nsec_proof z.origin (shown r) x t ≡ Some (NameError false)
  pub none : IsNoName z.origin z.denials x

-- a name has no data of a type, and that is proved (RFC 4035 sections 3.1.3.1 and 3.1.3.4). A lookup asks no wildcard
-- for a name that begins with `*`
pub record IsProvedEmpty (z : Zone) (r : Sections) (x : Name) (t : ℕ) : Type 0 where
  pub proved : HasProvableAbsence z.origin z.denials x t → IsTrue (proves_empty_answer z.origin (shown r) x t)
  pub call_concludes : HasProvableAbsence z.origin z.denials x t → IsFalse (is_wildcard x) → IsEmptyProof t (nsec_proof z.origin (shown r) x t)
  pub none : HasProvableAbsence z.origin z.denials x t → IsFalse (is_wildcard x) → HasNoStandIn z.origin z.denials x t → IsWithoutData z.origin z.denials x t

-- a zone cut has no DS, and that is proved (RFC 4035 section 3.1.4)
pub record IsProvedUnsigned (z : Zone) (r : Sections) (c : Name) : Type 0 where
  pub proved : IsTrue (proves_unsigned_delegation z.origin (shown r) c)
  pub call_concludes : (t : ℕ) → nsec_proof z.origin (shown r) c t ≡ Some UnsignedDelegation
  pub none : IsUnsignedDelegation z.origin z.sets c

-- ---- all of it

pub record ProvesWhatItSays (z : Zone) (q : Query) (r : Sections) : Type 0 where
  pub says : ProvesBy z q r (IsFoundByWildcard z.origin z.sets (shown r)) (IsInScopeOfChain z.origin z.denials) (IsProvedError z r) (λ x. IsProvedEmpty z r x q.record_type) (IsProvedUnsigned z r)
  -- each NSEC record shown is of the zone's chain, and they prove nothing of any name but what is so
  pub records : AreOfZone z.denials (shown r)
  pub sound : (x : Name) → IsInScopeOfChain z.origin z.denials x → IsSound z.origin z.denials x (shown r)

-- ---- each response to a query with DNSSEC

abbrev pub ResponseProvesWhatItSays : Server → Type 0
ResponseProvesWhatItSays server = (z : Zone) (q : Query) (r : Sections) → DeniesByNsec z → IsTrue q.signed → server z q r → ProvesWhatItSays z q r

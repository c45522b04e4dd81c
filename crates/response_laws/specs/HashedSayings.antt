-- What a response of a zone that denies by NSEC3 proves to a validator, with opt-out and without
use Rattle.std.specs.Prelude.{◌≡◌, ◌≢◌, ℕ, Bool, ◌⊎◌, ◌&&◌, cond, List, flat_map, Option, Some, ◌==◌, IsTrue, IsFalse, true}
use Rattle.std.specs.List.{Contains}
use Rattle.zone_proto.specs.declared.nx_proof_kind.NxProofKind.TheVariants as kind
use Rattle.zone_proto.specs.declared.rdata.denial.NSEC3PARAM.{NSEC3PARAM as Nsec3Parameters}
use Rattle.zone_proto.specs.declared.record.Record.{Record}
use Rattle.zone_proto.specs.Names.{Name, is_at_or_above, IsAbove, wildcard_under, is_wildcard}
use Rattle.zone_proto.specs.Sets.{RRset}
use Rattle.zone_proto.specs.Types.{NS, CNAME, DS, RRSIG, NSEC3, DNAME}
use Rattle.zone_map.specs.Wildcards.{exists, renamed}
use Rattle.zone_map.specs.Zones.{Sets, IsZone, set_at, owns}
use Rattle.zone_denial.specs.Authority.{is_below_cut}
use Rattle.zone_denial.specs.Chains.{chain_sets, IsNsec3Chain}
use Rattle.zone_denial.specs.Nsec3Denial.{encloser_on}
use Rattle.zone_denial.specs.Nsec3Zones.{hash_with, IsHashedOn, HasDistinctDigests}
use Rattle.denial_validation.specs.declared.proof.Proof.{Proof}
use Rattle.denial_validation.specs.declared.proof.Proof.TheVariants.{NameError, UnsignedDelegation, WildcardNoData}
use Rattle.denial_validation.specs.Judgement.{nsec3_proof}
use Rattle.denial_validation.specs.Nsec3Proofs.{proves_name_error, proves_no_data, proves_empty_answer, proves_wildcard_answer, proves_unsigned_delegation}
use Rattle.denial_validation.specs.Nsec3Records.{Nsec3Record}
use Rattle.denial_laws.specs.Scope.{is_parents_ds}
use Rattle.denial_laws.specs.Nsec3Calls.{call_concludes}
use Rattle.denial_laws.specs.Nsec3Chains.{IsInNsec3ScopeOfChain, IsLeftOutOn, IsOptOutSoundOn}
use Rattle.denial_laws.specs.Nsec3Scope.{read_nsec3_sets, AreNsec3OfZone}
use Rattle.denial_laws.specs.Nsec3Soundness.{IsNsec3SoundOn}
use Rattle.denial_laws.specs.Soundness.{IsNoName, IsWithoutData, IsUnflattened, IsUnsignedDelegation}
use Rattle.zone_response.specs.Queries.{Zone, Query}
use Rattle.zone_response.specs.Sections.{Sections}
use Rattle.zone_response.specs.Wildcards.{source_of_synthesis}
use Rattle.response_laws.specs.ProvedSayings.{IsUnreferred, IsEmptyProof, ProvesBy}
use Rattle.response_laws.specs.Servers.{Server}

-- ---- the zone

-- the hash of a zone with these parameters
abbrev pub zone_hash : Zone → Nsec3Parameters → Name → Option (List ℕ)
zone_hash z parameters = hash_with z.digest_of parameters

-- a zone that denies by NSEC3 with these parameters: without the sets of NSEC and of other chains of NSEC3 that it may have besides, its NSEC3 sets are a chain, as BIND, ldns, Knot and this library write it
pub record DeniesByNsec3 (z : Zone) (parameters : Nsec3Parameters) : Type 0 where
  -- the flag Opt-Out is that of the NSEC3 records; the one that NSEC3PARAM has says nothing (RFC 5155 section 4.1.2)
  pub flag : Bool
  pub kind : z.nx_proof_kind ≡ Some (kind.Nsec3 parameters.algorithm parameters.salt parameters.iterations flag)
  pub zone : IsZone z.sets
  -- what denies are the zone's sets without those of denial that don't belong to its chain; what is there otherwise is
  -- the same
  pub denials : z.denials ≡ chain_sets z.nx_proof_kind z.sets
  -- the names that have NSEC3 sets
  pub names : List Name
  pub chain : IsNsec3Chain z.origin z.sets z.denials (zone_hash z parameters) parameters names
  pub top : IsUnreferred z

-- the hash tells apart the names that a denial of x hashes, and those that have NSEC3 sets
abbrev pub HashesDistinctly : Zone → Nsec3Parameters → List Name → Name → Type 0
HashesDistinctly z parameters names x = HasDistinctDigests (IsHashedOn names x) (zone_hash z parameters)

-- a name of the zone above which neither a zone cut nor a DNAME stands
pub record IsReached (origin : Name) (m : Sets) (x : Name) : Type 0 where
  pub inside : IsTrue (is_at_or_above origin x)
  pub uncut : IsFalse (is_below_cut origin m x)
  pub no_dname : (a : Name) → IsAbove a x → IsFalse (owns m a DNAME)

-- what a validator that has the hash of a zone tells by records of a name and a type: it finds the parameters in the records
abbrev pub concluded_by : Zone → List Record → Name → ℕ → Option Proof
concluded_by z rs x t = call_concludes z.digest_of z.origin rs x t

-- ---- the sets of a response

-- the NSEC3 records that a validator reads in the authority section
abbrev pub shown_nsec3 : Sections → List Nsec3Record
shown_nsec3 r = read_nsec3_sets r.authorities

-- what they sum up to, of a name and a type, by the hash of the zone
abbrev pub proof_in : Zone → Nsec3Parameters → Sections → Name → ℕ → Option Proof
proof_in z parameters r x t = nsec3_proof z.origin (zone_hash z parameters) (shown_nsec3 r) x t

-- all records of that section
abbrev pub shown_records : Sections → List Record
shown_records r = flat_map (λ s. s.records) r.authorities

-- a set as it is found for a name by a wildcard: the wildcard's under that name, for which the wildcard may answer, as
-- the records rs prove (RFC 5155 section 7.2.6), with opt-out too, and where the name over the wildcard has no NSEC3
-- set
pub record IsHashedFoundByWildcard (z : Zone) (parameters : Nsec3Parameters) (names : List Name) (rs : List Nsec3Record) (name : Name) (record_type : ℕ) (found : RRset) : Type 0 where
  pub encloser : Name
  pub stored : RRset
  pub stands : set_at z.sets (wildcard_under encloser) record_type ≡ Some stored
  pub made : found ≡ renamed true (wildcard_under encloser) name stored
  pub proved : HashesDistinctly z parameters names name → IsTrue (proves_wildcard_answer z.origin (zone_hash z parameters) rs name encloser)

-- ---- a name error

-- the standard has a proof of a name error of x: always without opt-out, and with it only where no wildcard exists
-- under the closest encloser that has an NSEC3 set, since that wildcard is to be denied (RFC 5155 section 7.2.2). Above
-- an empty non-terminal that opt-out leaves out one may stand
abbrev pub HasErrorProof : Zone → Nsec3Parameters → List Name → Name → Type 0
HasErrorProof z parameters names x = IsTrue parameters.opt_out → (e : Name) → encloser_on names x ≡ Some e → IsFalse (exists z.sets (wildcard_under e))

-- what the records of a name error sum up to. With opt-out it is insecure (RFC 5155 section 9.2), and of DS no more than that the name may be an unsigned delegation (section 8.6)
abbrev pub error_proof : Bool → ℕ → Proof
error_proof opt_out t = cond (t == DS && opt_out) UnsignedDelegation (NameError opt_out)

-- there is no such name, and that is proved (RFC 5155 section 7.2.2). With opt-out no more is proved of it than that what is there is left out
pub record IsHashedError (z : Zone) (parameters : Nsec3Parameters) (names : List Name) (r : Sections) (x : Name) : Type 0 where
  pub proved : HasErrorProof z parameters names x → IsTrue (proves_name_error z.origin (zone_hash z parameters) (shown_nsec3 r) x)
  pub call_concludes : HasErrorProof z parameters names x → (t : ℕ) → proof_in z parameters r x t ≡ Some (error_proof parameters.opt_out t)
  -- the wildcard that is denied, under the closest encloser that has an NSEC3 set, is the one that is asked for x; with
  -- opt-out another may be asked
  pub one_wildcard : IsFalse parameters.opt_out → (e : Name) → encloser_on names x ≡ Some e → source_of_synthesis z.sets x ≡ Some (wildcard_under e)
  pub left_out : IsLeftOutOn z.origin z.denials parameters.opt_out names x
  pub none : IsFalse parameters.opt_out → IsFalse (owns z.denials x NSEC3) → IsNoName z.origin z.denials x

-- ---- no data

-- a type whose absence at x can be shown, as `HasProvableAbsence` has it for NSEC: neither RRSIG, nor DS where the
-- parent denies it; and where x doesn't exist, the same of the wildcard at its closest encloser, which is no delegation
-- either
pub record HasHashedProvableAbsence (origin : Name) (m : Sets) (x : Name) (t : ℕ) : Type 0 where
  pub no_signature : t ≢ RRSIG
  pub no_apex : t ≡ DS → IsFalse (is_parents_ds origin m x)
  pub no_wildcard_apex : IsFalse (exists m x) → t ≡ DS → (w : Name) → source_of_synthesis m x ≡ Some w → IsFalse (is_parents_ds origin m w)
  pub no_wildcard_cut : IsFalse (exists m x) → (w : Name) → source_of_synthesis m x ≡ Some w → IsFalse (owns m w NS)

-- no ANAME stands in for addresses, as `HasNoStandIn` has it for NSEC: none of x, and where x doesn't exist, none of
-- the wildcard at its closest encloser
pub record HasNoHashedStandIn (m : Sets) (x : Name) (t : ℕ) : Type 0 where
  pub own : IsUnflattened m x t
  pub wildcard_name : IsFalse (exists m x) → (w : Name) → source_of_synthesis m x ≡ Some w → IsUnflattened m w t

-- opt-out leaves x out: it has no NSEC3 set
abbrev pub HasNoHashedSet : Nsec3Parameters → List Name → Name → Type 0
HasNoHashedSet parameters names x = IsTrue parameters.opt_out × (Contains names x → ⊥)

-- what may not be taken as secure (RFC 5155 section 9.2)
abbrev pub IsInsecure : Option Proof → Type 0
IsInsecure (Some (NameError opted_out)) = opted_out ≡ true
IsInsecure (Some (WildcardNoData opted_out)) = opted_out ≡ true
IsInsecure (Some UnsignedDelegation) = Unit {0}
IsInsecure _ = ⊥

-- what no data by its own record says of a name, with opt-out too: it has an NSEC3 set, and owns neither a set of the type nor an alias
pub record IsLacking (z : Zone) (names : List Name) (x : Name) (t : ℕ) : Type 0 where
  pub named : Contains names x
  pub none : t ≢ NSEC3 → IsFalse (owns z.denials x t)
  pub no_alias : IsFalse (owns z.sets x CNAME)

-- a name has no data of a type, and that is proved (RFC 5155 sections 7.2.3 to 7.2.5). Where opt-out leaves the name out, what is proved of it is insecure, and of DS that it may be an unsigned delegation
pub record IsHashedEmpty (z : Zone) (parameters : Nsec3Parameters) (names : List Name) (r : Sections) (x : Name) (t : ℕ) : Type 0 where
  pub proved : HasHashedProvableAbsence z.origin z.sets x t → IsTrue (proves_empty_answer z.origin (zone_hash z parameters) (shown_nsec3 r) x t)
  pub call_concludes : HasHashedProvableAbsence z.origin z.sets x t → IsEmptyProof t (proof_in z parameters r x t) ⊎ HasNoHashedSet parameters names x
  pub unsigned : HasNoHashedSet parameters names x → t ≡ DS → proof_in z parameters r x t ≡ Some UnsignedDelegation
  pub insecure : HasNoHashedSet parameters names x → IsInsecure (proof_in z parameters r x t) × IsLeftOutOn z.origin z.denials parameters.opt_out names x
  pub none : HasHashedProvableAbsence z.origin z.sets x t → IsFalse parameters.opt_out → IsFalse (is_wildcard x) → IsFalse (owns z.denials x NSEC3) → HasNoHashedStandIn z.sets x t → IsWithoutData z.origin z.denials x t

-- ---- a referral

-- a zone cut has no DS, and that is proved, by its own record or as one that opt-out leaves out (RFC 5155 sections 7.2.7 and 8.9)
pub record IsHashedUnsigned (z : Zone) (parameters : Nsec3Parameters) (r : Sections) (c : Name) : Type 0 where
  pub proved : IsTrue (proves_unsigned_delegation z.origin (zone_hash z parameters) (shown_nsec3 r) c)
  pub call_concludes : proof_in z parameters r c DS ≡ Some UnsignedDelegation
  pub none : IsUnsignedDelegation z.origin z.sets c

-- ---- all of it

-- what is said of a name is proved where the hash tells the names apart that a denial of it hashes
pub record ProvesByHashes (z : Zone) (parameters : Nsec3Parameters) (names : List Name) (q : Query) (r : Sections) : Type 0 where
  pub says : ProvesBy z q r (IsHashedFoundByWildcard z parameters names (shown_nsec3 r)) (IsReached z.origin z.sets)
      (λ x. HashesDistinctly z parameters names x → IsHashedError z parameters names r x)
      (λ x. HashesDistinctly z parameters names x → IsHashedEmpty z parameters names r x q.record_type)
      (λ c. HashesDistinctly z parameters names c → IsHashedUnsigned z parameters r c)
  -- each NSEC3 record shown is of the zone's chain, and they prove nothing of any name but what is so; with opt-out as far as that goes
  pub records : AreNsec3OfZone z.denials (shown_nsec3 r)
  pub sound : (x : Name) → IsInNsec3ScopeOfChain z.origin z.sets z.denials (zone_hash z parameters) parameters names x → IsNsec3SoundOn z.origin z.denials (zone_hash z parameters) names x (shown_nsec3 r)
  pub opt_out_sound : (x : Name) → HashesDistinctly z parameters names x → IsOptOutSoundOn z.origin z.denials (zone_hash z parameters) parameters.opt_out names x (shown_nsec3 r)
  pub data_sound : (x : Name) (t : ℕ) → HashesDistinctly z parameters names x → IsTrue (proves_no_data z.origin (zone_hash z parameters) (shown_nsec3 r) x t) → IsLacking z names x t
  -- a validator finds the zone's parameters in what is there: what it tells by these records is what they prove by the
  -- zone's hash
  pub parameters_found : (x : Name) (t : ℕ) → HashesDistinctly z parameters names x → concluded_by z (shown_records r) x t ≡ proof_in z parameters r x t

-- ---- each response to a query with DNSSEC

abbrev pub ResponseProvesByHashes : Server → Type 0
ResponseProvesByHashes server = (z : Zone) (parameters : Nsec3Parameters) (q : Query) (r : Sections) → (d : DeniesByNsec3 z parameters) → IsTrue q.signed → server z q r → ProvesByHashes z parameters d.names q r

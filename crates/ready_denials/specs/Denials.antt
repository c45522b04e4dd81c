-- What is kept of a zone to deny names one label below its origin that don't exist
use Rattle.std.specs.Prelude.{◌≡◌, ℕ, Bool, true, false, if◌then◌else◌, List, [], ◌∷◌, ◌++◌, option_to_list, Option, Some, None, Result, Err}
use Rattle.std.specs.Option.{option_map_or}
use Rattle.zone_proto.specs.Names.{Name, same_name, wildcard_under}
use Rattle.zone_proto.specs.Sets.{RRset}
use Rattle.zone_proto.specs.declared.error.ProtoError.{ProtoError}
use Rattle.zone_proto.specs.declared.error.ProtoError.TheVariants as errors
use Rattle.zone_proto.specs.declared.nx_proof_kind.NxProofKind.{NxProofKind}
use Rattle.zone_proto.specs.declared.nx_proof_kind.NxProofKind.TheVariants as kind
use Rattle.message_reading.specs.declared.query.Query.{Query}
use Rattle.message_writing.specs.KeptText.{AreKept}
use Rattle.message_writing.specs.declared.response.Section.TheVariants as sections
use Rattle.message_writing.specs.declared.response_writer.ResponseWriter.{ResponseWriter}
use Rattle.zone_denial.specs.Nsec3Lent.{owner_cmp}
use Rattle.zone_denial.specs.NsecDenial.{closest_nsec}
use Rattle.zone_denial.specs.TypeLists.{in_order}
use Rattle.zone_map.specs.Zones.{Sets}
use Rattle.zone_response.specs.ApexDenials.{child_denial, missing_child, HasPlainApex}
use Rattle.zone_response.specs.Denials.{hashed_owner_of, sent_proof}
use Rattle.zone_response.specs.HashedDenials.{covering, has_owner, hashed_by, matching, wildcard_set}
use Rattle.zone_response.specs.Queries.{Zone}
use Rattle.zone_response.specs.Responses.{lacks_proofs, negative_ttl, IsResponse}
use Rattle.zone_response.specs.Sections.{sent, Sections}
use Rattle.zone_response.specs.declared.response.Part.TheVariants as part
use Rattle.zone_server.specs.Answers.{asked_of, records_sent, IsSent}
use Rattle.zone_server.specs.Sending.{PutsSets}
use Rattle.ready_denials.specs.declared.kept_denials.HashedProof.{HashedProof}
use Rattle.ready_denials.specs.declared.kept_denials.KeptProof.{KeptProof}
use Rattle.ready_denials.specs.declared.kept_denials.ReadyDenial.{ReadyDenial}
use Rattle.ready_denials.specs.declared.kept_denials.ReadyProof.{ReadyProof}
use Rattle.ready_denials.specs.declared.kept_denials.ReadyProof.TheVariants as proof

-- ---- what is kept

-- an NSEC set is kept as it is sent in negative responses of this TTL, if there is one
abbrev pub IsKeptProof : Name → ℕ → Option RRset → Option KeptProof → Type 0
IsKeptProof origin ttl None None = Unit {0}
IsKeptProof origin ttl None (Some k) = ⊥
IsKeptProof origin ttl (Some s) None = ⊥
IsKeptProof origin ttl (Some s) (Some k) = (k.owner ≡ s.owner) × AreKept origin (records_sent (sent_proof ttl s)) k.records

-- by a hash: the NSEC3 sets that match the origin and the wildcard below it, or cover that, which both have hashed owners
pub record IsHashedProof (origin : Name) (m : Sets) (hash : Name → Result Name ProtoError) (p : HashedProof) : Type 0 where
  pub origin_hashed : has_owner (hash origin) ≡ true
  pub wildcard_hashed : has_owner (hash (wildcard_under origin)) ≡ true
  pub encloser : matching origin m (hashed_by hash) origin ≡ Some p.encloser
  pub wildcard : wildcard_set origin m (hashed_by hash) origin ≡ p.wildcard

-- the hashed owner of a name in a zone that denies so; none where it denies otherwise
abbrev pub hash_by : Zone → Option NxProofKind → Name → Result Name ProtoError
hash_by z (Some (kind.Nsec3 algorithm salt iterations opt_out)) x = hashed_owner_of z algorithm salt iterations x
hash_by z (Some kind.Nsec) x = Err errors.Hash
hash_by z None x = Err errors.Hash

-- it proves what negative responses of this TTL say of names below the origin of a zone that denies so
abbrev pub IsProvedBy : Zone → ℕ → Option NxProofKind → ReadyProof → Type 0
IsProvedBy z ttl (Some (kind.Nsec3 algorithm salt iterations opt_out)) (proof.Hashes p) =
    IsHashedProof z.origin z.denials (hash_by z (Some (kind.Nsec3 algorithm salt iterations opt_out))) p
IsProvedBy z ttl (Some (kind.Nsec3 algorithm salt iterations opt_out)) (proof.Names k) = ⊥
IsProvedBy z ttl (Some kind.Nsec) (proof.Hashes p) = ⊥
IsProvedBy z ttl (Some kind.Nsec) (proof.Names k) = IsKeptProof z.origin ttl (closest_nsec z.denials (wildcard_under z.origin)) k
IsProvedBy z ttl None (proof.Hashes p) = ⊥
IsProvedBy z ttl None (proof.Names k) = IsKeptProof z.origin ttl (closest_nsec z.denials (wildcard_under z.origin)) k

-- Of a zone: this SOA set of its origin, where nothing else there turns what is said, and what proves it.
pub record IsDenialBy (z : Zone) (soa : RRset) (d : ReadyDenial) : Type 0 where
  pub apex : HasPlainApex z.sets z.origin soa
  pub ttl_is : d.ttl ≡ negative_ttl soa
  pub plain : AreKept z.origin (records_sent (sent part.Records (negative_ttl soa) soa)) d.soa
  pub signed : AreKept z.origin (records_sent (sent part.Signed (negative_ttl soa) soa)) d.signed_soa
  pub proved : IsProvedBy z (negative_ttl soa) z.nx_proof_kind d.proof

abbrev pub IsDenial : Zone → ReadyDenial → Type 0
IsDenial z d = (soa : RRset) × IsDenialBy z soa d

-- octets are the response of a zone to a query, as it is sent
pub record IsDenied (z : Zone) (limit : ℕ) (q : Query) (octets : List ℕ) : Type 0 where
  pub said : Sections
  pub says : IsResponse z (asked_of q) said
  pub sent : IsSent limit q said octets

-- ---- on the way

-- sets were put at the end of the authority section
abbrev pub Puts : List RRset → ResponseWriter → List ℕ → ResponseWriter → List ℕ → Type 0
Puts = PutsSets sections.Authorities

-- there is a set, of this owner
abbrev pub is_owned : Option RRset → Name → Bool
is_owned there owner = option_map_or (λ (s : RRset). same_name s.owner owner) there false

-- a set, unless one of its owner is there
abbrev pub unless_owned : Option RRset → Option RRset → Option RRset
unless_owned there None = None
unless_owned there (Some s) = if is_owned there s.owner then None else Some s

-- what proves it by NSEC: the set that covers the name, and this one, which covers the wildcard
abbrev pub named_sets : Sets → Name → Option RRset → List RRset
named_sets m x wildcard_name = option_to_list (closest_nsec m x) ++ option_to_list (unless_owned (closest_nsec m x) wildcard_name)

-- by NSEC3: the set that covers the name, and those of its closest encloser and of the wildcard
abbrev pub hashed_sets : Name → Sets → (Name → Result Name ProtoError) → Name → HashedProof → List RRset
hashed_sets origin m hash x p = in_order owner_cmp (p.encloser ∷ (option_to_list (covering origin m (hashed_by hash) x) ++ option_to_list p.wildcard))

-- the authority section of a denial was put, and the denial can be proved where it has to be
pub record PutsDenial (z : Zone) (soa : RRset) (signed : Bool) (x : Name) (before : ResponseWriter) (old : List ℕ) (after : ResponseWriter) (new : List ℕ) : Type 0 where
  pub proven : lacks_proofs z signed [] (missing_child x) ≡ false
  pub put : Puts (child_denial z soa signed x).authorities before old after new

-- the same of the whole response
pub record IsWrittenDenial (z : Zone) (soa : RRset) (limit : ℕ) (q : Query) (x : Name) (octets : List ℕ) : Type 0 where
  pub proven : lacks_proofs z (asked_of q).signed [] (missing_child x) ≡ false
  pub sent : IsSent limit q (child_denial z soa (asked_of q).signed x) octets

-- A zone as it is planned to be signed
use Rattle.std.specs.Prelude.{◌≡◌, ℕ, min, List, length, Some, None, slice_get, if◌then◌else◌}
use Rattle.std.specs.List.{list_any}
use Rattle.std.specs.Option.{option_map_or, option_or}
use Rattle.zone_proto.specs.declared.nx_proof_kind.NxProofKind.{NxProofKind}
use Rattle.zone_proto.specs.declared.nx_proof_kind.NxProofKind.TheVariants as kind
use Rattle.zone_proto.specs.declared.rdata.denial.NSEC3PARAM.{NSEC3PARAM as Nsec3Parameters}
use Rattle.zone_proto.specs.declared.rr_key.RrKey.{RrKey}
use Rattle.zone_proto.specs.Keys.{key_eq}
use Rattle.zone_proto.specs.Names.{Name}
use Rattle.zone_proto.specs.Sets.{RRset}
use Rattle.zone_proto.specs.Types.{SOA, NSEC, NSEC3}
use Rattle.zone_map.specs.Zones.{Sets, set_at}
use Rattle.zone_sha1.specs.Digests.{name_digest}
use Rattle.zone_denial.specs.NsecSets.{nsec_set_at}
use Rattle.zone_denial.specs.Nsec3Sets.{nsec3_sets_at}
use Rattle.zone_denial.specs.Nsec3Zones.{hash_with}
use Rattle.zone_lookup.specs.StartOfAuthority.{minimum, serial}
use Rattle.zone_signing.specs.Secured.{SetsBy, stays, IsSecured}
use Rattle.zone_keys.specs.KeyTags.{key_tag}
use Rattle.zone_planning.specs.declared.signer.PlanSigner.{PlanSigner}
use Rattle.zone_planning.specs.Answering.{plans}
use Rattle.zone_planner.specs.declared.keys.PlannedKey.{PlannedKey}
use Rattle.zone_planner.specs.declared.request.Request.{Request}
use Rattle.zone_planner.specs.Keys.{keyed}
use Rattle.zone_planner.specs.Zones.{left_out}
use Rattle.zone_trimming.specs.Trimming.{trimmed_at}

-- ---- the denials of the zone

-- the TTL of the SOA set, 0 without one
abbrev pub soa_ttl : Sets → Name → ℕ
soa_ttl m origin = option_map_or (λ (s : RRset). s.ttl) (set_at m origin SOA) 0

-- the TTL of denials: the lesser of the SOA's minimum and its own TTL (RFC 9077 section 3)
abbrev pub denial_ttl : Sets → Name → ℕ
denial_ttl m origin = min (minimum m origin) (soa_ttl m origin)

-- the sets of a zone with its NSEC sets, trimmed as the standards have them
abbrev pub denied_by_names : Name → Sets → SetsBy
denied_by_names origin m n t =
    option_or (trimmed_at (nsec_set_at origin m (denial_ttl m origin) (serial m origin)) n t) (if stays (Some NSEC) t then set_at m n t else None)

-- the same with the NSEC3 sets of these parameters, and the NSEC3PARAM set
abbrev pub denied_by_hashes : Name → Sets → Nsec3Parameters → SetsBy
denied_by_hashes origin m p n t =
    option_or (trimmed_at (nsec3_sets_at origin m (hash_with name_digest p) p (denial_ttl m origin) (serial m origin)) n t) (if stays (Some NSEC3) t then set_at m n t else None)

abbrev pub denied_by : NxProofKind → Name → Sets → SetsBy
denied_by kind.Nsec origin m = denied_by_names origin m
denied_by (kind.Nsec3 algorithm salt iterations opt_out) origin m =
    denied_by_hashes origin m (record { algorithm = algorithm; opt_out = opt_out; iterations = iterations; salt = salt })

-- ---- its signers

-- The planning signer of a key of this number: it has the key and its tag, signs what the key signs, and is of this origin; its signatures end when that is asked for; and
-- it leaves out exactly the sets under these keys.
pub record IsSignerOf (origin : Name) (request : Request) (unsigned : List RrKey) (number : ℕ) (k : PlannedKey) (s : PlanSigner) : Type 0 where
  pub numbered : s.number ≡ number
  pub key : s.key ≡ k.key
  pub tagged : s.key_tag ≡ key_tag k.key
  pub for_keys : s.signs_keys ≡ k.signs_keys
  pub for_others : s.signs_others ≡ k.signs_others
  pub owner : s.origin ≡ origin
  pub ends : s.expiration ≡ request.expiration
  pub earlier : s.jitter ≡ request.jitter
  pub left_out : (q : RrKey) → list_any (key_eq q) s.left_out.keys ≡ list_any (key_eq q) unsigned

-- one for each key, in their order
pub record AreSignersOf (origin : Name) (keys : List PlannedKey) (request : Request) (unsigned : List RrKey) (signers : List PlanSigner) : Type 0 where
  pub count : length signers ≡ length keys
  pub each : (i : ℕ) (k : PlannedKey) (s : PlanSigner) → slice_get keys i ≡ Some k → slice_get signers i ≡ Some s → IsSignerOf origin request unsigned i k s

-- ---- the plan

-- The sets of a zone with the records of its keys and the denials that are asked for, secured by a planning signer of each key: but for what stands below zone cuts, and at
-- them besides DS and NSEC (RFC 4035 section 2.2).
pub record IsPlanned (origin : Name) (keys : List PlannedKey) (request : Request) (before after : Sets) : Type 0 where
  pub signers : List PlanSigner
  pub of_keys : AreSignersOf origin keys request (left_out origin before) signers
  pub secured : IsSecured plans request.inception origin signers (denied_by request.nx_proof_kind origin (keyed origin keys request before)) after

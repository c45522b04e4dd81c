-- What a signed zone has after an update
use Rattle.std.specs.Prelude.{◌≡◌, ℕ, List, Option, Some, IsTrue}
use Rattle.zone_proto.specs.declared.nx_proof_kind.NxProofKind.TheVariants as kind
use Rattle.zone_proto.specs.declared.rdata.denial.NSEC3PARAM.{NSEC3PARAM as Nsec3Parameters}
use Rattle.zone_proto.specs.declared.rdata.signing.DNSKEY.{DNSKEY}
use Rattle.zone_proto.specs.Names.{Name, IsName, lower}
use Rattle.zone_proto.specs.Signing.{SignedPart}
use Rattle.zone_proto.specs.Types.{DNSKEY as dnskey_type}
use Rattle.zone_map.specs.Renewals.{with_signatures}
use Rattle.zone_map.specs.Zones.{Sets, IsZone, set_at}
use Rattle.zone_sha1.specs.Digests.{name_digest}
use Rattle.zone_denial.specs.Chains.{chain_sets, IsNsecChain, IsNsec3Chain}
use Rattle.zone_denial.specs.Nsec3Names.{nsec3_names}
use Rattle.zone_denial.specs.Nsec3Zones.{hash_with, IsCircleName, HasDistinctDigests}
use Rattle.zone_keeping.specs.Keeping.{answers_left}
use Rattle.zone_keeping.specs.Usable.{usable_keys}
use Rattle.zone_planner.specs.Keys.{keyed}
use Rattle.zone_planning.specs.declared.plans.Plan.{Plan}
use Rattle.zone_planning.specs.declared.signer.PlanSigner.{PlanSigner}
use Rattle.zone_planning.specs.Filling.{filled}
use Rattle.zone_update.specs.declared.entry.Entry.{Entry}
use Rattle.update_denials.specs.declared.preparing.Signing.{Signing}
use Rattle.update_denials.specs.Prepared.{keys_of, IsPrepared}

module _ (octets_of : PlanSigner → SignedPart → List ℕ) (origin : Name) (old : Sets) (prerequisites changes : List Entry) (signing : Signing) (plan : Plan) where
  -- the zone of an update that is prepared, once what is left blank is answered, by whoever and with whatever octets
  abbrev pub answered : IsPrepared origin old prerequisites changes signing plan → Sets
  answered p =
      with_signatures plan.records
      (filled plan.records
      (answers_left octets_of signing.span (usable_keys (keys_of signing) (set_at old origin dnskey_type)) old signing.request.inception
      p.made.planned.is_planned.signers p.made.planned.blank))

-- with NSEC it has a chain of NSEC sets
abbrev pub UpdatedIsNsecChain : Type 0
UpdatedIsNsecChain = (octets_of : PlanSigner → SignedPart → List ℕ) (origin : Name) (old : Sets) (prerequisites changes : List Entry) (signing : Signing) (plan : Plan)
    → IsName origin → lower origin ≡ origin → signing.request.nx_proof_kind ≡ kind.Nsec
    → (p : IsPrepared origin old prerequisites changes signing plan) → IsZone (answered octets_of origin old prerequisites changes signing plan p)
    → IsNsecChain origin (answered octets_of origin old prerequisites changes signing plan p)

-- the zone with its keys, before it gets denials
abbrev pub with_keys : (origin : Name) (old : Sets) (prerequisites changes : List Entry) (signing : Signing) (plan : Plan) → IsPrepared origin old prerequisites changes signing plan → Sets
with_keys origin old prerequisites changes signing plan p = keyed origin signing.keys.items signing.request p.made.bare

-- with NSEC3 it has a chain of NSEC3 sets, where the hash tells the names of the chain apart
abbrev pub UpdatedIsNsec3Chain : Type 0
UpdatedIsNsec3Chain = (octets_of : PlanSigner → SignedPart → List ℕ) (origin : Name) (old : Sets) (prerequisites changes : List Entry) (signing : Signing) (plan : Plan) (beside : Sets) (parameters : Nsec3Parameters)
    → signing.request.nx_proof_kind ≡ kind.Nsec3 parameters.algorithm parameters.salt parameters.iterations parameters.opt_out
    → (p : IsPrepared origin old prerequisites changes signing plan) → IsZone (answered octets_of origin old prerequisites changes signing plan p)
    → HasDistinctDigests (IsCircleName origin (with_keys origin old prerequisites changes signing plan p) parameters.opt_out) (hash_with name_digest parameters)
    → IsNsec3Chain origin beside (answered octets_of origin old prerequisites changes signing plan p) (hash_with name_digest parameters) parameters
    (nsec3_names origin (answered octets_of origin old prerequisites changes signing plan p) parameters.opt_out)

-- and its sets are all of that chain
abbrev pub UpdatedNsec3SetsStay : Type 0
UpdatedNsec3SetsStay = (octets_of : PlanSigner → SignedPart → List ℕ) (origin : Name) (old : Sets) (prerequisites changes : List Entry) (signing : Signing) (plan : Plan) (parameters : Nsec3Parameters)
    → signing.request.nx_proof_kind ≡ kind.Nsec3 parameters.algorithm parameters.salt parameters.iterations parameters.opt_out
    → (p : IsPrepared origin old prerequisites changes signing plan) → IsZone (answered octets_of origin old prerequisites changes signing plan p)
    → HasDistinctDigests (IsCircleName origin (with_keys origin old prerequisites changes signing plan p) parameters.opt_out) (hash_with name_digest parameters)
    → chain_sets (Some (kind.Nsec3 parameters.algorithm parameters.salt parameters.iterations parameters.opt_out)) (answered octets_of origin old prerequisites changes signing plan p)
    ≡ answered octets_of origin old prerequisites changes signing plan p

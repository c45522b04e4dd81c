-- A zone that is served after an update, and what its responses prove
use Rattle.std.specs.Prelude.{◌≡◌, ℕ, List, Some, IsTrue}
use Rattle.zone_proto.specs.declared.nx_proof_kind.NxProofKind.TheVariants as kind
use Rattle.zone_proto.specs.declared.rdata.denial.NSEC3PARAM.{NSEC3PARAM as Nsec3Parameters}
use Rattle.zone_proto.specs.Names.{IsName, lower}
use Rattle.zone_map.specs.Renewals.{with_signatures}
use Rattle.zone_map.specs.Zones.{Sets}
use Rattle.zone_sha1.specs.Digests.{name_digest}
use Rattle.zone_denial.specs.Chains.{chain_sets}
use Rattle.zone_denial.specs.Nsec3Names.{nsec3_names}
use Rattle.zone_denial.specs.Nsec3Zones.{IsCircleName, HasDistinctDigests}
use Rattle.zone_planning.specs.declared.plans.Plan.{Plan}
use Rattle.zone_planning.specs.Filling.{filled}
use Rattle.zone_response.specs.Queries.{Zone, Query}
use Rattle.zone_response.specs.Sections.{Sections}
use Rattle.zone_update.specs.declared.entry.Entry.{Entry}
use Rattle.update_denials.specs.declared.preparing.Signing.{Signing}
use Rattle.update_denials.specs.Prepared.{IsPrepared}
use Rattle.response_laws.specs.HashedSayings.{zone_hash, DeniesByNsec3, ProvesByHashes}
use Rattle.response_laws.specs.ProvedSayings.{IsUnreferred, DeniesByNsec, ProvesWhatItSays}
use Rattle.response_laws.specs.Servers.{Server}

-- A zone whose sets are those after an update of the sets `old` that was prepared, with these signatures in the places of the blank ones, as
-- `commit` gives them; it denies as was asked for, by the sets of its chain
pub record IsUpdated (old : Sets) (prerequisites changes : List Entry) (signing : Signing) (plan : Plan) (signatures : List (List ℕ)) (z : Zone) : Type 0 where
  pub is_prepared : IsPrepared z.origin old prerequisites changes signing plan
  pub sets : z.sets ≡ with_signatures plan.records (filled plan.records signatures)
  pub kind : z.nx_proof_kind ≡ Some signing.request.nx_proof_kind
  pub denials : z.denials ≡ chain_sets z.nx_proof_kind z.sets

-- nothing at its origin or above it refers elsewhere
abbrev pub UpdatedIsUnreferred : Type 0
UpdatedIsUnreferred = (old : Sets) (prerequisites changes : List Entry) (signing : Signing) (plan : Plan) (signatures : List (List ℕ)) (z : Zone)
    → IsUpdated old prerequisites changes signing plan signatures z → IsUnreferred z

-- ---- with NSEC

-- it denies by a chain of NSEC sets
abbrev pub UpdatedDeniesByNsec : Type 0
UpdatedDeniesByNsec = (old : Sets) (prerequisites changes : List Entry) (signing : Signing) (plan : Plan) (signatures : List (List ℕ)) (z : Zone)
    → IsName z.origin → lower z.origin ≡ z.origin → signing.request.nx_proof_kind ≡ kind.Nsec
    → IsUpdated old prerequisites changes signing plan signatures z → DeniesByNsec z

-- and each of its responses to a query with DNSSEC proves what it says
abbrev pub UpdatedProvesWhatItSays : Server → Type 0
UpdatedProvesWhatItSays server = (old : Sets) (prerequisites changes : List Entry) (signing : Signing) (plan : Plan) (signatures : List (List ℕ)) (z : Zone) (q : Query) (r : Sections)
    → IsName z.origin → lower z.origin ≡ z.origin → signing.request.nx_proof_kind ≡ kind.Nsec
    → IsUpdated old prerequisites changes signing plan signatures z → IsTrue q.signed → server z q r → ProvesWhatItSays z q r

-- ---- with NSEC3, where the hash tells the names of the chain apart

-- it denies by a chain of NSEC3 sets
abbrev pub UpdatedDeniesByNsec3 : Type 0
UpdatedDeniesByNsec3 = (old : Sets) (prerequisites changes : List Entry) (signing : Signing) (plan : Plan) (signatures : List (List ℕ)) (z : Zone) (parameters : Nsec3Parameters)
    → signing.request.nx_proof_kind ≡ kind.Nsec3 parameters.algorithm parameters.salt parameters.iterations parameters.opt_out
    → IsUpdated old prerequisites changes signing plan signatures z
    → z.digest_of ≡ name_digest → HasDistinctDigests (IsCircleName z.origin z.sets parameters.opt_out) (zone_hash z parameters)
    → DeniesByNsec3 z parameters

-- and each of its responses to a query with DNSSEC proves what it says
abbrev pub UpdatedProvesByHashes : Server → Type 0
UpdatedProvesByHashes server = (old : Sets) (prerequisites changes : List Entry) (signing : Signing) (plan : Plan) (signatures : List (List ℕ)) (z : Zone) (parameters : Nsec3Parameters) (q : Query) (r : Sections)
    → signing.request.nx_proof_kind ≡ kind.Nsec3 parameters.algorithm parameters.salt parameters.iterations parameters.opt_out
    → IsUpdated old prerequisites changes signing plan signatures z
    → z.digest_of ≡ name_digest → HasDistinctDigests (IsCircleName z.origin z.sets parameters.opt_out) (zone_hash z parameters)
    → IsTrue q.signed → server z q r → ProvesByHashes z parameters (nsec3_names z.origin z.sets parameters.opt_out) q r

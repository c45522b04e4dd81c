-- What the call `nsec3::proof` of `denial_validation` makes of records of a zone: it finds the zone's parameters in them
use Rattle.std.specs.Prelude.{◌≡◌, ℕ, List, Option, Some, None, is_some, IsTrue}
use Rattle.std.specs.List.{Contains}
use Rattle.zone_proto.specs.declared.rdata.denial.NSEC3PARAM.{NSEC3PARAM as Nsec3Parameters}
use Rattle.zone_proto.specs.declared.record.Record.{Record}
use Rattle.zone_proto.specs.Names.{Name}
use Rattle.zone_proto.specs.Sets.{RRset}
use Rattle.zone_proto.specs.Types.{NSEC3}
use Rattle.zone_map.specs.Zones.{Sets, set_at}
use Rattle.zone_denial.specs.Nsec3Zones.{IsNsec3Zone, IsHashed, HasDistinctDigests, hash_with}
use Rattle.denial_validation.specs.declared.proof.Proof.{Proof}
use Rattle.denial_validation.specs.Judgement.{nsec3_proof}
use Rattle.denial_validation.specs.Nsec3Parameters.{concluded}
use Rattle.denial_validation.specs.Nsec3Records.{nsec3_data, nsec3_records}

-- each NSEC3 record among the records of a response is in an NSEC3 set of the zone; there may be others beside
abbrev pub StandInNsec3Sets : Sets → List Record → Type 0
StandInNsec3Sets m rs = (r : Record) → Contains rs r → IsTrue (is_some (nsec3_data r.rdata)) → (o : Name) × (s : RRset) × (set_at m o NSEC3 ≡ Some s) × Contains s.records r

-- what the call tells by them of a name and a type, with a hash that has digests by algorithm, salt, name and iterations
abbrev pub call_concludes : (ℕ → List ℕ → Name → ℕ → Option (List ℕ)) → Name → List Record → Name → ℕ → Option Proof
call_concludes digest_of origin rs x t = concluded digest_of origin x rs None (λ hash known. nsec3_proof origin hash known x t)

-- it is what they prove by the hash with the parameters of the zone
abbrev pub Nsec3ParametersFound : Type 0
Nsec3ParametersFound = (origin : Name) (m : Sets) (digest_of : ℕ → List ℕ → Name → ℕ → Option (List ℕ)) (parameters : Nsec3Parameters) (rs : List Record) (x : Name) (t : ℕ)
    → IsNsec3Zone origin m (hash_with digest_of parameters) parameters → HasDistinctDigests (IsHashed origin m parameters.opt_out x) (hash_with digest_of parameters) → StandInNsec3Sets m rs
    → call_concludes digest_of origin rs x t ≡ nsec3_proof origin (hash_with digest_of parameters) (nsec3_records rs) x t

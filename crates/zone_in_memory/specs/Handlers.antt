-- A zone as contracts see it
use Rattle.std.specs.Prelude.{◌≡◌, ℕ, Option}
use Rattle.zone_proto.specs.declared.nx_proof_kind.NxProofKind.{NxProofKind}
use Rattle.zone_proto.specs.declared.rr_key.RrKey.{RrKey}
use Rattle.zone_proto.specs.Names.{Name, lower}
use Rattle.zone_proto.specs.Types.{IN, SOA}
use Rattle.zone_handler.specs.declared.axfr_policy.AxfrPolicy.{AxfrPolicy}
use Rattle.zone_handler.specs.declared.zone_type.ZoneType.{ZoneType}
use Rattle.zone_map.specs.Zones.{Sets, IsZone}
use Rattle.zone_lookup.specs.Inner.{Inner}

-- a zone: the name at its top, its class, what the server is to it, who may transfer it, how it denies, its sets and signers, and the hash of its denials
pub record Zone (S H : Type 0) : Type 0 where
  pub origin : Name
  pub class : ℕ
  pub zone_type : ZoneType
  pub axfr_policy : AxfrPolicy
  pub kind : Option NxProofKind
  pub inner : Inner S
  pub hash : H

-- what holds of every zone in memory: the key of its SOA is that of an origin in lower case, its class is IN, and its sets are those of a zone
pub record IsHandler (apex : RrKey) (class : ℕ) (m : Sets) : Type 0 where
  pub origin : lower apex.name ≡ apex.name
  pub soa : apex.record_type.0 ≡ SOA
  pub internet : class ≡ IN
  pub sets : IsZone m

-- A plan as it is held while its signatures are made
use Rattle.std.specs.Prelude.{ℕ, List}
use Rattle.zone_proto.specs.declared.rdata.signing.DNSKEY.{DNSKEY}
use Rattle.zone_proto.specs.Names.{Name}
use Rattle.zone_map.specs.Zones.{Sets}
use Rattle.zone_planning.specs.Frames.{Asked}

pub record PlanState : Type 0 where
  -- the origin of the zone, and the serial of the zone that was planned
  pub origin : Name
  pub serial : ℕ
  -- the planned sets, with blank signatures, and the keys by their numbers
  pub records : Sets
  pub keys : List DNSKEY
  -- what is still to be handed out to be signed, and the signatures that were given
  pub asked : List Asked
  pub signatures : List (List ℕ)

use Rattle.zone_proto.specs.Keys.{key}
use Rattle.zone_map.proofs.Stored.{IsZone-none, IsZone-put, IsZone-without}
use Rattle.zone_map.proofs.Upserting.{IsZone-upserted}
use Rattle.zone_in_memory.proofs.laws.zones_stay_zones.Goals as goal

pub returns-clause-empty : goal.returns-clause-empty
returns-clause-empty c = IsZone-none

pub returns-clause-put : goal.returns-clause-put
returns-clause-put c = λ m n t s zone h. IsZone-put m (key n t) s zone h

pub returns-clause-without : goal.returns-clause-without
returns-clause-without c = λ m n t zone. IsZone-without m (key n t) zone

pub returns-clause-insertion : goal.returns-clause-insertion
returns-clause-insertion c = λ m after class r serial zone named e. IsZone-upserted m class r serial after zone named e

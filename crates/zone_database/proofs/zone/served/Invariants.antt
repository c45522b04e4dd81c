use Rattle.std.proofs.Common.{take}
use Rattle.zone_database.specs.Zones.{IsServed}
use Rattle.zone_database.proofs.zone.served.Given as goal

-- those so far are as they are asked
abbrev pub invariant-loop-zone : goal.invariant-loop-zone
invariant-loop-zone l = IsServed (take l.zone-index l.zones) l.served.items

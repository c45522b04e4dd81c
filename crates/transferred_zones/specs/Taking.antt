-- What is taken of an answer that has come to its end
use Rattle.std.specs.Prelude.{◌≡◌, List, Result, Ok, Err}
use Rattle.zone_proto.specs.Names.{Name}
use Rattle.zone_proto.specs.declared.record.Record.{Record}
use Rattle.transfer_reading.specs.Outcomes.{serial, zone_of, Said}
use Rattle.transfer_reading.specs.declared.fault.OutcomeFault.{OutcomeFault}
use Rattle.transferred_zones.specs.TransferredZones.{IsZoneFault, IsZoneOf}
use Rattle.transferred_zones.specs.declared.fault.TakeFault.{TakeFault}
use Rattle.transferred_zones.specs.declared.fault.TakeFault.TheVariants.{Answer, NoZone, LeftOut, Memory}
use Rattle.transferred_zones.specs.declared.taking.Taken.{Taken}
use Rattle.transferred_zones.specs.declared.taking.Taken.TheVariants.{Zone, Serial}

-- the zone of the records that the answer says, or the serial that it says
abbrev pub IsTaken : Name → Result Said OutcomeFault → Taken → Type 0
IsTaken origin said (Zone m) = (rs : List Record) × (said ≡ Ok (zone_of rs)) × IsZoneOf origin rs m
IsTaken origin said (Serial n) = said ≡ Ok (serial n)

-- why nothing is: the answer says nothing, or records that make no zone; or memory ran out
abbrev pub IsTakeFault : Name → Result Said OutcomeFault → TakeFault → Type 0
IsTakeFault origin said (Answer e) = said ≡ Err e
IsTakeFault origin said (NoZone e) = (rs : List Record) × (said ≡ Ok (zone_of rs)) × IsZoneFault origin rs (NoZone e)
IsTakeFault origin said (LeftOut w) = (rs : List Record) × (said ≡ Ok (zone_of rs)) × IsZoneFault origin rs (LeftOut w)
IsTakeFault origin said Memory = Unit {0}

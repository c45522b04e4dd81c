-- What an answer says: the zone, or the serial that the primary has
use Rattle.std.specs.Prelude.{◌≡◌, ℕ, ◌-◌, true, List, length, take, drop, Result, Ok, Err, Vec}
use Rattle.zone_proto.specs.Names.{Name}
use Rattle.zone_proto.specs.declared.record.Record.{Record}
use Rattle.transfer_reading.specs.Differences.{◌>>=◌, all_records, changed, held_of, Held, IsOutcomeFault}
use Rattle.transfer_reading.specs.Transfers.{Course}
use Rattle.transfer_reading.specs.declared.fault.OutcomeFault.{OutcomeFault}
use Rattle.transfer_reading.specs.declared.fault.OutcomeFault.TheVariants.{Incomplete}
use Rattle.transfer_reading.specs.declared.outcome.Outcome.{Outcome}
use Rattle.transfer_reading.specs.declared.outcome.Outcome.TheVariants as outcomes
use Rattle.transfer_reading.specs.declared.stage.Stage.{Stage}
use Rattle.transfer_reading.specs.declared.stage.Stage.TheVariants.{WholeZone, AllDifferences, SerialAlone}

-- the records of the zone; or the serial of the primary's version alone
pub data Said : Type 0 where
  zone_of : List Record → Said
  serial : ℕ → Said

-- records without the last one
abbrev pub without_last : List Record → List Record
without_last rs = take (length rs - 1) rs

-- What the records of an answer say of the zone of an origin, beside those that are held. The last SOA record repeats the first one; before it are
-- the zone, or behind the first one the differences from what is held.
abbrev pub said_by : Stage → Name → List Record → List Record → Result Said OutcomeFault
said_by WholeZone origin rs held = Ok (zone_of (without_last rs))
said_by AllDifferences origin rs held = changed origin true (held_of held) (drop 1 (without_last rs)) >>= λ h. Ok (zone_of (all_records h))
said_by (SerialAlone n) origin rs held = Ok (serial n)
said_by _ origin rs held = Err Incomplete

abbrev pub said : Course → List Record → Result Said OutcomeFault
said t held = said_by t.stage t.asked.origin t.records held

-- a call says what is said, unless memory ran out
abbrev pub Says : Result Outcome OutcomeFault → Result Said OutcomeFault → Type 0
Says (Ok (outcomes.Zone v)) said = said ≡ Ok (zone_of v.items)
Says (Ok (outcomes.Serial n)) said = said ≡ Ok (serial n)
Says (Err e) said = IsOutcomeFault e said

-- a call gives the records of a zone that is defined, unless memory ran out
abbrev pub GivesRecords : {A : Type 0} → Result (Vec Record A) OutcomeFault → Result Held OutcomeFault → Type 0
GivesRecords (Ok v) made = (h : Held) × (made ≡ Ok h) × (v.items ≡ all_records h)
GivesRecords (Err e) made = IsOutcomeFault e made

-- The zone that records make which a transfer gave (RFC 5936 section 2.2)
use Rattle.std.specs.Prelude.{◌≡◌, ℕ, Bool, true, false, List, [], map, None, Some}
use Rattle.std.specs.List.{find, AllByRecursion}
use Rattle.zone_proto.specs.Names.{Name, is_at_or_above, lower}
use Rattle.zone_proto.specs.declared.record.Record.{Record}
use Rattle.zone_map.specs.Upserts.{CnamesStandAlone}
use Rattle.zone_map.specs.Zones.{set_at, IsZone, Sets}
use Rattle.zone_builder.specs.declared.given.GivenRecord.{GivenRecord}
use Rattle.zone_builder.specs.declared.warning.LoadWarning.{LoadWarning}
use Rattle.zone_builder.specs.declared.warning.LoadWarning.TheVariants.{Outside, Repeated, TtlsDiffer, SignsNothing}
use Rattle.zone_builder.specs.Faults as faults
use Rattle.zone_builder.specs.Records.{given_at, signing_at}
use Rattle.zone_builder.specs.Sets.{loaded_set}
use Rattle.zone_builder.specs.Warnings.{AreWarnings}
use Rattle.transferred_zones.specs.declared.fault.TakeFault.{TakeFault}
use Rattle.transferred_zones.specs.declared.fault.TakeFault.TheVariants.{Answer, NoZone, LeftOut, Memory}

-- a record as it is given to make a zone of: a transfer says no place of it
abbrev pub given_of : Record → GivenRecord
given_of r = record { «record» = r; place = None }

abbrev pub given : List Record → List GivenRecord
given rs = map given_of rs

-- each record is at the origin or below it, and each signature covers a set that has records
pub record AreAllOfZone (origin : Name) (rs : List Record) : Type 0 where
  pub inside : AllByRecursion (λ (r : Record). is_at_or_above origin (lower r.name) ≡ true) rs
  pub signed : (n : Name) (t : ℕ) → given_at origin (given rs) n t ≡ [] → signing_at origin (given rs) n t ≡ []

-- A zone is that of records: its sets are those that they make, nothing is wrong with them, and none of them is left out.
pub record IsZoneOf (origin : Name) (rs : List Record) (m : Sets) : Type 0 where
  pub sets : (n : Name) (t : ℕ) → set_at m n t ≡ loaded_set origin (given rs) n t
  pub zone : IsZone m
  pub cnames : CnamesStandAlone m
  pub faultless : faults.IsFaultless origin (given rs)
  pub whole : AreAllOfZone origin rs

-- a warning is of a record that is left out
abbrev pub is_left_out : LoadWarning → Bool
is_left_out (Outside at) = true
is_left_out (Repeated at) = false
is_left_out (TtlsDiffer at ttl) = false
is_left_out (SignsNothing at) = true

-- it is the first such warning of the records that a zone is made of
abbrev pub IsFirstLeftOut : Name → List GivenRecord → LoadWarning → Type 0
IsFirstLeftOut origin gs w = (ws : List LoadWarning) × AreWarnings origin gs ws × (find is_left_out ws ≡ Some w)

-- why a zone isn't taken: its records make none, or one would be left out; or memory ran out
abbrev pub IsZoneFault : Name → List Record → TakeFault → Type 0
IsZoneFault origin rs (Answer e) = ⊥
IsZoneFault origin rs (NoZone e) = faults.IsFault origin (given rs) e
IsZoneFault origin rs (LeftOut w) = IsFirstLeftOut origin (given rs) w
IsZoneFault origin rs Memory = Unit {0}

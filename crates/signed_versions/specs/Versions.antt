-- A version of a signed zone of a database that waits for its signatures
use Rattle.std.specs.Prelude.{◌≡◌, ◌⊎◌, ℕ, true, false, List, Option, None, Some}
use Rattle.std.specs.Option.{option_or}
use Rattle.zone_proto.specs.Names.{Name}
use Rattle.zone_proto.specs.Sets.{RRset}
use Rattle.zone_map.specs.Renewals.{with_signatures}
use Rattle.zone_map.specs.Zones.{Sets, set_at}
use Rattle.zone_planning.specs.declared.fault.FinishFault.TheVariants.{Memory}
use Rattle.zone_planning.specs.Filling.{filled, finish_fault}
use Rattle.update_in_place.specs.Parts.{is_among}
use Rattle.signed_in_place.specs.declared.beginning.PreparedChange.{PreparedChange}
use Rattle.zone_database.specs.declared.zone.Zone.{Zone}
use Rattle.zone_database.specs.Zones.{zone_of_records}
use Rattle.signed_versions.specs.declared.finishing.VersionFault.{VersionFault}
use Rattle.signed_versions.specs.declared.finishing.VersionFault.TheVariants as fault

-- the sets of a version of the zone of an origin, which an update made beside the zone that is served, and its signatures that are to be made
pub record VersionState : Type 0 where
  pub origin : Name
  pub before : Zone
  pub next : Sets
  pub change : PreparedChange

-- It differs from the zone that is served in the sets of some names alone, the origin among them, and signatures are made of no others.
pub record IsOfItsNames (v : VersionState) : Type 0 where
  pub apex : is_among v.change.names.items v.origin ≡ true
  pub others : (n : Name) (t : ℕ) → is_among v.change.names.items n ≡ false → set_at v.next n t ≡ set_at v.before.inner.records n t
  pub planned : (n : Name) (t : ℕ) → is_among v.change.names.items n ≡ false → set_at v.change.plan.records n t ≡ None

-- a set of it once its signatures are made
abbrev pub signed_at : VersionState → List (List ℕ) → Name → ℕ → Option RRset
signed_at v signatures n t =
    option_or (set_at (with_signatures v.change.plan.records (filled v.change.plan.records signatures)) n t) (set_at v.next n t)

-- a zone is this version with signatures
pub record IsSigned (v : VersionState) (signatures : List (List ℕ)) (z : Zone) : Type 0 where
  pub sets : Sets
  pub is : z ≡ zone_of_records v.origin sets
  pub each : (n : Name) (t : ℕ) → set_at sets n t ≡ signed_at v signatures n t

-- why it isn't finished: the signatures don't fit, or a journal can't take the change; memory may run out in place of either
abbrev pub IsUnfinished : VersionState → List (List ℕ) → VersionFault → Type 0
IsUnfinished v signatures (fault.Signatures e) = (e ≡ Memory) ⊎ (finish_fault v.change.plan.keys.items v.change.plan.records signatures ≡ Some e)
IsUnfinished v signatures (fault.Unjournaled e) = Unit {0}

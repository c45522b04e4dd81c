-- What the journal of a zone gets of an update
use Rattle.std.specs.Prelude.{◌≡◌, ℕ, Bool, true, false, List, [], Option, Some, None}
use Rattle.std.specs.List.{find}
use Rattle.zone_proto.specs.Names.{Name}
use Rattle.zone_map.specs.Zones.{Sets, IsZone}
use Rattle.shown_zones.specs.Steps.{Step, IsStep}
use Rattle.zone_journal.specs.Journals.{IsPut}
use Rattle.zone_update.specs.Updates.{zone_serial}
use Rattle.zone_database.specs.declared.zone.Zone.{Zone}
use Rattle.zone_database.specs.Databases.{begins_at}
use Rattle.held_updates.specs.declared.planned.PlannedUpdate.{PlannedUpdate}
use Rattle.held_updates.specs.declared.planned.PlannedUpdate.TheVariants as planned
use Rattle.held_updates.specs.declared.planned.UpdatedZone.{UpdatedZone}

-- octets are the frame of the entry of the step from one version of the zone of an origin to another
pub record IsFrame (origin : Name) (before after : Sets) (octets : List ℕ) : Type 0 where
  pub step : Step
  pub leads : IsStep origin before after step
  pub put : IsPut [] octets step
  pub zone : IsZone after

-- the same from the zone that was found to one of its origin; there is none where no zone was found
abbrev pub IsFrameFrom : Option Zone → Zone → List ℕ → Type 0
IsFrameFrom None after octets = ⊥
IsFrameFrom (Some before) after octets = IsFrame after.origin before.inner.records after.inner.records octets

-- they are that frame if journals are kept, and else none
abbrev pub IsFrameIf : Bool → Option Zone → Zone → List ℕ → Type 0
IsFrameIf false before after octets = octets ≡ []
IsFrameIf true before after octets = IsFrameFrom before after octets

-- the serial of a zone; none where there is no zone, or it has no SOA
abbrev pub serial_of : Option Zone → Option ℕ
serial_of None = None
serial_of (Some z) = zone_serial z.origin z.inner.records

-- A zone after an update has the serial of the one before, and the frame that its journal gets.
abbrev pub IsJournaled : Bool → Option Zone → UpdatedZone → Type 0
IsJournaled is_kept before u = (u.replaces ≡ serial_of before) × IsFrameIf is_kept before u.zone u.frame.items

-- of a zone that is to take the place of the one of its origin this holds
abbrev pub IfUpdated : (UpdatedZone → Type 0) → PlannedUpdate → Type 0
IfUpdated P (planned.Updated u) = P u
IfUpdated P p = Unit {0}

-- it has the serial of the one of its origin, and the frame that the journal of that gets
abbrev pub IsPlanJournaled : Bool → List Zone → PlannedUpdate → Type 0
IsPlanJournaled is_kept zs = IfUpdated (λ u. IsJournaled is_kept (find (begins_at u.zone.origin) zs) u)

-- A zone after an update comes in place of the one that was updated
use Rattle.std.specs.Prelude.{◌≡◌, Bool, true, false, List}
use Rattle.std.specs.List.{find}
use Rattle.zone_update.specs.Updates.{same_serial}
use Rattle.zone_database.specs.declared.zone.Zone.{Zone}
use Rattle.zone_database.specs.Databases.{begins_at, with_zone}
use Rattle.held_updates.specs.declared.committing.Commit.{Commit}
use Rattle.held_updates.specs.declared.committing.Commit.TheVariants as commit
use Rattle.held_updates.specs.declared.planned.UpdatedZone.{UpdatedZone}
use Rattle.held_updates.specs.Journaling.{serial_of}

-- the zone of its origin is still the one that was updated: it has the serial that that one had
abbrev pub is_current : UpdatedZone → List Zone → Bool
is_current u zs = same_serial u.replaces (serial_of (find (begins_at u.zone.origin) zs))

-- it came in place of that one; or that one isn't there any more, and nothing changes
abbrev pub Commits : UpdatedZone → List Zone → Commit → List Zone → Type 0
Commits u zs commit.Done new = (is_current u zs ≡ true) × (new ≡ with_zone u.zone zs)
Commits u zs commit.Overtaken new = (is_current u zs ≡ false) × (new ≡ zs)

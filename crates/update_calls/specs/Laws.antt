-- Laws of what a program is told that asks for updates
use Rattle.std.specs.Prelude.{◌≡◌, ◌⊎◌, List, Option, Some}
use Rattle.arrival_calls.specs.declared.client.ClientMessage.{ClientMessage}
use Rattle.zone_database.specs.declared.outcome.Outcome.TheVariants.{Done}
use Rattle.zone_database.specs.declared.zone.Zone.{Zone}
use Rattle.zone_proto.specs.Names.{Name}
use Rattle.held_updates.specs.declared.access.UpdateAccess.{UpdateAccess}
use Rattle.held_updates.specs.Laws.{ChangesZone}
use Rattle.update_calls.specs.declared.outcome.UpdateOutcome.TheVariants.{Usual}
use Rattle.update_calls.specs.Updates.{Told, UpdatesByAccess}

-- it is told that a zone changed: the response is in the room, and the zone of an origin was changed by one whom its rules permit that
pub record TellsChange (access : Option UpdateAccess) (m : ClientMessage) (zs : List Zone) (t : Told) (new : List Zone) : Type 0 where
  pub changed : t.changed ≡ 1
  pub done : t.outcome ≡ Usual Done
  pub kept : UpdateAccess
  pub held : access ≡ Some kept
  pub origin : Name
  pub updated : ChangesZone kept m.moment m.octets.now zs origin new

-- it is told that no zone changed, and none did
abbrev pub TellsNoChange : List Zone → Told → List Zone → Type 0
TellsNoChange zs t new = (t.changed ≡ 0) × (new ≡ zs)

abbrev pub ChangesAreTold : Type 0
ChangesAreTold = (access : Option UpdateAccess) (m : ClientMessage) (zs new : List Zone) (t : Told)
    → UpdatesByAccess access m zs t new → TellsChange access m zs t new ⊎ TellsNoChange zs t new

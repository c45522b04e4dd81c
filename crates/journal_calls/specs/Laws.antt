-- Laws of what a program is told that begins an update
use Rattle.std.specs.Prelude.{◌≡◌, ◌⊎◌, ◌<◌, true, List, Option, Some, None}
use Rattle.std.specs.List.{find}
use Rattle.arrival_calls.specs.declared.client.ClientMessage.{ClientMessage}
use Rattle.zone_database.specs.declared.outcome.Outcome.TheVariants.{Done, NoRoom}
use Rattle.zone_database.specs.declared.zone.Zone.{Zone}
use Rattle.zone_database.specs.Databases.{begins_at}
use Rattle.held_updates.specs.declared.access.UpdateAccess.{UpdateAccess}
use Rattle.held_updates.specs.declared.planned.UpdatedZone.{UpdatedZone}
use Rattle.held_updates.specs.Journaling.{IsJournaled}
use Rattle.held_updates.specs.Laws.{IsPermitted}
use Rattle.journal_calls.specs.declared.outcome.JournalOutcome.TheVariants.{Usual}
use Rattle.journal_calls.specs.Plans.{IsIn, PlansByAccess, PlanTold}

-- It is told what the journal of a zone gets: one whom its rules permit that is to change it, the response is in its room, and in the other is the
-- frame of the step to the zone after the update, which is held.
pub record TellsPlanned (access : Option UpdateAccess) (m : ClientMessage) (zs : List Zone) (t : PlanTold) (u : UpdatedZone) : Type 0 where
  pub done : t.outcome ≡ Usual Done
  pub kept : UpdateAccess
  pub held : access ≡ Some kept
  pub permitted : IsPermitted kept m.moment m.octets.now zs u
  pub journaled : IsJournaled true (find (begins_at u.zone.origin) zs) u
  pub frame : IsIn u.frame.items t.frame
  pub longer : 0 < t.frame.written

-- nothing is held: no octets are for a journal, or there was no room
abbrev pub TellsNoPlan : PlanTold → Option UpdatedZone → Type 0
TellsNoPlan t held = (held ≡ None) × ((t.frame.written ≡ 0) ⊎ (t.outcome ≡ Usual NoRoom))

abbrev pub PlansAreTold : Type 0
PlansAreTold = (access : Option UpdateAccess) (m : ClientMessage) (zs : List Zone) (t : PlanTold) (held : Option UpdatedZone)
    → PlansByAccess access m zs t held → ((u : UpdatedZone) × (held ≡ Some u) × TellsPlanned access m zs t u) ⊎ TellsNoPlan t held

-- What the call does by which the whole zone of a plan, with its signatures, waits to be committed
use Rattle.std.specs.Prelude.{◌≡◌, ◌⊎◌, ◌<◌, true, List, length, Option, Some, None, Result, Ok, Err}
use Rattle.std.specs.List.{find}
use Rattle.call_handles.specs.Rooms.{IsUntouched}
use Rattle.zone_planning.specs.declared.fault.PlanFault.TheVariants.{Unwritable}
use Rattle.zone_database.specs.declared.zone.Zone.{Zone}
use Rattle.zone_database.specs.Databases.{begins_at}
use Rattle.held_plans.specs.Holding.{unfinished_fault}
use Rattle.held_plans.specs.PlanStates.{PlanState}
use Rattle.held_updates.specs.declared.planned.UpdatedZone.{UpdatedZone}
use Rattle.held_updates.specs.Journaling.{IsJournaled}
use Rattle.journal_calls.specs.Plans.{IsIn, IsOutside, Room}
use Rattle.plan_calls.specs.declared.outcome.PlanOutcome.{PlanOutcome}
use Rattle.plan_calls.specs.declared.outcome.PlanOutcome.TheVariants.{Done, NoMemory, NoRoom, Unplanned}
use Rattle.plan_calls.specs.declared.signing_plan.SigningPlan.{SigningPlan}
use Rattle.plan_calls.specs.Finishing.{finished_zone, IsUnfinished, StillStands}
use Rattle.plan_calls.specs.SigningPlans.{whole}

-- the call wrote nothing
abbrev pub IsSilent : Room → Type 0
IsSilent r = IsUntouched r.written r.before r.after

-- The zone of a plan, with the signatures that were given, is to take the place of the one that was planned, which is there; and what its journal gets
pub record Waits (p : PlanState) (zs : List Zone) (u : UpdatedZone) : Type 0 where
  pub stands : StillStands p zs
  pub faultless : unfinished_fault p ≡ None
  pub zone : u.zone ≡ finished_zone p
  pub journaled : IsJournaled true (find (begins_at p.origin) zs) u

-- a zone after an update is held, and what its journal gets is in its room; or that is longer than the room; or there is no memory
abbrev pub HoldsWaiting : UpdatedZone → Result (Unit {0}) PlanOutcome → Room → Option UpdatedZone → Type 0
HoldsWaiting u (Ok _) r update = IsIn u.frame.items r × (update ≡ Some u)
HoldsWaiting u (Err NoRoom) r update = (length r.before < length u.frame.items) × IsOutside u.frame.items r × (update ≡ None)
HoldsWaiting u (Err NoMemory) r update = IsSilent r × (update ≡ None)
HoldsWaiting u (Err outcome) r update = ⊥

-- why none is held: there was one, but no room for what its journal gets; the journal can't take the change; or the plan isn't finished
abbrev pub IsUnheld : PlanState → List Zone → PlanOutcome → Room → Option UpdatedZone → Type 0
IsUnheld p zs NoRoom r update = (u : UpdatedZone) × Waits p zs u × HoldsWaiting u (Err NoRoom) r update
IsUnheld p zs (Unplanned f) r update = (f ≡ Unwritable) × StillStands p zs × (unfinished_fault p ≡ None) × IsSilent r × (update ≡ None)
IsUnheld p zs outcome r update = IsUnfinished p zs outcome × IsSilent r × (update ≡ None)

-- the zone of a plan is held, or not
abbrev pub SignsIn : PlanState → List Zone → Result (Unit {0}) PlanOutcome → Room → Option UpdatedZone → Type 0
SignsIn p zs (Ok x) r update = (u : UpdatedZone) × Waits p zs u × HoldsWaiting u (Ok x) r update
SignsIn p zs (Err outcome) r update = IsUnheld p zs outcome r update

-- the same with what is left of the plan: it is done with where its zone is held, and else it stays
abbrev pub SignsWhole : PlanState → List Zone → PlanOutcome → Room → Option UpdatedZone → Option SigningPlan → Type 0
SignsWhole p zs outcome r update plan =
    ((outcome ≡ Done) × SignsIn p zs (Ok tt) r update × (plan ≡ None)) ⊎ (SignsIn p zs (Err outcome) r update × (plan ≡ Some (whole p)))

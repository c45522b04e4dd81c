-- The zone of a plan whose signatures were given, among others
use Rattle.std.specs.Prelude.{◌≡◌, ◌≢◌, ◌⊎◌, List, Option, Some, None}
use Rattle.std.specs.List.{find}
use Rattle.zone_lookup.specs.StartOfAuthority as authority
use Rattle.zone_database.specs.declared.zone.Zone.{Zone}
use Rattle.zone_database.specs.Databases.{begins_at, with_zone}
use Rattle.zone_database.specs.Zones.{zone_of_records}
use Rattle.held_plans.specs.Holding.{finished_sets, unfinished_fault}
use Rattle.held_plans.specs.PlanStates.{PlanState}
use Rattle.plan_calls.specs.declared.outcome.PlanOutcome.{PlanOutcome}
use Rattle.plan_calls.specs.declared.outcome.PlanOutcome.TheVariants.{Done, NoMemory, NoZone, ZoneChanged, Unfinished}
use Rattle.plan_calls.specs.declared.signing_plan.SigningPlan.{SigningPlan}
use Rattle.plan_calls.specs.SigningPlans.{whole}

-- the zone of the planned sets with the signatures that were given, which nobody signs here
abbrev pub finished_zone : PlanState → Zone
finished_zone p = zone_of_records p.origin (finished_sets p)

-- the zone that was planned is there, with the serial that it had
pub record StillStands (p : PlanState) (zs : List Zone) : Type 0 where
  pub zone : Zone
  pub found : find (begins_at p.origin) zs ≡ Some zone
  pub serial : authority.serial zone.inner.records zone.origin ≡ p.serial

-- the zone of a plan is in the place of the one that was planned
pub record IsFinished (p : PlanState) (old new : List Zone) : Type 0 where
  pub stands : StillStands p old
  pub faultless : unfinished_fault p ≡ None
  pub put : new ≡ with_zone (finished_zone p) old

-- the zone that was planned isn't there, or has another serial; of memory nothing is said
abbrev pub IsChanged : PlanState → List Zone → PlanOutcome → Type 0
IsChanged p zs NoZone = find (begins_at p.origin) zs ≡ None
IsChanged p zs ZoneChanged = (z : Zone) × (find (begins_at p.origin) zs ≡ Some z) × (authority.serial z.inner.records z.origin ≢ p.serial)
IsChanged p zs NoMemory = Unit {0}
IsChanged p zs outcome = ⊥

-- the signatures aren't those that the plan wants; of memory nothing is said
abbrev pub IsUnfinishedBy : PlanState → PlanOutcome → Type 0
IsUnfinishedBy p (Unfinished f) = unfinished_fault p ≡ Some f
IsUnfinishedBy p NoMemory = Unit {0}
IsUnfinishedBy p outcome = ⊥

-- for each refusal what is wrong
abbrev pub IsUnfinished : PlanState → List Zone → PlanOutcome → Type 0
IsUnfinished p zs NoZone = IsChanged p zs NoZone
IsUnfinished p zs ZoneChanged = IsChanged p zs ZoneChanged
IsUnfinished p zs (Unfinished f) = IsUnfinishedBy p (Unfinished f)
IsUnfinished p zs NoMemory = Unit {0}
IsUnfinished p zs outcome = ⊥

-- the whole zone of a plan is in its place, and the plan is given back; or it is refused, and the plan stays
abbrev pub FinishesWhole : PlanState → List Zone → PlanOutcome → Option SigningPlan → List Zone → Type 0
FinishesWhole p zs outcome plan new =
    ((outcome ≡ Done) × IsFinished p zs new × (plan ≡ None)) ⊎ (IsUnfinished p zs outcome × (new ≡ zs) × (plan ≡ Some (whole p)))

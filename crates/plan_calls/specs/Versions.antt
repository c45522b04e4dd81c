-- Plans of what updates change of zones, each made in the version of the zone that is to take its place
use Rattle.std.specs.Prelude.{◌≡◌, ◌⊎◌, ℕ, Bool, false, List, Option, Some, None}
use Rattle.std.specs.Global.{Box}
use Rattle.zone_planning.specs.declared.fault.PlanFault.TheVariants.{Unwritable}
use Rattle.zone_database.specs.declared.zone.Zone.{Zone}
use Rattle.zone_database.specs.Databases.{with_zone}
use Rattle.held_plans.specs.Holding.{unfinished_fault}
use Rattle.held_plans.specs.PlanStates.{PlanState}
use Rattle.held_updates.specs.declared.planned.UpdatedZone.{UpdatedZone}
use Rattle.held_updates.specs.Journaling.{IsJournaled}
use Rattle.signed_versions.specs.Versions.{IsSigned, VersionState}
use Rattle.plan_calls.specs.declared.outcome.PlanOutcome.{PlanOutcome}
use Rattle.plan_calls.specs.declared.outcome.PlanOutcome.TheVariants.{Done, NoMemory, Unfinished, Unplanned}
use Rattle.plan_calls.specs.declared.signing_plan.PlannedZone.TheVariants.{Version, Finished}
use Rattle.plan_calls.specs.declared.signing_plan.SigningPlan.{SigningPlan}
use Rattle.plan_calls.specs.Finishing.{IsUnfinished, StillStands}

-- a plan has the sets of a version that get other signatures, and its keys
abbrev pub IsOfVersion : PlanState → VersionState → Type 0
IsOfVersion p v = (p.records ≡ v.change.plan.records) × (p.keys ≡ v.change.plan.keys.items)

-- the zone that was planned is there, and the signatures that were given are those that the plan wants
pub record IsReady (p : PlanState) (zs : List Zone) : Type 0 where
  pub stands : StillStands p zs
  pub faultless : unfinished_fault p ≡ None

-- a zone is a version with signatures, and comes with what the journal of the zone before it gets, if one is kept
pub record IsFinishedVersion (is_kept : Bool) (v : VersionState) (signatures : List (List ℕ)) (u : UpdatedZone) : Type 0 where
  pub zone : IsSigned v signatures u.zone
  pub journaled : IsJournaled is_kept (Some v.before) u

-- Why a version is given up though its signatures fit: there is no memory, or a journal can't take the change. A plan that isn't the version's may want others.
abbrev pub IsGivenUp : VersionState → PlanState → PlanOutcome → Type 0
IsGivenUp v p NoMemory = Unit {0}
IsGivenUp v p (Unplanned f) = f ≡ Unwritable
IsGivenUp v p (Unfinished f) = IsOfVersion p v → ⊥
IsGivenUp v p outcome = ⊥

-- ---- without a journal

-- a zone after an update is put in place of the one that was updated; or there is no memory, and the zones stay
abbrev pub Puts : UpdatedZone → List Zone → PlanOutcome → List Zone → Type 0
Puts u zs Done new = new ≡ with_zone u.zone zs
Puts u zs NoMemory new = new ≡ zs
Puts u zs outcome new = ⊥

-- a plan of a version is finished, and that is put; or nothing comes of it: the plan stays, or is given up
pub record FinishesVersion (p : PlanState) (v : VersionState) (zs : List Zone) (outcome : PlanOutcome) (plan : Option SigningPlan) (new : List Zone) : Type 0 where
  pub ends :
      ((u : UpdatedZone) × IsReady p zs × IsFinishedVersion false v p.signatures u × Puts u zs outcome new × (plan ≡ None))
      ⊎ ((IsUnfinished p zs outcome × (new ≡ zs) × (plan ≡ Some (record { plan = p; zone = Version v })))
      ⊎ (IsReady p zs × IsGivenUp v p outcome × (new ≡ zs) × (plan ≡ None)))

-- the same of one that was finished before
abbrev pub FinishesWaiting : PlanState → Box UpdatedZone → List Zone → PlanOutcome → Option SigningPlan → List Zone → Type 0
FinishesWaiting p u zs outcome plan new =
    (IsReady p zs × Puts u.value zs outcome new × (plan ≡ None))
    ⊎ (IsUnfinished p zs outcome × (new ≡ zs) × (plan ≡ Some (record { plan = p; zone = Finished u })))

-- What the calls of a program that isn't written in Rattle do to a plan and to the zones that it keeps
use Rattle.std.specs.Prelude.{◌≡◌, ◌⊎◌, ℕ, List, Option, Some, None}
use Rattle.zone_database.specs.declared.database.ZoneDatabase.{ZoneDatabase}
use Rattle.zone_database.specs.declared.zone.Zone.{Zone}
use Rattle.zone_database.specs.Databases.{zones_in}
use Rattle.plan_calls.specs.declared.outcome.PlanOutcome.{PlanOutcome}
use Rattle.plan_calls.specs.declared.outcome.PlanOutcome.TheVariants.{Done, Closed, NoPlan}
use Rattle.plan_calls.specs.declared.signing.Signing.{Signing}
use Rattle.plan_calls.specs.declared.signing_plan.PlannedZone.{PlannedZone}
use Rattle.plan_calls.specs.declared.signing_plan.PlannedZone.TheVariants as zone
use Rattle.plan_calls.specs.declared.signing_plan.SigningPlan.{SigningPlan}
use Rattle.plan_calls.specs.Asking.{Told, IsSilent, GivesNext, TakesSignature}
use Rattle.plan_calls.specs.Beginning.{IsBegun, IsRefused}
use Rattle.plan_calls.specs.Finishing.{FinishesWhole}
use Rattle.plan_calls.specs.SigningPlans.{whole, with_plan}
use Rattle.plan_calls.specs.Versions.{FinishesVersion, FinishesWaiting}
use Rattle.held_plans.specs.PlanStates.{PlanState}

-- a plan of one of these zones is held, and what was held before is given back; or it is refused, and that stays
abbrev pub IsBegunIn : List Zone → List ℕ → List ℕ → Signing → List ℕ → Option SigningPlan → PlanOutcome → Option SigningPlan → Type 0
IsBegunIn zs origin keys how salt old outcome new =
    ((outcome ≡ Done) × (p : PlanState) × IsBegun zs origin keys how salt p × (new ≡ Some (whole p)))
    ⊎ (IsRefused zs origin keys how salt outcome × (new ≡ old))

-- the same of zones that a handle may hold
abbrev pub BeginsHeld : List ℕ → List ℕ → Signing → List ℕ → Option ZoneDatabase → Option SigningPlan → PlanOutcome → Option SigningPlan → Type 0
BeginsHeld origin keys how salt None old outcome new = (outcome ≡ Closed) × (new ≡ old)
BeginsHeld origin keys how salt (Some c) old outcome new = IsBegunIn (zones_in c) origin keys how salt old outcome new

-- the next that is to be signed is handed out, if a plan is held
abbrev pub GivesHeld : Option SigningPlan → PlanOutcome → Told → Option SigningPlan → Type 0
GivesHeld None outcome t new = (outcome ≡ NoPlan) × IsSilent t × (new ≡ None)
GivesHeld (Some s) outcome t new = (after : PlanState) × GivesNext s.plan outcome t after × (new ≡ Some (with_plan s after))

-- a signature is given
abbrev pub TakesHeld : List ℕ → Option SigningPlan → PlanOutcome → Option SigningPlan → Type 0
TakesHeld signature None outcome new = (outcome ≡ NoPlan) × (new ≡ None)
TakesHeld signature (Some s) outcome new = (after : PlanState) × TakesSignature s.plan signature outcome after × (new ≡ Some (with_plan s after))

-- a plan is finished by the zone that it signs
abbrev pub FinishesZone : PlannedZone → PlanState → List Zone → PlanOutcome → Option SigningPlan → List Zone → Type 0
FinishesZone zone.Whole p zs outcome plan new = FinishesWhole p zs outcome plan new
FinishesZone (zone.Version v) p zs outcome plan new = FinishesVersion p v zs outcome plan new
FinishesZone (zone.Finished u) p zs outcome plan new = FinishesWaiting p u zs outcome plan new

-- the same in zones that a handle may hold
abbrev pub FinishesZones : SigningPlan → Option ZoneDatabase → PlanOutcome → Option SigningPlan → Option ZoneDatabase → Type 0
FinishesZones s None outcome plan zones = (outcome ≡ Closed) × (plan ≡ Some s) × (zones ≡ None)
FinishesZones s (Some c) outcome plan zones = (after : ZoneDatabase) × FinishesZone s.zone s.plan (zones_in c) outcome plan (zones_in after) × (zones ≡ Some after)

-- the same of a plan that a handle may hold
abbrev pub FinishesHeld : Option SigningPlan → Option ZoneDatabase → PlanOutcome → Option SigningPlan → Option ZoneDatabase → Type 0
FinishesHeld None held outcome plan zones = (outcome ≡ NoPlan) × (plan ≡ None) × (zones ≡ held)
FinishesHeld (Some s) held outcome plan zones = FinishesZones s held outcome plan zones

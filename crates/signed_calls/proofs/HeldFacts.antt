-- What the call does, by what its handles hold, by which the zone after an update waits to be committed
use Rattle.std.proofs.Common.{◌≡◌, List, refl, sym, subst}
use Rattle.std.specs.Prelude.{Option, Some, None}
use Rattle.std.specs.Global.{Box}
use Rattle.zone_database.specs.declared.database.ZoneDatabase.{ZoneDatabase}
use Rattle.zone_database.specs.declared.zone.Zone.{Zone}
use Rattle.zone_database.specs.Databases.{zones_in}
use Rattle.held_plans.specs.PlanStates.{PlanState}
use Rattle.held_updates.specs.declared.planned.UpdatedZone.{UpdatedZone}
use Rattle.journal_calls.specs.Plans.{Room}
use Rattle.plan_calls.specs.declared.outcome.PlanOutcome.{PlanOutcome}
use Rattle.plan_calls.specs.declared.outcome.PlanOutcome.TheVariants as outcome
use Rattle.plan_calls.specs.declared.signing_plan.PlannedZone.{PlannedZone}
use Rattle.plan_calls.specs.declared.signing_plan.PlannedZone.TheVariants as zone
use Rattle.plan_calls.specs.declared.signing_plan.SigningPlan.{SigningPlan}
use Rattle.signed_versions.specs.Versions.{VersionState}
use Rattle.signed_calls.specs.Held.{SignsHeld, SignsZone, SignsZones}
use Rattle.signed_calls.specs.Signing.{IsSilent, SignsWhole}
use Rattle.signed_calls.specs.Versions.{SignsFinished, SignsVersion}

module _ (r : Room) (update : Option UpdatedZone) (plan : Option SigningPlan) where
  -- ---- what a plan is of

  module _ (z : PlannedZone) (p : PlanState) (zs : List Zone) (o : PlanOutcome) where
    by_zone : (y : PlannedZone) → z ≡ y → SignsZone y p zs o r update plan → SignsZone z p zs o r update plan
    by_zone y is d = subst (λ (x : PlannedZone). SignsZone x p zs o r update plan) (sym is) d

    pub of_whole : z ≡ zone.Whole → SignsWhole p zs o r update plan → SignsZone z p zs o r update plan
    of_whole is d = by_zone zone.Whole is d

    pub of_version : (v : VersionState) → z ≡ zone.Version v → SignsVersion p v zs o r update plan → SignsZone z p zs o r update plan
    of_version v is d = by_zone (zone.Version v) is d

    pub of_finished : (u : Box UpdatedZone) → z ≡ zone.Finished u → SignsFinished p u zs o r update plan → SignsZone z p zs o r update plan
    of_finished u is d = by_zone (zone.Finished u) is d

  -- ---- what handles hold

  pub by_zones : (s : SigningPlan) (zones : Option ZoneDatabase) (c : ZoneDatabase) (o : PlanOutcome) → zones ≡ Some c → SignsZone s.zone s.plan (zones_in c) o r update plan
      → SignsZones s zones o r update plan
  by_zones s zones c o is d = subst (λ (x : Option ZoneDatabase). SignsZones s x o r update plan) (sym is) d

  pub closed : (s : SigningPlan) (zones : Option ZoneDatabase) → zones ≡ None → IsSilent r → update ≡ None → plan ≡ Some s → SignsZones s zones outcome.Closed r update plan
  closed s zones none silent empty kept = subst (λ (x : Option ZoneDatabase). SignsZones s x outcome.Closed r update plan) (sym none) (refl, (silent, empty, kept))

  pub of_plan : (s : SigningPlan) (held : Option SigningPlan) (zones : Option ZoneDatabase) (o : PlanOutcome) → held ≡ Some s → SignsZones s zones o r update plan
      → SignsHeld held zones o r update plan
  of_plan s held zones o is d = subst (λ (h : Option SigningPlan). SignsHeld h zones o r update plan) (sym is) d

  pub no_plan : (held : Option SigningPlan) (zones : Option ZoneDatabase) → held ≡ None → r.after ≡ r.before → plan ≡ None → SignsHeld held zones outcome.NoPlan r update plan
  no_plan held zones none same empty = subst (λ (h : Option SigningPlan). SignsHeld h zones outcome.NoPlan r update plan) (sym none) (refl, same, empty)

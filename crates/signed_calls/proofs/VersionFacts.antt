-- What the call does by which a version of a zone waits to be committed, from what is done with the version
use Rattle.std.proofs.Common.{◌≡◌, true, List, inl, inr, subst}
use Rattle.std.specs.Prelude.{Option, Some, None}
use Rattle.std.specs.Global.{Box}
use Rattle.zone_database.specs.declared.zone.Zone.{Zone}
use Rattle.held_plans.specs.PlanStates.{PlanState}
use Rattle.held_updates.specs.declared.planned.UpdatedZone.{UpdatedZone}
use Rattle.journal_calls.specs.Plans.{Room}
use Rattle.plan_calls.specs.declared.outcome.PlanOutcome.{PlanOutcome}
use Rattle.plan_calls.specs.declared.signing_plan.PlannedZone.TheVariants.{Version, Finished}
use Rattle.plan_calls.specs.declared.signing_plan.SigningPlan.{SigningPlan}
use Rattle.plan_calls.specs.Finishing.{IsUnfinished}
use Rattle.plan_calls.specs.Versions.{IsFinishedVersion, IsGivenUp, IsReady}
use Rattle.signed_versions.specs.Versions.{VersionState}
use Rattle.signed_calls.specs.Signing.{IsSilent}
use Rattle.signed_calls.specs.Versions.{GivesFinished, SignsFinished, SignsVersion}

-- a plan that is read twice where it lies
pub version_given_at : (s a b : SigningPlan) (zs : List Zone) (o : PlanOutcome) (r : Room) (update : Option UpdatedZone) (plan : Option SigningPlan) (v : VersionState) (u : Box UpdatedZone)
    → a ≡ s → b ≡ s → IsReady a.plan zs → IsFinishedVersion true v b.plan.signatures u.value → GivesFinished s.plan u o r update plan → SignsVersion s.plan v zs o r update plan
version_given_at s a b zs o r update plan v u first second is made gives =
    let stands : IsReady s.plan zs = subst (λ (x : SigningPlan). IsReady x.plan zs) first is in
    let fits : IsFinishedVersion true v s.plan.signatures u.value = subst (λ (x : SigningPlan). IsFinishedVersion true v x.plan.signatures u.value) second made in
    record { ends = inl (u, stands, fits, gives) }

module _ (p : PlanState) (zs : List Zone) (o : PlanOutcome) (r : Room) (update : Option UpdatedZone) (plan : Option SigningPlan) where
  module _ (v : VersionState) where
    pub version_given : (u : Box UpdatedZone) → IsReady p zs → IsFinishedVersion true v p.signatures u.value → GivesFinished p u o r update plan → SignsVersion p v zs o r update plan
    version_given u is made gives = record { ends = inl (u, is, made, gives) }

    pub version_stays : IsUnfinished p zs o → IsSilent r → update ≡ None → plan ≡ Some (record { plan = p; zone = Version v }) → SignsVersion p v zs o r update plan
    version_stays wrong silent none left = record { ends = inr (inl (wrong, (silent, none, left))) }

    pub version_given_up : IsReady p zs → IsGivenUp v p o → IsSilent r → update ≡ None → plan ≡ None → SignsVersion p v zs o r update plan
    version_given_up is given_up silent none left = record { ends = inr (inr (is, given_up, (silent, none, left))) }

  module _ (u : Box UpdatedZone) where
    pub finished_given : IsReady p zs → GivesFinished p u o r update plan → SignsFinished p u zs o r update plan
    finished_given is gives = inl (is, gives)

    pub finished_stays : IsUnfinished p zs o → IsSilent r → update ≡ None → plan ≡ Some (record { plan = p; zone = Finished u }) → SignsFinished p u zs o r update plan
    finished_stays wrong silent none left = inr (wrong, (silent, none, left))

-- Plans as handles hold them
use Rattle.held_plans.specs.PlanStates.{PlanState}
use Rattle.plan_calls.specs.declared.signing_plan.PlannedZone.TheVariants.{Whole}
use Rattle.plan_calls.specs.declared.signing_plan.SigningPlan.{SigningPlan}

-- a plan of a whole zone
abbrev pub whole : PlanState → SigningPlan
whole p = record { plan = p; zone = Whole }

-- a plan in place of the one that signs a zone
abbrev pub with_plan : SigningPlan → PlanState → SigningPlan
with_plan s p = record { plan = p; zone = s.zone }

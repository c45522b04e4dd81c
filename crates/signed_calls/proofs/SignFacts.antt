-- What the call does by which the whole zone of a plan waits to be committed, from what is done in the zones that are held
use Rattle.std.proofs.Common.{◌≡◌, ◌⊎◌, ◌∙◌, ◌<◌, true, List, length, inl, inr, refl, sym, ap, subst, Result, Ok, Err}
use Rattle.std.specs.Prelude.{Option, Some, None}
use Rattle.std.specs.List.{find}
use Rattle.zone_planning.specs.declared.fault.PlanFault.TheVariants as fault
use Rattle.zone_database.specs.declared.zone.Zone.{Zone}
use Rattle.zone_database.specs.Databases.{begins_at}
use Rattle.held_plans.specs.Holding.{unfinished_fault}
use Rattle.held_plans.specs.PlanStates.{PlanState}
use Rattle.held_updates.specs.declared.planned.UpdatedZone.{UpdatedZone}
use Rattle.held_updates.specs.Journaling.{IsJournaled}
use Rattle.journal_calls.specs.Plans.{Room}
use Rattle.plan_calls.specs.declared.outcome.PlanOutcome.{PlanOutcome}
use Rattle.plan_calls.specs.declared.outcome.PlanOutcome.TheVariants as outcome
use Rattle.plan_calls.specs.declared.signing_plan.PlannedZone.{PlannedZone}
use Rattle.plan_calls.specs.declared.signing_plan.PlannedZone.TheVariants as zone
use Rattle.plan_calls.specs.declared.signing_plan.SigningPlan.{SigningPlan}
use Rattle.plan_calls.specs.SigningPlans.{whole}
use Rattle.plan_calls.specs.Finishing.{finished_zone, IsChanged, IsUnfinished, IsUnfinishedBy, StillStands}
use Rattle.plan_calls.proofs.Steps.{changed, unfinished}
use Rattle.signed_calls.specs.Signing.{HoldsWaiting, IsSilent, IsUnheld, SignsIn, SignsWhole, Waits}

module _ (p : PlanState) (zs : List Zone) (r : Room) (update : Option UpdatedZone) where
  -- ---- a plan that isn't finished

  unheld : (o : PlanOutcome) → IsUnfinished p zs o → IsSilent r → update ≡ None → IsUnheld p zs o r update
  unheld outcome.Done is silent none = absurd is
  unheld outcome.Closed is silent none = absurd is
  unheld outcome.BadName is silent none = absurd is
  unheld outcome.NoMemory is silent none = (tt, silent, none)
  unheld outcome.NoRoom is silent none = absurd is
  unheld outcome.NoZone is silent none = (is, silent, none)
  unheld outcome.NoPlan is silent none = absurd is
  unheld outcome.BadKeys is silent none = absurd is
  unheld outcome.BadDenial is silent none = absurd is
  unheld (outcome.Unplanned f) is silent none = absurd is
  unheld outcome.NoMore is silent none = absurd is
  unheld outcome.ZoneChanged is silent none = (is, silent, none)
  unheld (outcome.Unfinished f) is silent none = (is, silent, none)

  pub overtaken : (o : PlanOutcome) → IsChanged p zs o → IsSilent r → update ≡ None → SignsIn p zs (Err o) r update
  overtaken o is silent none = unheld o (changed p zs o is) silent none

  pub not_finished : (o : PlanOutcome) → IsUnfinishedBy p o → IsSilent r → update ≡ None → SignsIn p zs (Err o) r update
  not_finished o is silent none = unheld o (unfinished p zs o is) silent none

  -- ---- one that is

  pub unjournaled : StillStands p zs → unfinished_fault p ≡ None → IsSilent r → update ≡ None → SignsIn p zs (Err (outcome.Unplanned fault.Unwritable)) r update
  unjournaled stands faultless silent none = (refl, stands, faultless, silent, none)

  pub waiting : (u : UpdatedZone) (z : Zone) (before : Option Zone) (done : Result (Unit {0}) PlanOutcome) → StillStands p zs → unfinished_fault p ≡ None → z ≡ finished_zone p → u.zone ≡ z
      → before ≡ find (begins_at p.origin) zs → IsJournaled true before u → HoldsWaiting u done r update → SignsIn p zs done r update
  waiting u z before done stands faultless its is found journaled holds = by done holds
    where
      waits : Waits p zs u
      waits = record {
        stands = stands;
        faultless = faultless;
        zone = subst (λ (x : Zone). u.zone ≡ x) its is;
        journaled = subst (λ (b : Option Zone). IsJournaled true b u) found journaled;
      }

      by : (done : Result (Unit {0}) PlanOutcome) → HoldsWaiting u done r update → SignsIn p zs done r update
      by (Ok x) h = (u, waits, h)
      by (Err outcome.Done) h = absurd h
      by (Err outcome.Closed) h = absurd h
      by (Err outcome.BadName) h = absurd h
      by (Err outcome.NoMemory) h = (tt, h.0, h.1)
      by (Err outcome.NoRoom) h = (u, waits, h)
      by (Err outcome.NoZone) h = absurd h
      by (Err outcome.NoPlan) h = absurd h
      by (Err outcome.BadKeys) h = absurd h
      by (Err outcome.BadDenial) h = absurd h
      by (Err (outcome.Unplanned f)) h = absurd h
      by (Err outcome.NoMore) h = absurd h
      by (Err outcome.ZoneChanged) h = absurd h
      by (Err (outcome.Unfinished f)) h = absurd h

-- ---- what is left of the plan

abbrev both : PlanState → PlannedZone → SigningPlan
both p z = record { plan = p; zone = z }

whole_is : (p q : PlanState) (z : PlannedZone) → q ≡ p → z ≡ zone.Whole → both q z ≡ whole p
whole_is p q z its is = subst (λ (x : PlanState). both x z ≡ whole p) (sym its) (ap (both p) is)

module _ (p : PlanState) (zs : List Zone) (r : Room) (update : Option UpdatedZone) (plan : Option SigningPlan) where
  pub all_done : SignsIn p zs (Ok tt) r update → plan ≡ None → SignsWhole p zs outcome.Done r update plan
  all_done d none = inl (refl, d, none)

  pub all_refused : (s : SigningPlan) (o : PlanOutcome) → SignsIn p zs (Err o) r update → s.plan ≡ p → s.zone ≡ zone.Whole → plan ≡ Some s → SignsWhole p zs o r update plan
  all_refused s o d its is kept = inr (d, kept ∙ ap Some same)
    where
      same : s ≡ whole p
      same = whole_is p s.plan s.zone its is

-- ---- a plan that is read where it lies

pub done_at : (p q : PlanState) (zs : List Zone) (r : Room) (update : Option UpdatedZone) (plan : Option SigningPlan) → SignsIn q zs (Ok tt) r update → q ≡ p → plan ≡ None
    → SignsWhole p zs outcome.Done r update plan
done_at p q zs r update plan d is none = subst (λ (x : PlanState). SignsWhole x zs outcome.Done r update plan) is (all_done q zs r update plan d none)

pub whole_at : (p q : PlanState) (zs : List Zone) (o : PlanOutcome) (r : Room) (update : Option UpdatedZone) (plan : Option SigningPlan) → SignsWhole q zs o r update plan → q ≡ p
    → SignsWhole p zs o r update plan
whole_at p q zs o r update plan d is = subst (λ (x : PlanState). SignsWhole x zs o r update plan) is d

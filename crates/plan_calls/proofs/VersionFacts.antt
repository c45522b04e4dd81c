-- What comes of plans, by the zone that each of them signs
use Rattle.std.proofs.Common.{◌≡◌, ◌⊎◌, ◌∙◌, Bool, false, ℕ, List, inl, inr, refl, sym, ap, subst}
use Rattle.std.specs.Prelude.{Option, Some, None}
use Rattle.std.specs.Global.{Box}
use Rattle.zone_proto.specs.declared.rdata.signing.DNSKEY.{DNSKEY}
use Rattle.zone_map.specs.Zones.{Sets}
use Rattle.zone_planning.specs.declared.fault.FinishFault.{FinishFault}
use Rattle.zone_planning.specs.declared.fault.FinishFault.TheVariants.{Memory}
use Rattle.zone_planning.specs.Filling.{finish_fault}
use Rattle.zone_database.specs.declared.database.ZoneDatabase.{ZoneDatabase}
use Rattle.zone_database.specs.declared.zone.Zone.{Zone}
use Rattle.zone_database.specs.Databases.{zones_in}
use Rattle.held_plans.specs.Holding.{unfinished_fault}
use Rattle.held_plans.specs.PlanStates.{PlanState}
use Rattle.held_updates.specs.declared.planned.UpdatedZone.{UpdatedZone}
use Rattle.held_updates.specs.Journaling.{IsJournaled}
use Rattle.signed_versions.specs.Versions as versions
use Rattle.signed_versions.specs.Versions.{IsSigned, VersionState}
use Rattle.signed_versions.specs.declared.finishing.VersionFault.TheVariants.{Signatures}
use Rattle.plan_calls.specs.declared.outcome.PlanOutcome.{PlanOutcome}
use Rattle.plan_calls.specs.declared.outcome.PlanOutcome.TheVariants as outcome
use Rattle.plan_calls.specs.declared.signing_plan.PlannedZone.{PlannedZone}
use Rattle.plan_calls.specs.declared.signing_plan.PlannedZone.TheVariants as zone
use Rattle.plan_calls.specs.declared.signing_plan.SigningPlan.{SigningPlan}
use Rattle.plan_calls.specs.Calls.{FinishesHeld, FinishesZone, FinishesZones}
use Rattle.plan_calls.specs.Finishing.{FinishesWhole, IsFinished, IsUnfinished, StillStands}
use Rattle.plan_calls.specs.SigningPlans.{whole}
use Rattle.plan_calls.specs.Versions.{FinishesVersion, FinishesWaiting, IsFinishedVersion, IsGivenUp, IsOfVersion, IsReady, Puts}

pub ready : (p : PlanState) (zs : List Zone) → StillStands p zs → unfinished_fault p ≡ None → IsReady p zs
ready p zs stands faultless = record { stands = stands; faultless = faultless }

-- ---- the signatures of a version

pub finished_is : (is_kept : Bool) (v : VersionState) (signatures : List (List ℕ)) (u : UpdatedZone) → IsSigned v signatures u.zone → IsJournaled is_kept (Some v.before) u
    → IsFinishedVersion is_kept v signatures u
finished_is is_kept v signatures u signed journaled = record { zone = signed; journaled = journaled }

clash : (x : Option FinishFault) (f : FinishFault) → x ≡ None → x ≡ Some f → ⊥
clash x f none some = absurd cc

-- signatures that are those of a plan are those of its version
pub unlike : (v : VersionState) (p : PlanState) (f : FinishFault) → unfinished_fault p ≡ None → versions.IsUnfinished v p.signatures (Signatures f) → (f ≡ Memory → ⊥)
    → IsGivenUp v p (outcome.Unfinished f)
unlike v p f faultless (inl memory) other its = other memory
unlike v p f faultless (inr fault) other (records, keys) =
    let by_keys : finish_fault p.keys v.change.plan.records p.signatures ≡ Some f =
    subst (λ (k : List DNSKEY). finish_fault k v.change.plan.records p.signatures ≡ Some f) (sym keys) fault in
    clash (unfinished_fault p) f faultless (subst (λ (m : Sets). finish_fault p.keys m p.signatures ≡ Some f) (sym records) by_keys)

-- a plan that is read twice where it lies
pub version_put_at : (s a b : SigningPlan) (zs new : List Zone) (o : PlanOutcome) (plan : Option SigningPlan) (v : VersionState) (u : UpdatedZone) → a ≡ s → b ≡ s → IsReady a.plan zs
    → IsFinishedVersion false v b.plan.signatures u → Puts u zs o new → plan ≡ None → FinishesVersion s.plan v zs o plan new
version_put_at s a b zs new o plan v u first second is made puts none =
    let stands : IsReady s.plan zs = subst (λ (x : SigningPlan). IsReady x.plan zs) first is in
    let fits : IsFinishedVersion false v s.plan.signatures u = subst (λ (x : SigningPlan). IsFinishedVersion false v x.plan.signatures u) second made in
    record { ends = inl (u, stands, fits, puts, none) }

abbrev pub both : PlanState → PlannedZone → SigningPlan
both p z = record { plan = p; zone = z }

pub whole_is : (p q : PlanState) (z : PlannedZone) → q ≡ p → z ≡ zone.Whole → both q z ≡ whole p
whole_is p q z its is = subst (λ (x : PlanState). both x z ≡ whole p) (sym its) (ap (both p) is)

module _ (p : PlanState) (zs new : List Zone) (o : PlanOutcome) (plan : Option SigningPlan) where
  -- ---- a plan of a whole zone

  pub whole_done : IsFinished p zs new → plan ≡ None → o ≡ outcome.Done → FinishesWhole p zs o plan new
  whole_done d none is = inl (is, d, none)

  pub whole_stays : (s : SigningPlan) → IsUnfinished p zs o → new ≡ zs → s.plan ≡ p → s.zone ≡ zone.Whole → plan ≡ Some s → FinishesWhole p zs o plan new
  whole_stays s wrong same its is kept = inr (wrong, same, kept ∙ ap Some all)
    where
      all : s ≡ whole p
      all = whole_is p s.plan s.zone its is

  -- ---- one of what an update changes

  module _ (v : VersionState) where
    pub version_put : (u : UpdatedZone) → IsReady p zs → IsFinishedVersion false v p.signatures u → Puts u zs o new → plan ≡ None → FinishesVersion p v zs o plan new
    version_put u is made puts none = record { ends = inl (u, is, made, puts, none) }

    pub version_stays : IsUnfinished p zs o → new ≡ zs → plan ≡ Some (record { plan = p; zone = zone.Version v }) → FinishesVersion p v zs o plan new
    version_stays wrong same left = record { ends = inr (inl (wrong, same, left)) }

    pub version_given_up : IsReady p zs → IsGivenUp v p o → new ≡ zs → plan ≡ None → FinishesVersion p v zs o plan new
    version_given_up is given_up same none = record { ends = inr (inr (is, given_up, same, none)) }

  module _ (u : Box UpdatedZone) where
    pub waiting_put : IsReady p zs → Puts u.value zs o new → plan ≡ None → FinishesWaiting p u zs o plan new
    waiting_put is puts none = inl (is, puts, none)

    pub waiting_stays : IsUnfinished p zs o → new ≡ zs → plan ≡ Some (record { plan = p; zone = zone.Finished u }) → FinishesWaiting p u zs o plan new
    waiting_stays wrong same left = inr (wrong, same, left)

  -- ---- the zone that a plan signs

  module _ (z : PlannedZone) where
    by_zone : (y : PlannedZone) → z ≡ y → FinishesZone y p zs o plan new → FinishesZone z p zs o plan new
    by_zone y is d = subst (λ (x : PlannedZone). FinishesZone x p zs o plan new) (sym is) d

    pub of_whole : z ≡ zone.Whole → FinishesWhole p zs o plan new → FinishesZone z p zs o plan new
    of_whole is d = by_zone zone.Whole is d

    pub of_version : (v : VersionState) → z ≡ zone.Version v → FinishesVersion p v zs o plan new → FinishesZone z p zs o plan new
    of_version v is d = by_zone (zone.Version v) is d

    pub of_waiting : (u : Box UpdatedZone) → z ≡ zone.Finished u → FinishesWaiting p u zs o plan new → FinishesZone z p zs o plan new
    of_waiting u is d = by_zone (zone.Finished u) is d

-- ---- what handles hold

module _ (s : SigningPlan) (o : PlanOutcome) (plan : Option SigningPlan) where
  pub by_zones : (held new : Option ZoneDatabase) (c after : ZoneDatabase) → held ≡ Some c → FinishesZone s.zone s.plan (zones_in c) o plan (zones_in after) → new ≡ Some after
      → FinishesZones s held o plan new
  by_zones held new c after is d set = subst (λ (h : Option ZoneDatabase). FinishesZones s h o plan new) (sym is) (after, d, set)

  pub closed : (held new : Option ZoneDatabase) → held ≡ None → plan ≡ Some s → new ≡ None → FinishesZones s held outcome.Closed plan new
  closed held new is kept none = subst (λ (h : Option ZoneDatabase). FinishesZones s h outcome.Closed plan new) (sym is) (refl, kept, none)

  pub of_plan : (held : Option SigningPlan) (zones new : Option ZoneDatabase) → held ≡ Some s → FinishesZones s zones o plan new → FinishesHeld held zones o plan new
  of_plan held zones new is d = subst (λ (h : Option SigningPlan). FinishesHeld h zones o plan new) (sym is) d

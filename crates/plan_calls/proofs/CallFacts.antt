-- What the calls of a program do to a plan and to zones, from what is done to a held plan and to a database
use Rattle.std.proofs.Common.{◌≡◌, ◌⊎◌, ℕ, List, drop, inl, inr, refl, sym, subst}
use Rattle.std.specs.Prelude.{Option, Some, None, slice_get}
use Rattle.zone_planning.specs.Frames.{Asked}
use Rattle.zone_database.specs.declared.database.ZoneDatabase.{ZoneDatabase}
use Rattle.zone_database.specs.declared.zone.Zone.{Zone}
use Rattle.zone_database.specs.Databases.{zones_in}
use Rattle.held_plans.specs.PlanStates.{PlanState}
use Rattle.plan_calls.specs.declared.outcome.PlanOutcome.{PlanOutcome}
use Rattle.plan_calls.specs.declared.outcome.PlanOutcome.TheVariants.{Done, NoMemory, NoMore, NoRoom}
use Rattle.plan_calls.specs.declared.signing.Signing.{Signing}
use Rattle.plan_calls.specs.declared.signing_plan.SigningPlan.{SigningPlan}
use Rattle.plan_calls.specs.Asking.{GivesAsked, GivesNext, IsSilent, LacksRoom, TakesSignature, Tells, Told}
use Rattle.plan_calls.specs.Beginning.{IsBegun, IsRefused}
use Rattle.plan_calls.specs.Calls.{BeginsHeld, GivesHeld, IsBegunIn, TakesHeld}
use Rattle.plan_calls.specs.SigningPlans.{whole, with_plan}

-- ---- a plan is begun

pub put_begun : (zs : List Zone) (origin keys : List ℕ) (how : Signing) (salt : List ℕ) (old new : Option SigningPlan) (o : PlanOutcome) (p : PlanState) → IsBegun zs origin keys how salt p
    → ((o ≡ Done) × (new ≡ Some (whole p))) ⊎ ((o ≡ NoMemory) × (new ≡ old)) → IsBegunIn zs origin keys how salt old o new
put_begun zs origin keys how salt old new o p is (inl (done, set)) = inl (done, p, is, set)
put_begun zs origin keys how salt old new o p is (inr (none, same)) = inr (subst (IsRefused zs origin keys how salt) (sym none) tt, same)

pub refused_begun : (zs : List Zone) (origin keys : List ℕ) (how : Signing) (salt : List ℕ) (old : Option SigningPlan) (o : PlanOutcome) → IsRefused zs origin keys how salt o
    → IsBegunIn zs origin keys how salt old o old
refused_begun zs origin keys how salt old o is = inr (is, refl)

pub begun_held : (origin keys : List ℕ) (how : Signing) (salt : List ℕ) (held : Option ZoneDatabase) (c : ZoneDatabase) (old new : Option SigningPlan) (o : PlanOutcome) → held ≡ Some c
    → IsBegunIn (zones_in c) origin keys how salt old o new → BeginsHeld origin keys how salt held old o new
begun_held origin keys how salt held c old new o is d = subst (λ (h : Option ZoneDatabase). BeginsHeld origin keys how salt h old o new) (sym is) d

-- ---- what is to be signed is handed out

pub gives_none : (p : PlanState) (t : Told) → slice_get p.asked 0 ≡ None → IsSilent t → GivesNext p NoMore t p
gives_none p t none silent = subst (λ (next : Option Asked). GivesAsked p next NoMore t p) (sym none) (silent, refl)

pub gives_one : (p new : PlanState) (a : Asked) (t : Told) → slice_get p.asked 0 ≡ Some a → Tells a.number a.octets t → new ≡ record p { asked = drop 1 p.asked } → GivesNext p Done t new
gives_one p new a t is tells stepped = subst (λ (next : Option Asked). GivesAsked p next Done t new) (sym is) (tells, stepped)

pub lacks_room : (p : PlanState) (a : Asked) (t : Told) → slice_get p.asked 0 ≡ Some a → LacksRoom a.octets t → GivesNext p NoRoom t p
lacks_room p a t is lacks = subst (λ (next : Option Asked). GivesAsked p next NoRoom t p) (sym is) (lacks, refl)

pub gives_held : (held new : Option SigningPlan) (s : SigningPlan) (after : PlanState) (o : PlanOutcome) (t : Told) → held ≡ Some s → GivesNext s.plan o t after → new ≡ Some (with_plan s after)
    → GivesHeld held o t new
gives_held held new s after o t is d set = subst (λ (h : Option SigningPlan). GivesHeld h o t new) (sym is) (after, d, set)

-- ---- signatures

pub takes_held : (signature : List ℕ) (held new : Option SigningPlan) (s : SigningPlan) (after : PlanState) (o : PlanOutcome) → held ≡ Some s → TakesSignature s.plan signature o after
    → new ≡ Some (with_plan s after) → TakesHeld signature held o new
takes_held signature held new s after o is d set = subst (λ (h : Option SigningPlan). TakesHeld signature h o new) (sym is) (after, d, set)

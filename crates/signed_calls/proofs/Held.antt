-- A plan that is held is of an update that is permitted, and what the journal gets of it makes one version more
use Rattle.std.proofs.Common.{◌≡◌, ◌⊎◌, ◌∙◌, ◌++◌, ℕ, true, List, [], ◌∷◌, inl, inr, refl, sym, ap, subst}
use Rattle.std.specs.Prelude.{Option, Some, None}
use Rattle.std.specs.List.{find}
use Rattle.arrival_calls.specs.declared.client.ClientMessage.{ClientMessage}
use Rattle.zone_proto.specs.Names.{Name}
use Rattle.zone_map.specs.Zones.{Sets}
use Rattle.zone_difference.specs.Laws.{last_of}
use Rattle.zone_journal.specs.Journals.{IsJournal}
use Rattle.zone_database.specs.declared.outcome.Outcome.TheVariants.{Done, NoMemory, NoRoom}
use Rattle.zone_database.specs.declared.zone.Zone.{Zone}
use Rattle.zone_database.specs.Databases.{begins_at}
use Rattle.held_plans.specs.Holding.{finished_sets, made_plan}
use Rattle.held_plans.specs.PlanStates.{PlanState}
use Rattle.held_updates.specs.declared.access.UpdateAccess.{UpdateAccess}
use Rattle.held_updates.specs.declared.planned.UpdatedZone.{UpdatedZone}
use Rattle.held_updates.specs.Journaling.{IsJournaled}
use Rattle.held_updates.proofs.Grown.{journals_grow}
use Rattle.journal_calls.specs.declared.outcome.JournalOutcome.{JournalOutcome}
use Rattle.journal_calls.specs.declared.outcome.JournalOutcome.TheVariants.{Usual}
use Rattle.plan_calls.specs.declared.outcome.PlanOutcome.{PlanOutcome}
use Rattle.plan_calls.specs.declared.outcome.PlanOutcome.TheVariants.{Unplanned}
use Rattle.plan_calls.specs.declared.signing_plan.SigningPlan.{SigningPlan}
use Rattle.plan_calls.specs.SigningPlans.{whole}
use Rattle.update_denials.specs.declared.preparing.Prepared.{Prepared}
use Rattle.update_denials.specs.declared.preparing.Signing.{Signing}
use Rattle.update_signing.specs.declared.answering.SignedReply.{SignedReply}
use Rattle.update_signing.specs.declared.answering.SignedReply.TheVariants as reply
use Rattle.signed_updates.specs.declared.beginning.SignedPlan.{SignedPlan}
use Rattle.signed_updates.specs.declared.beginning.SignedPlan.TheVariants as begun
use Rattle.signed_updates.specs.Beginning.{Begins}
use Rattle.signed_updates.specs.Laws.{IsPreparedFor}
use Rattle.signed_updates.proofs.Permitted.{prepared_are_permitted}
use Rattle.signed_calls.specs.declared.outcome.PrepareOutcome.{PrepareOutcome}
use Rattle.signed_calls.specs.declared.outcome.PrepareOutcome.TheVariants.{Update, Plan}
use Rattle.signed_calls.specs.Laws.{FinishedGrowJournals, IsPlanOfVersion, IsPlanOfZone, PreparedAreHeld, WaitingGrowJournals}
use Rattle.signed_calls.specs.Versions.{version_plan}
use Rattle.signed_calls.specs.Preparing.{EndsAs, GivesSigning, TellsReply, TellsSigned, Told}

module _ (access : UpdateAccess) (origin : Name) (signing : Signing) (m : ClientMessage) (zs : List Zone) (told : Told) (update : Option UpdatedZone) (p : SigningPlan) (octets : List ℕ) where
  abbrev of_update : Type 0
  of_update = IsPlanOfZone access origin signing m zs p

  -- where a call ends as one about any update nothing is to be signed
  not_alone : (holds : JournalOutcome → Type 0) (o : PrepareOutcome) → EndsAs holds o (Some p) → of_update
  not_alone holds (Update o) (h, none) = absurd cc
  not_alone holds (Plan e) h = absurd h

  given : (q : SigningPlan) (o : PrepareOutcome) → GivesSigning octets q o told update (Some p) → p ≡ q
  given q (Update (Usual Done)) (gives, none, is) = cc
  given q (Update (Usual NoRoom)) (long, none, empty) = absurd cc
  given q (Update (Usual NoMemory)) (silent, none, empty) = absurd cc
  given q (Update (Usual o)) h = absurd h
  given q (Update o) h = absurd h
  given q (Plan (Unplanned f)) (is, wrong, silent, none, empty) = absurd cc
  given q (Plan o) h = absurd h

  by_reply : (r : SignedReply) (o : PrepareOutcome) → Begins access origin signing m.moment m.octets.now zs (begun.Signed r) octets → TellsReply origin r octets o told update (Some p) → of_update
  by_reply (reply.Prepared q) o begins tells =
      (q, prepared_are_permitted access origin signing m.moment m.octets.now zs q octets begins, given (whole (made_plan origin q.serial q.plan.records q.plan.keys.items)) o tells)
  by_reply (reply.Refused e) o begins tells = not_alone _ o tells
  by_reply (reply.Unsigned e) o begins tells = not_alone _ o tells
  by_reply reply.Unchanged o begins tells = not_alone _ o tells

  by_plan : (x : SignedPlan) (o : PrepareOutcome) → Begins access origin signing m.moment m.octets.now zs x octets → TellsSigned origin x octets o told update (Some p) → of_update
  by_plan (begun.Planned q) o begins tells = not_alone _ o tells
  by_plan (begun.Signed r) o begins tells = by_reply r o begins tells

pub prepared_are_held : PreparedAreHeld
prepared_are_held access origin signing m zs outcome told update p (inl (v, octets, asked, gives)) =
    inr (v, octets, asked, given access origin signing m zs told update p octets (version_plan v) outcome gives)
prepared_are_held access origin signing m zs outcome told update p (inr (inl (is, silent, none, empty))) = absurd cc
prepared_are_held access origin signing m zs outcome told update p (inr (inr (x, octets, begins, journaled, tells))) =
    inl (by_plan access origin signing m zs told update p octets x outcome begins tells)

pub waiting_grow_journals : WaitingGrowJournals
waiting_grow_journals p zs u z a bs journal waits found led last =
    let its : u.zone.origin ≡ p.origin = ap (λ (y : Zone). y.origin) waits.zone in
    let sets : u.zone.inner.records ≡ finished_sets p = ap (λ (y : Zone). y.inner.records) waits.zone in
    let framed : IsJournaled true (Some z) u = subst (λ (o : Option Zone). IsJournaled true o u) found waits.journaled in
    let there : IsJournal u.zone.origin a (bs ++ u.zone.inner.records ∷ []) (journal ++ u.frame.items) =
    journals_grow z u a bs journal framed (subst (λ (n : Name). IsJournal n a bs journal) (sym its) led) last in
    subst (λ (s : Sets). IsJournal p.origin a (bs ++ s ∷ []) (journal ++ u.frame.items)) sets
    (subst (λ (n : Name). IsJournal n a (bs ++ u.zone.inner.records ∷ []) (journal ++ u.frame.items)) its there)

pub finished_grow_journals : FinishedGrowJournals
finished_grow_journals v signatures u a bs journal made led last =
    let its : u.zone.origin ≡ v.origin = ap (λ (y : Zone). y.origin) made.zone.is in
    let there : IsJournal u.zone.origin a (bs ++ u.zone.inner.records ∷ []) (journal ++ u.frame.items) =
    journals_grow v.before u a bs journal made.journaled (subst (λ (n : Name). IsJournal n a bs journal) (sym its) led) last in
    subst (λ (n : Name). IsJournal n a (bs ++ u.zone.inner.records ∷ []) (journal ++ u.frame.items)) its there

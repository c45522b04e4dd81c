-- What comes of an update of one of the zones of a database, from what the steps of the way say
use Rattle.std.proofs.Common.{◌≡◌, ◌≤◌, ◌<◌, ◌∙◌, ℕ, Bool, true, false, cond, List, length, inl, inr, refl, sym, ap, subst, Ok, Err, Result}
use Rattle.std.proofs.lemmas.Cmp.{eq_by_cmp_equiv}
use Rattle.std.specs.Bool.{MatchBool}
use Rattle.std.specs.List.{find}
use Rattle.std.specs.Prelude.{Option, Some, None}
use Rattle.message_reading.specs.declared.header.Header.{Header}
use Rattle.message_tsig.specs.Checking.{checked_of}
use Rattle.message_tsig.specs.declared.key.Key.{Key}
use Rattle.message_tsig.specs.declared.tsig.Tsig.{Tsig}
use Rattle.message_tsig.specs.Signing.{signed_message}
use Rattle.zone_proto.specs.Names.{Name, lower}
use Rattle.zone_proto.proofs.Names.Tree.{name_order}
use Rattle.zone_map.specs.Zones.{Sets}
use Rattle.update_policy.specs.declared.rule.Rule.{Rule}
use Rattle.zone_update.specs.declared.refusal.Refusal.{Refusal}
use Rattle.zone_update.specs.declared.refusal.Refusal.TheVariants.{Memory, NotAuth, Refused}
use Rattle.zone_update.specs.Entries.{Gives, IsRefusal}
use Rattle.update_message.specs.Updates.{parts_of, update_of, Parts}
use Rattle.update_message.specs.declared.message.UpdateMessage.{UpdateMessage}
use Rattle.update_permission.specs.Permissions.{updated_if_permitted}
use Rattle.update_answers.specs.Replies.{is_zone}
use Rattle.zone_database.specs.declared.zone.Zone.{Zone}
use Rattle.zone_database.specs.Databases.{begins_at, with_zone}
use Rattle.zone_database.specs.Zones.{zone_of_records}
use Rattle.held_updates.specs.declared.access.UpdateAccess.{UpdateAccess}
use Rattle.held_updates.specs.declared.answering.UpdateAnswer.{UpdateAnswer}
use Rattle.held_updates.specs.declared.answering.UpdateAnswer.TheVariants as answer
use Rattle.held_updates.specs.declared.planned.PlannedUpdate.{PlannedUpdate}
use Rattle.held_updates.specs.declared.planned.PlannedUpdate.TheVariants as planned
use Rattle.held_updates.specs.declared.planned.UpdatedZone.{UpdatedZone}
use Rattle.held_updates.specs.Tables.{rules_for}
use Rattle.held_updates.specs.Answering.{AnswersUpdate, Comes}
use Rattle.held_updates.specs.Journaling.{IfUpdated, IsJournaled, IsPlanJournaled}
use Rattle.held_updates.specs.Planning.{has_expired, is_signed, is_update, outcome_among, outcome_in, signing_of, updated_in, Plans, PlansAs, PlansBy, PlansSigned, PlansUpdate, RepliesTo}

-- ---- the zone of an update

-- the zone of a name is of that name
its_own : (n : Name) → is_zone (lower n) n ≡ true
its_own n = (eq_by_cmp_equiv name_order.total).refl (lower n)

-- so an update of a zone has the outcome that it has there
in_its_zone : (rules : List Rule) (key : Option Name) (zone : Option Zone) (p : Parts)
    → updated_in rules key (lower p.zone) zone p.prerequisites p.changes ≡ outcome_in rules key (lower p.zone) zone p
in_its_zone rules key None p = refl
in_its_zone rules key (Some z) p =
    ap (λ (b : Bool). cond (has_expired z) (Err Memory) (cond (is_signed z) (Err Refused)
    (cond b (updated_if_permitted rules key (lower p.zone) z.inner.records p.prerequisites p.changes) (Err NotAuth)))) (sym (its_own p.zone))

module _ (access : UpdateAccess) (key : Option Name) (zs : List Zone) (asked : UpdateMessage) (origin : Name) (zone : Option Zone) (rules : List Rule) where
  abbrev p : Parts
  p = parts_of asked

  -- as the zone and its rules are found, the outcome is the one that is defined
  among : origin ≡ lower asked.zone → zone ≡ find (begins_at origin) zs → rules ≡ rules_for origin access.tables.entries
      → updated_in rules key origin zone asked.update.prerequisites.items asked.update.changes.items ≡ outcome_among access key zs p
  among o found table =
      ap (λ (n : Name). updated_in rules key n zone p.prerequisites p.changes) o
      ∙ in_its_zone rules key zone p
      ∙ ap (λ (rs : List Rule). outcome_in rs key (lower p.zone) zone p) (table ∙ ap (λ (n : Name). rules_for n access.tables.entries) o)
      ∙ ap (λ (z : Option Zone). outcome_in (rules_for (lower p.zone) access.tables.entries) key (lower p.zone) z p) (found ∙ ap (λ (n : Name). find (begins_at n) zs) o)

  pub planned_of : (made : Result (Option Sets) Refusal) (x : PlannedUpdate) (octets : List ℕ) → origin ≡ lower asked.zone → zone ≡ find (begins_at origin) zs
      → rules ≡ rules_for origin access.tables.entries → Gives made (updated_in rules key origin zone asked.update.prerequisites.items asked.update.changes.items)
      → RepliesTo made origin asked.header asked.has_extension x octets → Plans (outcome_among access key zs) (Ok p) x octets
  planned_of (Ok (Some after)) (planned.Updated u) octets o found table gives (text, is) =
      let its : u.zone.origin ≡ origin = ap (λ (y : Zone). y.origin) is in
      (after, (sym (among o found table) ∙ gives, text), its ∙ o, is ∙ ap (λ (n : Name). zone_of_records n after) (sym its))
  planned_of (Ok (Some after)) planned.Refused octets o found table gives text = (Memory, tt, text)
  planned_of (Ok (Some after)) planned.Unchanged octets o found table gives replied = absurd replied
  planned_of (Ok (Some after)) planned.Other octets o found table gives replied = absurd replied
  planned_of (Ok None) x octets o found table gives (is, text) =
      subst (λ (y : PlannedUpdate). Plans (outcome_among access key zs) (Ok p) y octets) (sym is) (sym (among o found table) ∙ gives, text)
  planned_of (Err e) x octets o found table gives (is, text) =
      subst (λ (y : PlannedUpdate). Plans (outcome_among access key zs) (Ok p) y octets) (sym is)
      (e, subst (λ (r : Result (Option Sets) Refusal). IsRefusal e r) (among o found table) gives, text)

  -- and so is what the journal of the zone gets
  pub journaled_in : (is_kept : Bool) (made : Result (Option Sets) Refusal) (x : PlannedUpdate) (octets : List ℕ) → zone ≡ find (begins_at origin) zs
      → RepliesTo made origin asked.header asked.has_extension x octets → IfUpdated (IsJournaled is_kept zone) x → IsPlanJournaled is_kept zs x
  journaled_in is_kept (Ok (Some after)) (planned.Updated u) octets found (text, is) framed =
      subst (λ (o : Option Zone). IsJournaled is_kept o u) (found ∙ ap (λ (n : Name). find (begins_at n) zs) (sym (ap (λ (y : Zone). y.origin) is))) framed
  journaled_in is_kept (Ok None) (planned.Updated u) octets found (is, text) framed = absurd cc
  journaled_in is_kept (Err e) (planned.Updated u) octets found (is, text) framed = absurd cc
  journaled_in is_kept made planned.Refused octets found replied framed = tt
  journaled_in is_kept made planned.Unchanged octets found replied framed = tt
  journaled_in is_kept made planned.Other octets found replied framed = tt

-- ---- what was planned comes

pub signed : (access : UpdateAccess) (now : ℕ) (t : Tsig) (k : Key) (message : List ℕ) (zs : List Zone) (x : PlannedUpdate) (plain octets : List ℕ)
    → Plans (outcome_among access (Some k.name) zs) (update_of message) x plain → octets ≡ signed_message k now (signing_of t) plain → PlansSigned access now t k message zs x octets
signed access now t k message zs x plain octets plans text = (plain, plans, text)

module _ (room : ℕ) (octets : List ℕ) (u : UpdatedZone) (zs : List Zone) where
  pub put_comes : (origin : Name) (new : List Zone) → length octets ≤ room → origin ≡ u.zone.origin → new ≡ with_zone u.zone zs → Comes room octets (planned.Updated u) zs (answer.Updated origin) new
  put_comes origin new fits o put = inl (fits, ap (λ (n : Name). answer.Updated n) o, put)

  pub long_comes : room < length octets → Comes room octets (planned.Updated u) zs answer.TooLong zs
  long_comes long = inr (long, refl, refl)

pub answered : (access : UpdateAccess) (now room : ℕ) (message : List ℕ) (zs mid new : List Zone) (x : PlannedUpdate) (a : UpdateAnswer) (response octets : List ℕ)
    → PlansUpdate access now message zs x octets → response ≡ octets → mid ≡ zs → Comes room response x mid a new → AnswersUpdate access now room message zs a octets new
answered access now room message zs mid new x a response octets plans is same comes = record {
  plan = x;
  plans = plans;
  comes = subst (λ (o : List ℕ). Comes room o x zs a new) is (subst (λ (ys : List Zone). Comes room response x ys a new) same comes);
}

-- ---- a message

module _ (access : UpdateAccess) (now : ℕ) (message : List ℕ) (h : Header) (zs : List Zone) (octets : List ℕ) where
  pub as_update : (x : PlannedUpdate) → is_update h ≡ true → PlansBy access now message h (checked_of access.keys.items now message) zs x octets
      → PlansAs access now message h zs x octets
  as_update x is plans =
      subst (λ (b : Bool). MatchBool b (PlansBy access now message h (checked_of access.keys.items now message) zs x octets) (x ≡ planned.Other)) (sym is) plans

  pub as_other : is_update h ≡ false → PlansAs access now message h zs planned.Other octets
  as_other is =
      subst (λ (b : Bool). MatchBool b (PlansBy access now message h (checked_of access.keys.items now message) zs planned.Other octets) (planned.Other ≡ planned.Other)) (sym is) refl

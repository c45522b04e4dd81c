-- What is planned of a message that may be an update of a signed zone, from what the steps of the way say
use Rattle.std.proofs.Common.{◌≡◌, ℕ, Bool, true, false, List, refl, sym, subst, Result, Ok, Err}
use Rattle.std.specs.Bool.{MatchBool}
use Rattle.std.specs.Prelude.{Option, Some, None}
use Rattle.message_reading.specs.declared.header.Header.{Header}
use Rattle.message_tsig.specs.Checking.{checked_of}
use Rattle.message_tsig.specs.declared.key.Key.{Key}
use Rattle.message_tsig.specs.declared.tsig.Tsig.{Tsig}
use Rattle.message_tsig.specs.Signing.{signed_message}
use Rattle.zone_proto.specs.Names.{Name, lower}
use Rattle.zone_map.specs.Zones.{Sets}
use Rattle.update_policy.specs.declared.rule.Rule.{Rule}
use Rattle.update_message.specs.Updates.{update_of, Parts}
use Rattle.update_message.specs.declared.message.UpdateError.{UpdateError}
use Rattle.update_denials.specs.declared.preparing.Signing.{Signing}
use Rattle.update_signing.specs.Replies.{course_for, IsSignedReply}
use Rattle.update_signing.specs.declared.answering.SignedReply.{SignedReply}
use Rattle.zone_database.specs.declared.zone.Zone.{Zone}
use Rattle.held_updates.specs.declared.access.UpdateAccess.{UpdateAccess}
use Rattle.held_updates.specs.declared.planned.PlannedUpdate.{PlannedUpdate}
use Rattle.held_updates.specs.declared.planned.PlannedUpdate.TheVariants as planned
use Rattle.held_updates.specs.Planning.{is_update, outcome_among, signing_of, Plans}
use Rattle.held_updates.specs.Tables.{rules_for}
use Rattle.signed_updates.specs.Beginning.{own_zone, BeginsAs, BeginsBy, BeginsSigned, IsPlanned, PlansIn, PlansRead}
use Rattle.signed_updates.specs.declared.beginning.SignedPlan.{SignedPlan}
use Rattle.signed_updates.specs.declared.beginning.SignedPlan.TheVariants as plan

-- ---- an update that was read

module _ (access : UpdateAccess) (key : Option Name) (origin : Name) (signing : Signing) (zs : List Zone) (octets : List ℕ) where
  -- of the signed zone, as it and its rules are found
  pub of_signed : (p : Parts) (name : Name) (z : Zone) (rules : List Rule) (sets : Sets) (r : SignedReply) → name ≡ lower p.zone → own_zone origin name zs ≡ Some z
      → rules ≡ rules_for name access.tables.entries → sets ≡ z.inner.records → IsSignedReply name sets signing (course_for rules key name sets) p r octets
      → PlansRead access key origin signing zs (Ok p) (plan.Signed r) octets
  of_signed p name z rules sets r named own table its h =
      let by_rules : IsSignedReply name sets signing (course_for (rules_for name access.tables.entries) key name sets) p r octets =
      subst (λ (rs : List Rule). IsSignedReply name sets signing (course_for rs key name sets) p r octets) table h in
      let of_zone : IsSignedReply name z.inner.records signing (course_for (rules_for name access.tables.entries) key name z.inner.records) p r octets =
      subst (λ (m : Sets). IsSignedReply name m signing (course_for (rules_for name access.tables.entries) key name m) p r octets) its by_rules in
      let of_name : IsSignedReply (lower p.zone) z.inner.records signing (course_for (rules_for (lower p.zone) access.tables.entries) key (lower p.zone) z.inner.records) p r octets =
      subst (λ (n : Name). IsSignedReply n z.inner.records signing (course_for (rules_for n access.tables.entries) key n z.inner.records) p r octets) named of_zone in
      subst (λ (o : Option Zone). PlansIn access key origin signing zs p o (plan.Signed r) octets) (sym (subst (λ (n : Name). own_zone origin n zs ≡ Some z) named own)) of_name

  -- of another zone
  pub of_other : (p : Parts) (name : Name) (x : PlannedUpdate) → name ≡ lower p.zone → own_zone origin name zs ≡ None → Plans (outcome_among access key zs) (Ok p) x octets
      → PlansRead access key origin signing zs (Ok p) (plan.Planned x) octets
  of_other p name x named none h =
      subst (λ (o : Option Zone). PlansIn access key origin signing zs p o (plan.Planned x) octets) (sym (subst (λ (n : Name). own_zone origin n zs ≡ None) named none)) h

  -- what isn't of the form of an update
  pub of_unread : (read : Result Parts UpdateError) (e : UpdateError) (x : SignedPlan) → read ≡ Err e → IsPlanned (Plans (outcome_among access key zs) read) x octets
      → PlansRead access key origin signing zs read x octets
  of_unread read e x is h =
      subst (λ (r : Result Parts UpdateError). PlansRead access key origin signing zs r x octets) (sym is)
      (subst (λ (r : Result Parts UpdateError). IsPlanned (Plans (outcome_among access key zs) r) x octets) is h)

-- ---- a message

module _ (access : UpdateAccess) (origin : Name) (signing : Signing) (now : ℕ) (zs : List Zone) (octets : List ℕ) where
  pub of_authentic : (t : Tsig) (k : Key) (message : List ℕ) (x : SignedPlan) (plain : List ℕ) → PlansRead access (Some k.name) origin signing zs (update_of message) x plain
      → octets ≡ signed_message k now (signing_of t) plain → BeginsSigned access origin signing now t k message zs x octets
  of_authentic t k message x plain plans text = (plain, plans, text)

  module _ (message : List ℕ) (h : Header) where
    pub as_update : (x : SignedPlan) → is_update h ≡ true → BeginsBy access origin signing now message (checked_of access.keys.items now message) zs x octets
        → BeginsAs access origin signing now message h zs x octets
    as_update x is begins =
        subst (λ (b : Bool). MatchBool b (BeginsBy access origin signing now message (checked_of access.keys.items now message) zs x octets) (x ≡ plan.Planned planned.Other)) (sym is) begins

    pub as_other : is_update h ≡ false → BeginsAs access origin signing now message h zs (plan.Planned planned.Other) octets
    as_other is =
        subst (λ (b : Bool). MatchBool b (BeginsBy access origin signing now message (checked_of access.keys.items now message) zs (plan.Planned planned.Other) octets)
        (plan.Planned planned.Other ≡ plan.Planned planned.Other)) (sym is) refl

-- A signed zone is prepared to change only by those whom its rules permit it, and what its journal gets of that leads there
use Rattle.std.proofs.Common.{◌≡◌, ℕ, Bool, true, false, List, [], ◌∷◌, ◌++◌, refl, sym, subst, Result, Ok, Err}
use Rattle.std.specs.Bool.{MatchBool}
use Rattle.std.specs.List.{find}
use Rattle.std.specs.Prelude.{Option, Some, None, if◌then◌else◌}
use Rattle.message_reading.specs.declared.header.Header.{Header}
use Rattle.message_reading.specs.Headers.{header_of}
use Rattle.message_tsig.specs.Checking.{Checked, unsigned, malformed, refused, signed, checked_of, IsAuthentic}
use Rattle.message_tsig.specs.Keys.{are_same}
use Rattle.message_tsig.specs.declared.key.Key.{Key}
use Rattle.message_tsig.specs.declared.tsig.Tsig.{Tsig}
use Rattle.zone_proto.specs.NameLaws.{exact_names}
use Rattle.zone_proto.specs.Names.{Name, lower, name_cmp}
use Rattle.zone_proto.proofs.Ordering.KeyOrder.{equal_of}
use Rattle.zone_map.specs.Zones.{Sets}
use Rattle.zone_journal.specs.Journals.{IsJournal}
use Rattle.update_message.specs.Updates.{update_of, Parts}
use Rattle.update_message.specs.declared.message.UpdateError.{UpdateError}
use Rattle.update_denials.specs.declared.preparing.Prepared.{Prepared}
use Rattle.update_denials.specs.declared.preparing.Signing.{Signing}
use Rattle.update_signing.specs.Replies.{course_for, IsSignedReply}
use Rattle.update_signing.specs.declared.answering.SignedReply.TheVariants as reply
use Rattle.update_signing.proofs.Courses.{permitted_is_prepared}
use Rattle.update_signing.proofs.SignedRecords.{permitted_records_alone_change}
use Rattle.zone_database.specs.declared.zone.Zone.{Zone}
use Rattle.zone_database.specs.Databases.{begins_at}
use Rattle.held_updates.specs.declared.access.UpdateAccess.{UpdateAccess}
use Rattle.held_updates.specs.Planning.{has_expired, is_signed, is_update}
use Rattle.held_updates.specs.declared.planned.PlannedUpdate.TheVariants as planned
use Rattle.held_updates.specs.Tables.{rules_for}
use Rattle.held_updates.proofs.Grown.{journals_grow}
use Rattle.signed_updates.specs.Beginning.{if_signed, own_zone, BeginsBy, BeginsHeader, PlansIn, PlansRead}
use Rattle.signed_updates.specs.Laws.{FinishedGrowJournals, IsPreparedFor, PreparedArePermitted}
use Rattle.signed_updates.specs.declared.beginning.SignedPlan.{SignedPlan}
use Rattle.signed_updates.specs.declared.beginning.SignedPlan.TheVariants as plan

-- a zone is the signed one of this origin, as it is found by a name
record IsOwn (origin name : Name) (zs : List Zone) (z : Zone) : Type 0 where
  pub same : name ≡ origin
  pub stood : find (begins_at name) zs ≡ Some z
  pub current : has_expired z ≡ false
  pub secured : is_signed z ≡ true

module _ (origin name : Name) (zs : List Zone) (z : Zone) where
  in_state : are_same origin name ≡ true → (y : Zone) → find (begins_at name) zs ≡ Some y → (a b : Bool) → has_expired y ≡ a → is_signed y ≡ b
      → (if a then None else (if b then Some y else None)) ≡ Some z → IsOwn origin name zs z
  in_state e y q true b g h is = absurd cc
  in_state e y q false false g h is = absurd cc
  in_state e y q false true g h is =
      let its : y ≡ z = cc in
      subst (IsOwn origin name zs) its (record { same = sym (exact_names origin name (equal_of (name_cmp origin name) e)); stood = q; current = g; secured = h })

  found : are_same origin name ≡ true → (o : Option Zone) → find (begins_at name) zs ≡ o → if_signed o ≡ Some z → IsOwn origin name zs z
  found e None q is = absurd cc
  found e (Some y) q is = in_state e y q (has_expired y) (is_signed y) refl refl is

  own : own_zone origin name zs ≡ Some z → IsOwn origin name zs z
  own is = by (are_same origin name) refl is
    where
      by : (b : Bool) → are_same origin name ≡ b → (if b then if_signed (find (begins_at name) zs) else None) ≡ Some z → IsOwn origin name zs z
      by true e g = found e (find (begins_at name) zs) refl g
      by false e g = absurd cc

module _ (access : UpdateAccess) (origin : Name) (signing : Signing) (now : ℕ) (message : List ℕ) (zs : List Zone) (p : Prepared) where
  abbrev prepared : SignedPlan
  prepared = plan.Signed (reply.Prepared p)

  module _ (t : Tsig) (k : Key) (rest plain : List ℕ) (authentic : IsAuthentic access.keys.items now message t k rest) where
    -- an update was prepared by the rules of the zone of a name, which is the signed one
    by_rules : (q : Parts) (name : Name) (z : Zone) → IsOwn origin name zs z
        → IsSignedReply name z.inner.records signing (course_for (rules_for name access.tables.entries) (Some k.name) name z.inner.records) q (reply.Prepared p) plain
        → IsPreparedFor access origin signing now message zs p
    by_rules q name z its answered =
        let as_found : find (begins_at origin) zs ≡ Some z = subst (λ (n : Name). find (begins_at n) zs ≡ Some z) its.same its.stood in
        let there : IsSignedReply origin z.inner.records signing (course_for (rules_for origin access.tables.entries) (Some k.name) origin z.inner.records) q (reply.Prepared p) plain =
        subst (λ (n : Name). IsSignedReply n z.inner.records signing (course_for (rules_for n access.tables.entries) (Some k.name) n z.inner.records) q (reply.Prepared p) plain) its.same answered in
        record {
          key = k;
          authentic = (t, rest, authentic);
          zone = z;
          stood = as_found;
          current = its.current;
          secured = its.secured;
          asked = q;
          prepared = permitted_is_prepared (rules_for origin access.tables.entries) (Some k.name) origin z.inner.records q.prerequisites q.changes signing p there.0;
          records = λ signatures. permitted_records_alone_change (rules_for origin access.tables.entries) k.name origin z.inner.records q.prerequisites q.changes signing p signatures there.0;
        }

    by_zone : (q : Parts) (o : Option Zone) → own_zone origin (lower q.zone) zs ≡ o → PlansIn access (Some k.name) origin signing zs q o prepared plain
        → IsPreparedFor access origin signing now message zs p
    by_zone q None e plans = absurd plans
    by_zone q (Some z) e plans = by_rules q (lower q.zone) z (own origin (lower q.zone) zs z e) plans

    by_read : (read : Result Parts UpdateError) → PlansRead access (Some k.name) origin signing zs read prepared plain → IsPreparedFor access origin signing now message zs p
    by_read (Err e) plans = absurd plans
    by_read (Ok q) plans = by_zone q (own_zone origin (lower q.zone) zs) refl plans

  by_checked : (o : Checked) (octets : List ℕ) → BeginsBy access origin signing now message o zs prepared octets → IsPreparedFor access origin signing now message zs p
  by_checked unsigned octets begins = absurd begins
  by_checked malformed octets begins = absurd begins
  by_checked (refused t e k rest) octets begins = absurd begins
  by_checked (signed t k rest) octets (authentic, (plain, plans, text)) = by_read t k rest plain authentic (update_of rest) plans

  by_header : (o : Option (Header × List ℕ)) (octets : List ℕ) → BeginsHeader access origin signing now message o zs prepared octets → IsPreparedFor access origin signing now message zs p
  by_header None octets is = absurd cc
  by_header (Some h) octets a = by (is_update h.0) a
    where
      by : (b : Bool) → MatchBool b (BeginsBy access origin signing now message (checked_of access.keys.items now message) zs prepared octets) (prepared ≡ plan.Planned planned.Other)
          → IsPreparedFor access origin signing now message zs p
      by true x = by_checked (checked_of access.keys.items now message) octets x
      by false is = absurd cc

pub prepared_are_permitted : PreparedArePermitted
prepared_are_permitted access origin signing now message zs p octets begins = by_header access origin signing now message zs p (header_of message) octets begins

pub finished_grow_journals : FinishedGrowJournals
finished_grow_journals z u p signatures a bs journal framed made led last =
    subst (λ (m : Sets). IsJournal u.zone.origin a (bs ++ m ∷ []) (journal ++ u.frame.items)) made (journals_grow z u a bs journal framed led last)

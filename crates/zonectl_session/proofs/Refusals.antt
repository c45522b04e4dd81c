-- Commands that are refused
use Rattle.std.proofs.Common.{◌==◌, ◌||◌, get_or, sym, ◌≡◌, ℕ, Bool, true, false, cond, List, [], ◌∷◌, Option, Some, None, Result, Ok, Err, true≢false, refl, ap, ◌∙◌, subst, inl, inr}
use Rattle.std.specs.Prelude.{is_some, MatchOption, if◌then◌else◌}
use Rattle.std.specs.Map.{lookup, remove_entry}
use Rattle.zone_proto.specs.declared.nx_proof_kind.NxProofKind.{NxProofKind}
use Rattle.zone_proto.specs.declared.record.Record.{Record}
use Rattle.zone_proto.specs.declared.rr_key.RrKey.{RrKey}
use Rattle.lookup_types.specs.declared.secure_error.SecureError.{SecureError}
use Rattle.zone_proto.specs.Keys.{key, key_eq}
use Rattle.zone_map.specs.Upserts.{upserted}
use Rattle.zone_map.specs.Zones.{Sets, set_at}
use Rattle.zone_lookup.specs.StartOfAuthority.{serial}
use Rattle.zonectl_commands.specs.declared.command.Command.{Command}
use Rattle.zonectl_commands.specs.declared.command.Command.TheVariants as command
use Rattle.zonectl_commands.specs.Commands.{said_by}
use Rattle.zonectl_commands.specs.Transcripts.{AnswersSaid}
use Rattle.zonectl_session.specs.declared.session.Served.{Served}
use Rattle.zonectl_session.specs.Replies.{Reply, yes, no, done, secured, refused, failed, broken_off, answered, proved, listed, transferred, reply_text}
use Rattle.zonectl_session.specs.Sessions.{IsAnswer}
use Rattle.zonectl_session.specs.Steps.{with_sets, IsAdded, IsDropped, IsKeyed, IsRenewed, IsSecuredAt, RepliesSecured}
use Rattle.zonectl_session.specs.SessionLaws.{IsRefusal, RefusedChangesNothing, RefusedLineChangesNothing}

no_refusal : {A : Type 0} (reply told : Reply) → IsRefusal reply → reply ≡ told → (IsRefusal told → ⊥) → A
no_refusal reply told refusal is none = absurd (none (subst IsRefusal is refusal))

-- the entries without one that isn't there
without_missing : {K X : Type 0} (test : K → Bool) (es : List (K × X)) → is_some (lookup test es) ≡ false → remove_entry test es ≡ es
without_missing test [] h = refl
without_missing test (e ∷ es) h = by (test e.0) refl h (without_missing test es)
  where
    by : (b : Bool) → test e.0 ≡ b → is_some (cond b (Some e.1) (lookup test es)) ≡ false → (is_some (lookup test es) ≡ false → remove_entry test es ≡ es) → cond b es (e ∷ remove_entry test es) ≡ e ∷ es
    by true is none others = absurd (true≢false none)
    by false is none others = ap (λ xs. e ∷ xs) (others none)

module _ (old new : Served) (reply : Reply) (refusal : IsRefusal reply) where
  add_refused : (r : Record) → IsAdded old r reply new → new ≡ old
  add_refused r (inr out) = out.1
  add_refused r (inl added) = by (upserted old.zone.inner.records old.zone.class r (serial old.zone.inner.records old.zone.origin)) added
    where
      by : (made : Option Sets) → MatchOption made ((reply ≡ no) × (new ≡ old)) (λ sets. (reply ≡ yes) × (new ≡ with_sets old sets)) → new ≡ old
      by None h = h.1
      by (Some sets) h = no_refusal reply yes refusal h.0 (λ none. none)

  drop_refused : (k : RrKey) → IsDropped old k reply new → new ≡ old
  drop_refused k dropped = by (is_some (set_at old.zone.inner.records k.name k.record_type.0)) refl dropped.0
    where
      by : (b : Bool) → is_some (set_at old.zone.inner.records k.name k.record_type.0) ≡ b → reply ≡ (if b then yes else no) → new ≡ old
      by true is told = no_refusal reply yes refusal told (λ none. none)
      by false is told = dropped.1 ∙ ap (with_sets old) (without_missing (key_eq (key k.name k.record_type.0)) old.zone.inner.records is)

  renewal_refused : (kind : Option NxProofKind) → IsRenewed old kind reply new → new ≡ old
  renewal_refused kind (inl renewed) = no_refusal reply done refusal renewed.0 (λ none. none)
  renewal_refused kind (inr out) = out.1

  key_refused : (number : ℕ) → IsKeyed old number reply new → new ≡ old
  key_refused number (inl keyed) = no_refusal reply done refusal keyed.0 (λ none. none)
  key_refused number (inr out) = out.1

  securing_refused : (now : ℕ) → IsSecuredAt old now reply new → new ≡ old
  securing_refused now secured_at = by secured_at.0 secured_at.2
    where
      by : (result : Result (Unit {0}) SecureError) → RepliesSecured old now result reply new → new ≡ old
      by (Ok x) h = no_refusal reply (secured (serial new.zone.inner.records new.zone.origin)) refusal h.0 (λ none. none)
      by (Err e) h = h.1

pub refused_changes_nothing : RefusedChangesNothing
refused_changes_nothing old new (command.Add r) reply step refusal = add_refused old new reply refusal r step
refused_changes_nothing old new (command.Drop k) reply step refusal = drop_refused old new reply refusal k step
refused_changes_nothing old new (command.Kind kind) reply step refusal = renewal_refused old new reply refusal kind step
refused_changes_nothing old new (command.Key number) reply step refusal = key_refused old new reply refusal number step
refused_changes_nothing old new (command.Secure now) reply step refusal = securing_refused old new reply refusal now step
refused_changes_nothing old new (command.Lookup name record_type options) reply step refusal = step.1
refused_changes_nothing old new (command.Deny k) reply step refusal = step.1
refused_changes_nothing old new command.Circle reply step refusal = step.1
refused_changes_nothing old new (command.Transfer options) reply step refusal = step.1

-- ---- texts of refusals

-- the octet that the text of a reply begins with
abbrev begins : Reply → ℕ
begins yes = 121
begins no = 110
begins done = 111
begins (secured serial) = 111
begins (refused word) = 114
begins (failed word) = 101
begins (broken_off word) = 98
begins (answered answers additionals) = 97
begins (proved proof) = 112
begins (listed owners) = 99
begins (transferred zone) = 116

begins_so : (reply : Reply) → get_or (reply_text reply) 0 0 ≡ begins reply
begins_so yes = refl
begins_so no = refl
begins_so done = refl
begins_so (secured serial) = refl
begins_so (refused word) = refl
begins_so (failed word) = refl
begins_so (broken_off word) = refl
begins_so (answered answers additionals) = refl
begins_so (proved proof) = refl
begins_so (listed owners) = refl
begins_so (transferred zone) = refl

abbrev begins_refusal : ℕ → Bool
begins_refusal octet = octet == 110 || (octet == 114 || (octet == 101 || octet == 98))

refusal_begins : (reply : Reply) → IsRefusal reply → begins_refusal (begins reply) ≡ true
refusal_begins no refusal = refl
refusal_begins (refused word) refusal = refl
refusal_begins (failed word) refusal = refl
refusal_begins (broken_off word) refusal = refl
refusal_begins yes refusal = absurd refusal
refusal_begins done refusal = absurd refusal
refusal_begins (secured serial) refusal = absurd refusal
refusal_begins (answered answers additionals) refusal = absurd refusal
refusal_begins (proved proof) refusal = absurd refusal
refusal_begins (listed owners) refusal = absurd refusal
refusal_begins (transferred zone) refusal = absurd refusal

begun_refusal : (reply : Reply) → begins_refusal (begins reply) ≡ true → IsRefusal reply
begun_refusal no h = tt
begun_refusal (refused word) h = tt
begun_refusal (failed word) h = tt
begun_refusal (broken_off word) h = tt
begun_refusal yes h = absurd (true≢false (sym h))
begun_refusal done h = absurd (true≢false (sym h))
begun_refusal (secured serial) h = absurd (true≢false (sym h))
begun_refusal (answered answers additionals) h = absurd (true≢false (sym h))
begun_refusal (proved proof) h = absurd (true≢false (sym h))
begun_refusal (listed owners) h = absurd (true≢false (sym h))
begun_refusal (transferred zone) h = absurd (true≢false (sym h))

-- a reply with the text of a refusal is one
refusal_by_text : (reply other : Reply) → IsRefusal reply → reply_text other ≡ reply_text reply → IsRefusal other
refusal_by_text reply other refusal same =
    let first : begins other ≡ begins reply = sym (begins_so other) ∙ ap (λ (text : List ℕ). get_or text 0 0) same ∙ begins_so reply in
    begun_refusal other (ap begins_refusal first ∙ refusal_begins reply refusal)

said_refused : (old new : Served) (n : ℕ) (said : Option (Option Command)) (text : List ℕ) (good : Bool) (reply : Reply) → AnswersSaid IsAnswer old n said text good new → IsRefusal reply → text ≡ reply_text reply → new ≡ old
said_refused old new n None text good reply answer refusal same = answer.2
said_refused old new n (Some None) text good reply answer refusal same = answer.2
said_refused old new n (Some (Some c)) text good reply answer refusal same =
    let carried = answer.0 in
    refused_changes_nothing old new c carried.0 carried.1 (refusal_by_text reply carried.0 refusal (sym carried.2 ∙ same))

pub refused_line_changes_nothing : RefusedLineChangesNothing
refused_line_changes_nothing old new n None text good reply answer refusal same = answer.2
refused_line_changes_nothing old new n (Some line) text good reply (inl answer) refusal same = said_refused old new n (said_by line) text good reply answer refusal same
refused_line_changes_nothing old new n (Some line) text good reply (inr none) refusal same = none.2

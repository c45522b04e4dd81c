-- The messages of an answer are taken one after the other
use Rattle.std.proofs.Common.{◌≡◌, ℕ, ◌+◌, ◌-◌, ◌<◌, ◌&&◌, Bool, true, List, [], ◌∷◌, ◌++◌, drop, take, refl, sym, ap, ◌∙◌, arith, eq-eqb}
use Rattle.std.proofs.lemmas.Grind.{flat_map-append}
use Rattle.std.proofs.lemmas.List.{drop-drop, drop_all, take-append-drop}
use Rattle.zone_proto.specs.declared.record.Record.{Record}
use Rattle.message_writing.specs.declared.response.Group.{Group}
use Rattle.message_writing.specs.Responses.{all_records, records_of}
use Rattle.transfer_reading.specs.Answers.{is_asked}
use Rattle.transfer_reading.specs.Laws.{has_none, AreMessages, IsMessage, TakesMessages}
use Rattle.transfer_reading.specs.declared.asked.Asked.{Asked}
use Rattle.difference_messages.specs.AnswerLaws.{AreAll, MessagesAreTaken}
use Rattle.difference_messages.specs.Messages.{answer_parts, Answer}

module _ (asked : Asked) (a : Answer) (id : a.query.header.id ≡ asked.id) (question : is_asked asked a.query.question ≡ true) where
  one_message : (first : Bool) (rs : List Record) → IsMessage asked first (answer_parts a.size a.query rs)
  one_message first rs = record {
    answer = ap (λ (b : Bool). b && true) (eq-eqb a.query.header.id asked.id id);
    code = refl;
    question = question;
    authority = refl;
    whole = refl;
  }

  -- what is left, behind the groups of a message
  parted : (sent next : ℕ) → sent < next → all_records (drop sent a.groups) ≡ all_records (take (next - sent) (drop sent a.groups)) ++ all_records (drop next a.groups)
  parted sent next lt =
      let e : sent + (next - sent) ≡ next = omega (arith, lt) in
      ap all_records (sym (take-append-drop (next - sent) (drop sent a.groups)))
      ∙ flat_map-append records_of (take (next - sent) (drop sent a.groups)) (drop (next - sent) (drop sent a.groups))
      ∙ ap (λ (gs : List Group). all_records (take (next - sent) (drop sent a.groups)) ++ all_records gs) (drop-drop (next - sent) sent a.groups ∙ ap (λ (n : ℕ). drop n a.groups) e)

  are_messages : (first : Bool) (sent : ℕ) (texts : List (List ℕ)) → AreAll a sent texts → AreMessages asked first texts (all_records (drop sent a.groups))
  are_messages first sent [] all = ap all_records (drop_all sent a.groups all)
  are_messages first sent (text ∷ texts) (next, is, all) =
      let front : List Record = all_records (take (next - sent) (drop sent a.groups)) in (
        answer_parts a.size a.query front,
        all_records (drop next a.groups),
        is.message.reads,
        one_message first front,
        parted sent next is.some,
        are_messages (first && has_none front) next texts all,
      )

pub messages_are_taken : TakesMessages → MessagesAreTaken
messages_are_taken takes asked a texts end id question all behind = takes asked texts (all_records a.groups) end (are_messages asked a id question true 0 texts all) behind

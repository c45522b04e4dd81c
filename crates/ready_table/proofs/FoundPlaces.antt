-- What stands at a place answers each message of its question
use Rattle.std.proofs.Common.{◌≡◌, ℕ, zero, suc, ◌+◌, ◌≤◌, Bool, List, [], ◌∷◌, ◌++◌, length, take, drop, Some, sym, ap, subst, ◌∙◌, arith}
use Rattle.std.specs.Prelude.{Option, None, slice_get}
use Rattle.std.specs.List.{AllByRecursion}
use Rattle.std.proofs.lemmas.List.{length-append, length-drop, length-take-le, take-append-drop}
use Rattle.message_reading.specs.Messages.{question_of}
use Rattle.zone_response.specs.Queries.{Zone}
use Rattle.ready_answers.specs.Again.{said_by}
use Rattle.ready_table.specs.declared.table.Place.{Place}
use Rattle.ready_table.specs.Ready.{octets_at, question_at, IsFound, IsQuestionText, IsReady, IsReadyAt}

-- what holds of each element holds of that at an index
pub at_index : {X : Type 0} (P : X → Type 0) (xs : List X) (i : ℕ) (x : X) → AllByRecursion P xs → slice_get xs i ≡ Some x → P x
at_index P [] i x h e = absurd cc
at_index P (y ∷ xs) zero x h e = subst P (by e) h.0
  where
    by : Some y ≡ Some x → y ≡ x
    by f = cc
at_index P (y ∷ xs) (suc i) x h e = at_index P xs i x h.1 e

pub found_at : (z : Zone) (all : List ℕ) (p : Place) (limit : ℕ) (dnssec_ok : Option Bool) (message ready : List ℕ) → IsReadyAt z all p → p.limit ≡ limit → p.dnssec_ok ≡ dnssec_ok
    → ready ≡ octets_at all p → 12 + p.question ≤ length message → take p.question (drop 12 ready) ≡ take p.question (drop 12 message) → IsFound z limit dnssec_ok message ready
found_at z all p limit dnssec_ok message ready h within said is long same =
    let n : ℕ = p.question in
    let text : List ℕ = take n (drop 12 message) in
    let behind : List ℕ = drop n (drop 12 message) in
    let whole : text ++ behind ≡ drop 12 message = take-append-drop n (drop 12 message) in
    let spelled : question_at all p ≡ text = ap (λ o. take n (drop 12 o)) (sym is) ∙ same in
    let size : length message ≡ 12 + length (text ++ behind) = omega (arith, ap length whole, length-drop 12 message, long) in
    record {
      query = h.query;
      ready = subst (λ l. IsReady z l h.query ready) within (subst (λ o. IsReady z p.limit h.query o) (sym is) h.ready);
      extension = h.extension ∙ said;
      behind = behind;
      question = ap (question_of message) (sym whole) ∙ subst (IsQuestionText h.query.question) spelled h.question message behind size (sym whole);
    }

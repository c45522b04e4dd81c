use Rattle.std.proofs.Common.{◌≡◌, ℕ, ◌-◌, ◌∙◌, List, Bor, Some, length, take, drop, sym, ap, subst, arith}
use Rattle.std.specs.Prelude.{option_map}
use Rattle.std.proofs.lemmas.List.{length-drop}
use Rattle.std.proofs.lemmas.Result.{on_ok_weaker}
use Rattle.std.proofs.Math.Seq.{take-length}
use Rattle.message_reading.specs.Messages.{question_of}
use Rattle.message_reading.specs.declared.question.Question.{Question}
use Rattle.ready_table.specs.Ready.{IsReady}
use Rattle.ready_table.proofs.SentQuestions.{ready_question, text_read, text_within}
use Rattle.ready_table.proofs.asking.keep.Goals as goal

pub returns : goal.returns
returns c =
    on_ok_weaker c.keep.result
    (λ keeps z ready all.
    let q = c.args.query.now in
    let octets = c.args.ready.now in
    let x = c.in-Some.field-0-0 in
    let behind = c.in-Some.behind.now in
    let n = c.saturating_sub-count.result in
    let whole : take (length octets - 12) (drop 12 octets) ≡ drop 12 octets =
    ap (λ k. take k (drop 12 octets)) (sym (length-drop 12 octets)) ∙ take-length (drop 12 octets) in
    let read : question_of octets (drop 12 octets) ≡ Some (x, behind) =
    ap (question_of octets) (sym whole) ∙ sym c.in-Ok.ensures ∙ ap (option_map (λ (y : Question × Bor (List ℕ)). (y.0, y.1.now))) c.in-Some.is in
    let count : n ≡ length octets - 12 - length behind = omega (arith, c.saturating_sub-count.ensures) in
    let has = ready_question z _ q octets ready in
    keeps z q (subst (λ l. IsReady z l q octets) (sym c.limit_for.ensures) ready) (sym c.said_by.ensures)
    (text_read q.question x octets behind n has read count) (text_within q.question x octets behind n has read count) all)
    c.keep.ensures

use Rattle.std.proofs.Common.{◌≡◌, ◌+◌, ◌-◌, drop, ap, ◌∙◌, subst, arith}
use Rattle.std.proofs.lemmas.List.{drop-drop}
use Rattle.message_writing.specs.KnownNames.{IsKnown}
use Rattle.message_writing.proofs.name_writer.cut_before.Goals as goal
use Rattle.message_writing.proofs.name_writer.cut_before.Goals.{then-labels-gt0, else-labels-gt0}

pub returns-in-Some : goal.returns-in-Some
returns-in-Some c =
    let n = c.args.name in
    let k = c.loop-labels.labels in
    let on : c.if-labels-gt0.left ≡ drop k n =
    elim c.if-labels-gt0.branch [
      | then-labels-gt0 w ↦
          w.left-is ∙ w.without_first-of_left.ensures ∙ ap (drop 1) c.loop-labels.invariant ∙ drop-drop 1 (k - 1) n ∙ ap (λ j. drop j n) (omega (arith, w.if-labels-gt0.true))
      | else-labels-gt0 w ↦ w.left-is ∙ c.loop-labels.invariant ∙ ap (λ j. drop j n) (omega (arith, w.if-labels-gt0.false))
    ] in
    record {
      within = omega (arith, c.loop-labels-test.true, c.requires.most);
      rest = subst (λ x. IsKnown c.args.out.now c.in-Some.offset x) on c.in-Some.ensures;
    }

pub loop-labels-preserved : goal.loop-labels-preserved
loop-labels-preserved c =
    let n = c.args.name in
    let k = c.loop-labels.labels in
    let on : c.if-labels-gt0.left ≡ drop k n =
    elim c.if-labels-gt0.branch [
      | then-labels-gt0 w ↦
          w.left-is ∙ w.without_first-of_left.ensures ∙ ap (drop 1) c.loop-labels.invariant ∙ drop-drop 1 (k - 1) n ∙ ap (λ j. drop j n) (omega (arith, w.if-labels-gt0.true))
      | else-labels-gt0 w ↦ w.left-is ∙ c.loop-labels.invariant ∙ ap (λ j. drop j n) (omega (arith, w.if-labels-gt0.false))
    ] in
    let same : k ≡ k + 1 - 1 = omega arith in
    on ∙ ap (λ j. drop j n) same

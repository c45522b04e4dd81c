use Rattle.std.proofs.Common.{◌≡◌, ◌+◌, length, drop, sym, ap, ◌∙◌, arith}
use Rattle.std.proofs.lemmas.List.{drop-drop}
use Rattle.message_writing.proofs.NameWriting.{few_labels}
use Rattle.message_writing.proofs.name_writer.cut_of.Goals as goal

pub loop-first-init : goal.loop-first-init
loop-first-init c = record { left = c.clone-left.ensures; count = omega (arith, ap length c.clone-left.ensures); few = few_labels c.args.name c.requires }

pub loop-first-preserved : goal.loop-first-preserved
loop-first-preserved c =
    let step = c.in-Some.ensures.steps in
    let one : drop 1 (drop c.loop-first.labels c.args.name) ≡ drop (c.loop-first.labels + 1) c.args.name = drop-drop 1 c.loop-first.labels c.args.name in
    record {
      left = ap (drop 1) (sym step) ∙ ap (drop 1) c.loop-first.invariant.left ∙ one;
      count = omega (arith, ap length step, c.loop-first.invariant.count);
      few = c.loop-first.invariant.few;
    }

use Rattle.std.proofs.Common.{◌≡◌, ◌+◌, length, drop, sym, ap, ◌∙◌, arith}
use Rattle.std.proofs.lemmas.List.{drop-drop}
use Rattle.message_writing.proofs.NameWriting.{few_labels}
use Rattle.message_writing.proofs.kept_records.front_of.Goals as goal

pub loop-left-init : goal.loop-left-init
loop-left-init c = record {
  left = c.labels-left.ensures.value;
  count = omega (arith, ap length c.labels-left.ensures.value);
  few = few_labels c.args.name.now c.labels-left.ensures.valid;
  valid = c.labels-left.ensures.valid;
}

pub loop-left-preserved : goal.loop-left-preserved
loop-left-preserved c =
    let n = c.args.name.now in
    let step = c.in-Some.ensures.steps in
    let one : drop 1 (drop c.loop-left.labels n) ≡ drop (c.loop-left.labels + 1) n = drop-drop 1 c.loop-left.labels n in
    record {
      left = ap (drop 1) (sym step) ∙ ap (drop 1) c.loop-left.invariant.left ∙ one;
      count = omega (arith, ap length step, c.loop-left.invariant.count);
      few = c.loop-left.invariant.few;
      valid = c.loop-left.invariant.valid;
    }

use Rattle.std.proofs.Common.{drop, sym, ap, ◌∙◌}
use Rattle.std.proofs.lemmas.List.{drop-drop}
use Rattle.zone_proto.specs.Counting.{counted_name}
use Rattle.zone_proto.proofs.counted.after_labels.Goals as goal

pub loop-passed-preserved : goal.loop-passed-preserved
loop-passed-preserved c = record {
  name = sym (ap (drop 1) c.in-Some.ensures.gives) ∙ ap (drop 1) c.loop-passed.invariant.name ∙ drop-drop 1 c.loop-passed._passed (counted_name c.args.octets.now);
  counting = c.in-Some.ensures.base;
}

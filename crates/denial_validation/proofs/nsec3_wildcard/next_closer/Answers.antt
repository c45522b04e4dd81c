use Rattle.std.proofs.Common.{ap, drop, ◌∙◌}
use Rattle.std.proofs.lemmas.List.{drop-drop}
use Rattle.denial_validation.proofs.nsec3_wildcard.next_closer.Goals as goal

pub loop-preserved : goal.loop-preserved
loop-preserved c = c.shorten.ensures ∙ ap (drop 1) c.loop.invariant ∙ drop-drop 1 c.loop.counter c.args.name.now

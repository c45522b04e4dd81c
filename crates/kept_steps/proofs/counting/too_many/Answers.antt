use Rattle.std.proofs.Common.{sym, ◌∙◌, arith}
use Rattle.kept_steps.proofs.Newest.{one_goes}
use Rattle.kept_steps.proofs.counting.too_many.Goals as goal

pub loop-place-preserved : goal.loop-place-preserved
loop-place-preserved c =
    let s = c.index-steps-place in
    let one = one_goes c.args.most c.loop-place.left c.args.steps.now c.loop-place.place s.result (omega arith) s.is c.loop-place.invariant.0 (omega arith) in
    (omega (arith, one.0, c.in-Some.ensures), sym one.1 ∙ c.loop-place.invariant.1)

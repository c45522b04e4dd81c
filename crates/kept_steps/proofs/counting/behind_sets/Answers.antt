use Rattle.std.proofs.Common.{arith}
use Rattle.kept_steps.proofs.Rooms.{count_more, count_to}
use Rattle.kept_steps.proofs.counting.behind_sets.Goals as goal

pub loop-set-preserved : goal.loop-set-preserved
loop-set-preserved c =
    let sets = c.args.sets.now in
    let i = c.loop-set.set-index in
    let s = c.set-item.result in
    omega (arith, count_more sets i s c.loop-set-test.true c.set-item.is, c.in-Some.ensures, c.loop-set.invariant)

pub returns-in-None : goal.returns-in-None
returns-in-None c =
    let sets = c.args.sets.now in
    let i = c.loop-set.set-index in
    let s = c.set-item.result in
    omega (arith, count_to sets i s c.loop-set-test.true c.set-item.is, c.in-None.ensures, c.loop-set.invariant)

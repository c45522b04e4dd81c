use Rattle.std.proofs.Common.{◌≡◌, drop}
use Rattle.std.specs.Prelude.{fold}
use Rattle.condensed_steps.specs.Condensing.{with_set}
use Rattle.condensed_steps.proofs.passing.put_all_in.Given as goal

-- with what is left they are those with all
abbrev pub invariant-loop-other : goal.invariant-loop-other
invariant-loop-other l = fold with_set l.sets (drop l.other-index l.others) ≡ fold with_set l.fn.sets l.others

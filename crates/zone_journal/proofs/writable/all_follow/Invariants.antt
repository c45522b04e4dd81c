use Rattle.std.proofs.Common.{◌≡◌, drop}
use Rattle.zone_journal.specs.Writing.{all_follow}
use Rattle.zone_journal.proofs.writable.all_follow.Given as goal

abbrev pub invariant-loop-set : goal.invariant-loop-set
invariant-loop-set l = all_follow l.before (drop l.set-index l.sets) ≡ all_follow l.first l.sets

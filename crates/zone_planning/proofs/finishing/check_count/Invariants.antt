use Rattle.std.proofs.Common.{◌≡◌, ◌+◌, length}
use Rattle.zone_planning.specs.Filling.{blanks}
use Rattle.zone_planning.proofs.finishing.check_count.Given as goal

-- as many signatures were taken as there are blank ones in the sets so far
abbrev pub invariant-loop-set : goal.invariant-loop-set
invariant-loop-set l = l.left + length (blanks l.records) ≡ l.count + length (blanks l.set-iterator)

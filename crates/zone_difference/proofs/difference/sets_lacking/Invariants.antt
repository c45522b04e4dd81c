use Rattle.std.proofs.Common.{◌≡◌, ◌++◌}
use Rattle.zone_difference.specs.Differences.{sets_lacking}
use Rattle.zone_difference.proofs.difference.sets_lacking.Given as goal

-- those so far, and those that are left
abbrev pub invariant-loop-key : goal.invariant-loop-key
invariant-loop-key l = l.lacking.items ++ sets_lacking l.key-iterator l.other ≡ sets_lacking l.zone l.other

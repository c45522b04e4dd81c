use Rattle.std.proofs.Common.{◌≡◌}
use Rattle.zone_map.specs.Puts.{without_denials}
use Rattle.zone_map.proofs.record_map.puts.are_denials.Given as goal

-- of the entries that were passed all are of denial
abbrev pub invariant-loop-key : goal.invariant-loop-key
invariant-loop-key l = without_denials l.key-iterator ≡ without_denials l.sets.entries

use Rattle.std.proofs.Common.{◌≡◌, drop}
use Rattle.zone_builder.specs.Repeats.{are_distinct}
use Rattle.zone_builder.proofs.repeats.are_distinct.Given as goal

-- in front of those that are left no two have equal data, nor has one of these
abbrev pub invariant-loop-index : goal.invariant-loop-index
invariant-loop-index l = are_distinct (drop l.index l.records) ≡ are_distinct l.records

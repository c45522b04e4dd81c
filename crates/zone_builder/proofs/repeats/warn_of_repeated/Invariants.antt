use Rattle.std.proofs.Common.{◌≡◌, ◌++◌, take, map}
use Rattle.zone_builder.specs.Warnings.{repeated_warning}
use Rattle.zone_builder.proofs.repeats.warn_of_repeated.Given as goal

-- of each so far one more
abbrev pub invariant-loop-given : goal.invariant-loop-given
invariant-loop-given l = l.warnings.items ≡ l.fn.warnings.items ++ map repeated_warning (take l.given-index l.records)

use Rattle.std.proofs.Common.{◌≡◌, ◌++◌, take, map}
use Rattle.zone_builder.specs.Warnings.{nothing_warning}
use Rattle.zone_builder.proofs.sets.warn_of_signatures.Given as goal

-- of each so far one more
abbrev pub invariant-loop-given : goal.invariant-loop-given
invariant-loop-given l = l.warnings.items ≡ l.fn.warnings.items ++ map nothing_warning (take l.given-index l.signatures)

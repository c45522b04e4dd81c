use Rattle.std.proofs.Common.{◌≡◌, drop}
use Rattle.update_rules.specs.Rules.{types_of}
use Rattle.update_rules.proofs.Types.{behind_these}
use Rattle.update_rules.proofs.target.types_of.Given as goal

abbrev pub invariant-loop-at : goal.invariant-loop-at
invariant-loop-at l = behind_these l.types.items (types_of l.line (drop l.at-index l.words)) ≡ types_of l.line l.words

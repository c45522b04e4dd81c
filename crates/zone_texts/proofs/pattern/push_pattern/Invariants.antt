use Rattle.std.proofs.Common.{◌≡◌, ◌++◌, drop}
use Rattle.std.specs.Prelude.{option_map}
use Rattle.zone_texts.specs.Patterns.{filled, filled_from}
use Rattle.zone_texts.proofs.pattern.push_pattern.Given as goal

abbrev pub invariant-loop-octet : goal.invariant-loop-octet
invariant-loop-octet l =
    option_map (λ s. l.line.items ++ s) (filled_from l.is_quoted l.number l.before l.inside.items (drop l.octet-index l.pattern))
    ≡ option_map (λ s. l.fn.line.items ++ s) (filled l.is_quoted l.number l.pattern)

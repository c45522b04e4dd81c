use Rattle.std.proofs.Common.{◌≡◌, map, length}
use Rattle.std.specs.Prelude.{Ok}
use Rattle.line_text.specs.Parts.{parts_left}
use Rattle.update_rules.specs.Texts.{rules_from, rules_of, said_placed, with_more}
use Rattle.update_rules.proofs.reading.read_rules.Given as goal

abbrev pub invariant-loop-rest : goal.invariant-loop-rest
invariant-loop-rest l = with_more (Ok (map said_placed l.rules.items)) (rules_from l.place (parts_left 10 l.rest)) ≡ rules_of l.text

abbrev pub decreases-loop-rest : goal.decreases-loop-rest
decreases-loop-rest l = length (parts_left 10 l.rest)

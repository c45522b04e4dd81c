use Rattle.std.proofs.Common.{◌∙◌, ◌==◌, ℕ, sym, rules, tests}
use Rattle.std.proofs.lemmas.Iterator.{YieldsList-from_slice}
use Rattle.std.proofs.lemmas.Iterator.Search.{position_from_yields_List}
use Rattle.line_text.proofs.PartFacts.{one_part, first_part, after_separator}
use Rattle.update_rules.proofs.reading.first_line.Goals as goal

pub returns-in-None : goal.returns-in-None
returns-in-None c =
    let found = position_from_yields_List (λ (b : ℕ). b == 10) _ _ c.position.result c.position.ensures.ran (YieldsList-from_slice c.args.text.now cc) (λ x b q k. search (rules, tests)) in
    one_part 10 c.args.text.now (sym found ∙ c.in-None.is)

pub returns-in-Some : goal.returns-in-Some
returns-in-Some c =
    let found = position_from_yields_List (λ (b : ℕ). b == 10) _ _ c.position.result c.position.ensures.ran (YieldsList-from_slice c.args.text.now cc) (λ x b q k. search (rules, tests)) in
    let first = first_part 10 c.args.text.now c.in-Some.at (sym found ∙ c.in-Some.is) in
    rw (c.split_at.ensures.front, after_separator c.in-Some.at c.args.text.now c.split_at.result.1.now c.split_at.ensures.back) first

use Rattle.std.proofs.Common.{rules, tests, sym, ◌∙◌}
use Rattle.std.proofs.lemmas.Iterator.Consumers.{YieldsList-from_first}
use Rattle.std.proofs.lemmas.Iterator.Search.{find_from_yields_List}
use Rattle.denial_validation.specs.NsecProofs.{denies_name}
use Rattle.denial_validation.proofs.ListTests.{option_map-itself}
use Rattle.denial_validation.proofs.nsec.first_denying.Goals as goal

pub returns : goal.returns
returns c =
    sym (option_map-itself c.find.result)
    ∙ find_from_yields_List (λ r. denies_name c.args.apex.now r c.args.name.now) _ _ _ c.find.ensures.ran
    (YieldsList-from_first (λ x. x) (λ s. s) _ c.among.ensures) (λ x b q k. search (rules, tests))

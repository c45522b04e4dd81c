use Rattle.std.proofs.Common.{◌==◌, ◌∙◌, ap, sym, option_map, rules, tests}
use Rattle.std.specs.Option.{option_copied}
use Rattle.std.proofs.lemmas.Iterator.{YieldsList-from_slice}
use Rattle.std.proofs.lemmas.Iterator.Search.{find_from_yields_List}
use Rattle.zone_file_writer.proofs.FurtherWords.{word_is}
use Rattle.zone_file_writer.proofs.parameters.key_word.Goals as goal

pub returns-in_err-named : goal.returns-in_err-named
returns-in_err-named c =
    let found = find_from_yields_List (λ row. c.args.key == row.0) _ _ c.find.result c.find.ensures.ran
    (YieldsList-from_slice _ c.iter.ensures.rest) (λ x b q k. search (rules, tests)) in
    ap option_copied c.from_residual.ensures ∙ ap (option_map (λ row. row.now.1.now)) (sym c.in_err-named.was)
    ∙ word_is c.args.key _ _ c.find.result c.iter.ensures.rest found

pub returns : goal.returns
returns c =
    let found = find_from_yields_List (λ row. c.args.key == row.0) _ _ c.find.result c.find.ensures.ran
    (YieldsList-from_slice _ c.iter.ensures.rest) (λ x b q k. search (rules, tests)) in
    ap (option_map (λ row. row.now.1.now)) (sym c.in_ok-named.was) ∙ word_is c.args.key _ _ c.find.result c.iter.ensures.rest found

use Rattle.std.proofs.Common.{◌∙◌, ap, sym, option_map, bytes_eq, rules, tests}
use Rattle.std.proofs.lemmas.Iterator.{YieldsList-from_slice}
use Rattle.std.proofs.lemmas.Iterator.Search.{find_from_yields_List}
use Rattle.zone_proto.proofs.Texts.NamedTypes.{number_is}
use Rattle.zone_proto.proofs.record_type.from_word.Goals as goal

pub returns-in_err-named : goal.returns-in_err-named
returns-in_err-named c =
    let found = find_from_yields_List (λ row. bytes_eq c.args.text.now row.1.now) _ _ c.find.result c.find.ensures.ran
    (YieldsList-from_slice _ c.iter.ensures.rest) (λ x b q k. search (rules, tests)) in
    ap (option_map (λ t. t.0)) c.from_residual.ensures ∙ ap (option_map (λ row. row.now.0.0)) (sym c.in_err-named.was)
    ∙ number_is c.args.text.now _ _ c.find.result c.iter.ensures.rest found

pub returns : goal.returns
returns c =
    let found = find_from_yields_List (λ row. bytes_eq c.args.text.now row.1.now) _ _ c.find.result c.find.ensures.ran
    (YieldsList-from_slice _ c.iter.ensures.rest) (λ x b q k. search (rules, tests)) in
    ap (option_map (λ row. row.now.0.0)) (sym c.in_ok-named.was) ∙ number_is c.args.text.now _ _ c.find.result c.iter.ensures.rest found

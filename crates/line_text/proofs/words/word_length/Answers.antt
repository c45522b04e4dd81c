use Rattle.std.proofs.Common.{◌∙◌, length, ap, rules, tests, unwrap_or}
use Rattle.std.proofs.lemmas.Iterator.{YieldsList-from_slice}
use Rattle.std.proofs.lemmas.Iterator.Search.{position_from_yields_List}
use Rattle.line_text.specs.Words.{is_blank}
use Rattle.line_text.proofs.WordFacts.{place}
use Rattle.line_text.proofs.words.word_length.Goals as goal

pub returns : goal.returns
returns c =
    let found = position_from_yields_List (is_blank) _ _ c.position.result c.position.ensures.ran (YieldsList-from_slice c.args.text.now cc) (λ x b q k. search (rules, tests)) in
    c.unwrap_or.ensures ∙ ap (λ r. unwrap_or r (length c.args.text.now)) found ∙ place (is_blank) c.args.text.now

use Rattle.std.proofs.Common.{◌∙◌, sym}
use Rattle.line_text.proofs.Digits.{read_large}
use Rattle.line_text.proofs.numbers.read_number.Goals as goal

pub returns-in_default-with_digit : goal.returns-in_default-with_digit
returns-in_default-with_digit c =
    let is_digit = sym c.read_digit.ensures ∙ c.in-Some.is in
    read_large c.args.base c.args.most c.args.word.now c.loop-octet.value c.loop-octet.octet-index c.in-Some.digit c.loop-octet-test.true c.requires.low is_digit (sym c.with_digit.ensures ∙ c.in_default-with_digit.is) c.loop-octet.invariant.reads

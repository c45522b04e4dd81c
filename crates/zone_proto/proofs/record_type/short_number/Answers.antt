use Rattle.std.proofs.Common.{◌≡◌, ◌∙◌, true, sym}
use Rattle.std.specs.Char.{is_ascii_digit}
use Rattle.std.specs.List.{list_all}
use Rattle.zone_proto.proofs.Texts.TypeTextLaws.{short_from_parse}
use Rattle.zone_proto.proofs.record_type.short_number.Goals as goal

pub returns-then-is_digits : goal.returns-then-is_digits
returns-then-is_digits c =
    let digits : list_all is_ascii_digit c.args.digits.now ≡ true = sym c.is_digits.ensures ∙ c.if-is_digits.true in
    c.ok.ensures.value ∙ short_from_parse c.args.digits.now c.parse.result c.parse.ensures.value.0 digits

use Rattle.std.proofs.Common.{length, refl, sym, ◌∙◌, arith}
use Rattle.zone_proto.proofs.Members.{no_items}
use Rattle.zone_denial.proofs.Sets.TypesPassed.{all_passed}
use Rattle.zone_denial.proofs.listed_types.lists_types.Goals as goal

pub returns : goal.returns
returns c = λ same.
    let left = c.in-Some.left.now in
    let none = no_items left (length left) refl (sym c.is_empty.ensures ∙ same) in
    all_passed c.args.keys.now c.split_at.result.0.now c.split_at.result.1.now c.count_below-below.result c.args.types.now left (omega (arith, c.if-below-keys.false)) c.split_at.ensures.front c.split_at.ensures.back
    c.count_below-below.ensures.value (c.begins_above.ensures c.if-not-begins_above.false) c.in-Some.ensures none

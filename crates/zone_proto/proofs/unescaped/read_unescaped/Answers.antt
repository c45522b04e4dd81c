use Rattle.std.proofs.Common.{◌≡◌, ◌++◌, ◌∷◌, [], ap, subst, sym, ◌∙◌, rules}
use Rattle.std.proofs.lemmas.List.{nil_from_length}
use Rattle.zone_proto.specs.Names.{IsName}
use Rattle.zone_proto.specs.Octets.{written}
use Rattle.zone_proto.specs.Packing.{name_of, IsPacking}
use Rattle.zone_proto.specs.TextForm.{IsNameText}
use Rattle.zone_proto.proofs.Texts.UnescapedTexts.{IsReadUpTo, label_read, all_read, ends_with_dot}
use Rattle.zone_proto.proofs.unescaped.read_unescaped.Goals as goal

pub of_packing-requires : goal.of_packing-requires
of_packing-requires c =
    let pushed : written c.push.new.self ≡ (written c.loop-front.octets ++ c.in-Some.label.now) ++ 0 ∷ [] =
    c.in_ok-push.ensures ∙ ap (λ z. z ++ 0 ∷ []) c.in_ok-extend_from_slice.ensures in
    let none : c.in-Some.front.now ≡ [] = nil_from_length c.in-Some.front.now (search rules) in
    subst (λ z. IsPacking z (name_of z)) (sym pushed)
    (all_read c.args.text.now c.loop-front.rest.now c.in-Some.front.now c.in-Some.label.now (written c.loop-front.octets) c.loop-front.invariant
    c.in-Some.ensures.whole none c.in-Some.ensures.label c.if-text-gt-LONGEST_TEXT.false).0

pub returns-in_default-split_last-clause-text : goal.returns-in_default-split_last-clause-text
returns-in_default-split_last-clause-text c =
    let pushed : written c.push.new.self ≡ (written c.loop-front.octets ++ c.in-Some.label.now) ++ 0 ∷ [] =
    c.in_ok-push.ensures ∙ ap (λ z. z ++ 0 ∷ []) c.in_ok-extend_from_slice.ensures in
    let none : c.in-Some.front.now ≡ [] = nil_from_length c.in-Some.front.now (search rules) in
    subst (IsNameText c.args.text.now) (sym (c.of_packing.ensures ∙ ap name_of pushed))
    (all_read c.args.text.now c.loop-front.rest.now c.in-Some.front.now c.in-Some.label.now (written c.loop-front.octets) c.loop-front.invariant
    c.in-Some.ensures.whole none c.in-Some.ensures.label c.if-text-gt-LONGEST_TEXT.false).1

pub returns-in_default-split_last-clause-name : goal.returns-in_default-split_last-clause-name
returns-in_default-split_last-clause-name c =
    let pushed : written c.push.new.self ≡ (written c.loop-front.octets ++ c.in-Some.label.now) ++ 0 ∷ [] =
    c.in_ok-push.ensures ∙ ap (λ z. z ++ 0 ∷ []) c.in_ok-extend_from_slice.ensures in
    let none : c.in-Some.front.now ≡ [] = nil_from_length c.in-Some.front.now (search rules) in
    subst IsName (sym (c.of_packing.ensures ∙ ap name_of pushed))
    (all_read c.args.text.now c.loop-front.rest.now c.in-Some.front.now c.in-Some.label.now (written c.loop-front.octets) c.loop-front.invariant
    c.in-Some.ensures.whole none c.in-Some.ensures.label c.if-text-gt-LONGEST_TEXT.false).2

pub loop-front-preserved : goal.loop-front-preserved
loop-front-preserved c =
    let pushed : written c.push.new.self ≡ (written c.loop-front.octets ++ c.in-Some.label.now) ++ 0 ∷ [] =
    c.in_ok-push.ensures ∙ ap (λ z. z ++ 0 ∷ []) c.in_ok-extend_from_slice.ensures in
    subst (IsReadUpTo c.args.text.now c.in-Some-split_last.before.now) (sym pushed)
    (label_read c.args.text.now c.loop-front.rest.now c.in-Some.front.now c.in-Some-split_last.before.now c.in-Some.label.now (written c.loop-front.octets)
    c.loop-front.invariant c.in-Some.ensures.whole
    (ends_with_dot c.in-Some.front.now c.in-Some-split_last.before.now c.in-Some-split_last.field-0-0.now c.in-Some.ensures.front (search rules))
    c.in-Some.ensures.label)

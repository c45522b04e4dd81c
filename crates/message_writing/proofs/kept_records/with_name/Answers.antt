use Rattle.std.proofs.Common.{◌++◌, refl, ap, ◌∙◌}
use Rattle.message_writing.specs.declared.kept_records.PointedText.{PointedText}
use Rattle.message_writing.specs.KnownNames.{labels_text}
use Rattle.message_writing.proofs.KeptBack.{front_as, name_pointed, name_whole}
use Rattle.message_writing.proofs.kept_records.with_name.Goals as goal

pub returns-then-front : goal.returns-then-front
returns-then-front c =
    let before = c.args.text in
    let front = c.front_of-front.result in
    let mid : PointedText = record { fronts = before.fronts; tail = c.push_labels.new.out } in
    name_pointed c.args.origin.now before mid c.in_ok-pointed.field-0 front.labels c.args.name.now refl
    (c.in_ok-push_labels.ensures ∙ ap (λ n. before.tail.items ++ labels_text front.labels n) c.labels.ensures.value)
    (front_as c.args.origin.now front.labels _ _ c.args.name.now c.if-front.true c.front_of-front.ensures) c.in_ok-pointed.ensures

pub returns : goal.returns
returns c =
    let before = c.args.text in
    let front = c.front_of-front.result in
    let mid : PointedText = record { fronts = before.fronts; tail = c.push_labels.new.out } in
    let after : PointedText = record { fronts = before.fronts; tail = c.push.new.self } in
    name_whole c.args.origin.now before mid after front.labels c.args.name.now refl
    (c.in_ok-push_labels.ensures ∙ ap (λ n. before.tail.items ++ labels_text front.labels n) c.labels.ensures.value)
    (front_as c.args.origin.now front.labels _ _ c.args.name.now c.if-front.false c.front_of-front.ensures) refl c.in_ok-push.ensures.items

use Rattle.std.proofs.Common.{◌≡◌, ◌+◌, ◌++◌, length, take, refl, sym, ap, ◌∙◌, arith}
use Rattle.std.specs.List.{flat_map}
use Rattle.message_writing.specs.declared.kept_records.PointedText.{PointedText}
use Rattle.message_writing.specs.KeptText.{front_at, text_at}
use Rattle.message_writing.proofs.KeptBack.{pushed_all, pushed_more, tail_more}
use Rattle.message_writing.proofs.kept_records.PointedText.followed_by.Goals as goal

pub loop-front-preserved : goal.loop-front-preserved
loop-front-preserved c = λ p.
    let t = c.loop-front.text in
    let mid : PointedText = record { fronts = t.fronts; tail = c.extend_from_slice.new.self } in
    let items = c.deref-front-items.result.now in
    let same : items ≡ c.args.other.now.fronts.items = c.deref-front-items.ensures.value in
    let more = tail_more p t mid c.front-item.result.items refl
    (c.in_ok-extend_from_slice.ensures.items ∙ ap (λ s. t.tail.items ++ s) c.as_slice.ensures.value) in
    pushed_more p (text_at p c.args.self) (text_at p t) (text_at p mid) (text_at p c.in_ok-text.text) items c.loop-front.front-index
    c.front-item.result c.loop-front-test.true c.front-item.is
    (c.loop-front.invariant p ∙ ap (λ xs. text_at p c.args.self ++ flat_map (front_at p) (take c.loop-front.front-index xs)) (sym same)) more
    (c.in_ok-text.ensures p)
    ∙ ap (λ xs. text_at p c.args.self ++ flat_map (front_at p) (take (c.loop-front.front-index + 1) xs)) same

pub returns : goal.returns
returns c = λ p.
    let t = c.loop-front.text in
    let other = c.args.other.now in
    let end : PointedText = record { fronts = t.fronts; tail = c.extend_from_slice-2.new.self } in
    let same : c.deref-front-items.result.now ≡ other.fronts.items = c.deref-front-items.ensures.value in
    pushed_all p (text_at p c.args.self) (text_at p t) (text_at p end) other c.loop-front.front-index
    (omega (arith, c.loop-front-test.false, ap length same)) (c.loop-front.invariant p)
    (tail_more p t end other.tail.items refl
    (c.in_ok-extend_from_slice-2.ensures.items ∙ ap (λ s. t.tail.items ++ s) c.as_slice-2.ensures.value))

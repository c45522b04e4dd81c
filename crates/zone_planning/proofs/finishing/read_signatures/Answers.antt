use Rattle.std.proofs.Common.{◌≡◌, ℕ, ◌+◌, ◌*◌, ◌<◌, List, [], ◌∷◌, ◌++◌, length, inr, refl, sym, ap, ◌∙◌, arith}
use Rattle.std.proofs.lemmas.List.{take-append-drop}
use Rattle.zone_planning.proofs.Apart.{no_count, no_signature, text_step}
use Rattle.zone_planning.proofs.finishing.read_signatures.Goals as goal

-- a list without elements
nothing : (xs : List ℕ) → length xs ≡ 0 → xs ≡ []
nothing [] e = refl
nothing (x ∷ xs) e = absurd (omega (arith, e))

pub returns-in_default-split_first-clause-err : goal.returns-in_default-split_first-clause-err
returns-in_default-split_first-clause-err c =
    inr (
      refl,
      λ ss. no_count c.loop-high.signatures.items ss c.loop-high.left.now c.args.octets.now c.in-Some.high.now c.loop-high.invariant
          (c.in-Some.ensures.cases.0 ∙ ap (λ xs. c.in-Some.high.now ∷ xs) (nothing c.in-Some.others.now c.in_default-split_first.ensures.cases)),
    )

pub returns-then-others-count-clause-err : goal.returns-then-others-count-clause-err
returns-then-others-count-clause-err c =
    let few : length c.in-Some-split_first.others.now < c.in-Some.high.now * 256 + c.in-Some-split_first.low.now =
    rw (← c.from.ensures, ← c.from-in-Some.ensures) c.if-others-count.true in
    inr (
      refl,
      λ ss. no_signature c.loop-high.signatures.items ss c.loop-high.left.now c.args.octets.now c.in-Some.high.now c.in-Some-split_first.low.now c.in-Some-split_first.others.now
          c.loop-high.invariant (c.in-Some.ensures.cases.0 ∙ ap (λ xs. c.in-Some.high.now ∷ xs) c.in-Some-split_first.ensures.cases.0) few,
    )

pub loop-high-preserved : goal.loop-high-preserved
loop-high-preserved c =
    let high = c.in-Some.high.now in
    let low = c.in-Some-split_first.low.now in
    let others = c.in-Some-split_first.others.now in
    let s = c.in_ok-from_slice.field-0 in
    let copied : s ≡ c.split_at.result.0.now = c.in_ok-from_slice.ensures.ok in
    let whole : others ≡ s ++ c.split_at.result.1.now =
    sym ((λ i. (copied ∙ c.split_at.ensures.front) i ++ c.split_at.ensures.back i) ∙ take-append-drop (c.from.result * 256 + c.from-in-Some.result) others) in
    let count : length s ≡ high * 256 + low = omega (arith, ap length copied, c.split_at.ensures.front_len, c.from.ensures, c.from-in-Some.ensures) in
    text_step c.loop-high.signatures.items c.push.new.self.items s high low c.split_at.result.1.now c.loop-high.left.now c.args.octets.now (omega arith) count
    (c.in-Some.ensures.cases.0 ∙ ap (λ xs. high ∷ xs) (c.in-Some-split_first.ensures.cases.0 ∙ ap (λ xs. low ∷ xs) whole))
    c.in_ok-push.ensures.items c.loop-high.invariant

use Rattle.std.proofs.Common.{◌≡◌, ◌<◌, ℕ, length, get_or, below_more, sym, ap, ◌∙◌, arith, eq-eqb}
use Rattle.std.proofs.lemmas.Bool.{eqb-true}
use Rattle.std.proofs.lemmas.Grind.{same_number_lists}
use Rattle.message_hmac.proofs.Differing.{before_none, none_still, same_here}
use Rattle.message_hmac.proofs.same.is_same.Goals as goal

pub loop-i-preserved : goal.loop-i-preserved
loop-i-preserved c = record {
  same = λ none. below_more _ _ (c.loop-i.invariant.same (before_none _ _ none)) (same_here _ _ _ none);
  differs = λ same. none_still _ _ _
      (c.loop-i.invariant.differs (λ k (h : k < c.loop-i.i). same k (omega arith)))
      (same c.loop-i.i (omega arith));
}

pub returns : goal.returns
returns c =
    let long : length c.args.left.now ≡ length c.args.right.now = omega (arith, c.if-left-right.false) in
    let all : length c.args.left.now ≡ c.loop-i.i = omega (arith, c.loop-i-test.false, c.loop-i.auto.i-end) in (
      λ none. same_number_lists _ _ long (λ k (h : k < length c.args.left.now). c.loop-i.invariant.same (eqb-true _ _ none) k (omega arith)),
      λ same. eq-eqb _ _ (c.loop-i.invariant.differs (λ k h. ap (λ xs. get_or xs k 0) same)),
    )

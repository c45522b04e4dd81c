use Rattle.std.proofs.Common.{◌≡◌, ◌⊎◌, ◌∙◌, ℕ, zero, suc, false, inl, inr, refl, sym, ap, arith, Greater}
use Rattle.std.specs.Cmp.{nat_cmp_is}
use Rattle.std.specs.Ordering.{is_lt, nat_cmp, ordering_reverse, ordering_then}
use Rattle.std.proofs.lemmas.Cmp.{tied_itself}
use Rattle.zone_proto.specs.Keys.{key, first_key, key_cmp}
use Rattle.zone_proto.specs.Names.{Name, name_cmp, IsAbove}
use Rattle.zone_proto.specs.Order.{is_before}
use Rattle.zone_proto.proofs.Names.NameTree.{above_is_less}
use Rattle.zone_proto.proofs.Names.Tree.{name_order, above_cases}
use Rattle.zone_proto.proofs.laws.first_key_is_first.Goals as goal

zero_first : (t : ℕ) → is_lt (nat_cmp t 0) ≡ false
zero_first zero = refl
zero_first (suc t) = ap is_lt (sym (nat_cmp_is (suc t) 0 Greater (omega arith)))

pub returns : goal.returns
returns c = λ a n t above. by a n t (above_cases a n above)
  where
    by : (a n : Name) (t : ℕ) → (a ≡ n) ⊎ IsAbove a n → is_before key_cmp (key n t) (first_key a) ≡ false
    by a n t (inl same) = ap (λ o. is_lt (ordering_then o (nat_cmp t 0))) (ap (name_cmp n) same ∙ tied_itself name_order.total n) ∙ zero_first t
    by a n t (inr above) = ap (λ o. is_lt (ordering_then o (nat_cmp t 0))) (name_order.total.antisymm n a ∙ ap ordering_reverse (above_is_less a n above))

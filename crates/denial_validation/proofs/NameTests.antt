-- The tests of names, as the program makes them
use Rattle.std.proofs.Common.{◌≡◌, ℕ, Bool, true, List, [], ◌∷◌, length, ◌==◌, MatchOption, Option, Some, None, is_some, refl, sym, ap, ◌∙◌, Bor, arith, ne_eqb}
use Rattle.std.specs.Cmp.{both_ways}
use Rattle.std.specs.Ordering.{is_eq}
use Rattle.std.specs.Prelude.{◌↔◌, IsTrue}
use Rattle.zone_proto.specs.Names.{Name, lower, name_cmp, name_eq, is_above, is_at_or_above, is_root, IsAtOrAbove}
use Rattle.zone_proto.proofs.Ordering.KeyOrder.{equal_of}
use Rattle.zone_proto.proofs.Names.NameTree.{name_eq-Decides, name_itself, at_or_above_test}
use Rattle.zone_proto.proofs.Names.Tree.{name_order}

-- names are the same where none comes before the other
pub same_by_order : (a b : Name) → is_eq (name_cmp a b) ≡ name_eq a b
same_by_order a b =
    both_ways (is_eq (name_cmp a b)) (name_eq a b) (λ h. (name_eq-Decides a b).1 (name_order.exact a b (equal_of (name_cmp a b) h)))
    (λ h. ap is_eq (ap (name_cmp a) (sym ((name_eq-Decides a b).0 h)) ∙ name_itself a))

-- a test that says whether a name is at or above another
pub at_or_above_by : (a n : Name) (t : Bool) → IsTrue t ↔ IsAtOrAbove a n → t ≡ is_at_or_above a n
at_or_above_by a n t h = both_ways t (is_at_or_above a n) (λ e. (at_or_above_test a n).1 (h.0 e)) (λ e. h.1 ((at_or_above_test a n).0 e))

-- above a name is at or above its parent
pub above_by_parent : (a whole parent : Name) (first : Option (Bor (List ℕ))) (t : Bool)
    → MatchOption first ((whole ≡ []) × (parent ≡ [])) (λ l. whole ≡ l.now ∷ parent) → is_some first ≡ true
    → t ≡ is_at_or_above a (lower parent) → t ≡ is_above a (lower whole)
above_by_parent a whole parent None t step some h = cc
above_by_parent a whole parent (Some l) t step some h = h ∙ ap (λ n. is_above a (lower n)) (sym step)

-- the root is the name without labels
pub root_by_count : (n : Name) → (length n == 0) ≡ is_root (lower n)
root_by_count [] = refl
root_by_count (l ∷ ls) = ne_eqb (length (l ∷ ls)) 0 (λ e. omega (arith, e))

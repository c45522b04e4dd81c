-- The canonical order and the tree of names, in the words of orders
use Rattle.std.proofs.Common.{◌≡◌, true, false, [], ◌∷◌, refl, sym, true≢false, ◌⊎◌, inl, inr, Ordering, Less, Equal, Greater}
use Rattle.std.specs.Ordering.{is_gt, is_le}
use Rattle.zone_proto.specs.Order.{is_upto}
use Rattle.zone_proto.specs.Names.{Name, name_cmp, name_eq, IsAtOrAbove, IsAbove}
use Rattle.zone_proto.specs.NameLaws.{name_cmp_total, exact_names, descendants_together}
use Rattle.zone_proto.proofs.Names.NameTree.{name_eq-Decides}
use Rattle.zone_proto.proofs.Ordering.Orders.{IsOrder}

-- the order of names is total, and tells all names apart
pub name_order : IsOrder name_cmp
name_order = record { total = name_cmp_total; exact = exact_names }

pub name_eq_itself : (n : Name) → name_eq n n ≡ true
name_eq_itself n = (name_eq-Decides n n).1 refl

not_greater : (o : Ordering) → is_le o ≡ true → is_gt o ≡ false
not_greater Less h = refl
not_greater Equal h = refl
not_greater Greater h = absurd (true≢false (sym h))

-- descendants stand together
pub together : (a n d : Name) → is_upto name_cmp a n ≡ true → is_upto name_cmp n d ≡ true → IsAtOrAbove a d → IsAtOrAbove a n
together a n d h k below = descendants_together a n d below (not_greater (name_cmp a n) h) (not_greater (name_cmp n d) k)

-- at or above is the same, or above
pub above_cases : (a n : Name) → IsAtOrAbove a n → (a ≡ n) ⊎ IsAbove a n
above_cases a n ([], e) = inl (sym e)
above_cases a n (l ∷ f, e) = inr (l, f, e)

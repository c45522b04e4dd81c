-- Names above each other, and above a wildcard
use Rattle.std.proofs.Common.{◌≡◌, drop, sym, ap, ◌⊎◌, inl, inr}
use Rattle.zone_proto.specs.Names.{Name, IsAtOrAbove, IsAbove, wildcard_under}
use Rattle.zone_proto.proofs.Names.NameTree.{above_is_less}
use Rattle.zone_proto.proofs.Ordering.Orders.{asym}
use Rattle.zone_proto.proofs.Names.Tree.{name_order, above_cases}

-- names at or above each other are one
pub same_name : (a b : Name) → IsAtOrAbove a b → IsAtOrAbove b a → a ≡ b
same_name a b u v = by (above_cases a b u) (above_cases b a v)
  where
    by : (a ≡ b) ⊎ IsAbove a b → (b ≡ a) ⊎ IsAbove b a → a ≡ b
    by (inl e) w = e
    by (inr w) (inl e) = sym e
    by (inr w) (inr k) = absurd (asym name_order a b (above_is_less a b w) (above_is_less b a k))

pub above_wildcard : (a e : Name) → IsAbove a (wildcard_under e) → IsAtOrAbove a e
above_wildcard a e (l, f, q) = (f, ap (drop 1) q)

-- The test whether a name is at or above another, as the program makes it
use Rattle.std.proofs.Common.{◌≡◌, Bool, true, false, refl, sym}
use Rattle.std.specs.Prelude.{◌↔◌, IsTrue}
use Rattle.zone_proto.specs.Names.{Name, is_at_or_above, IsAtOrAbove}
use Rattle.zone_proto.proofs.Names.NameTree.{at_or_above_test}

pub at_or_above_by : (a n : Name) (b : Bool) → IsTrue b ↔ IsAtOrAbove a n → b ≡ is_at_or_above a n
at_or_above_by a n true h = sym ((at_or_above_test a n).1 (h.0 refl))
at_or_above_by a n false h = by (is_at_or_above a n) refl
  where
    by : (c : Bool) → is_at_or_above a n ≡ c → false ≡ c
    by true q = h.1 ((at_or_above_test a n).0 q)
    by false q = refl

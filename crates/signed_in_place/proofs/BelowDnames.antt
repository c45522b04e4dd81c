-- The DNAMEs above a name, as a walk up to the root sees them
use Rattle.std.proofs.Common.{◌≡◌, ◌≢◌, [], ◌∷◌, Bool, true, false, ◌||◌, drop, refl, ap, ◌∙◌}
use Rattle.std.specs.Prelude.{◌↔◌, IsTrue}
use Rattle.std.specs.Cmp.{both_ways}
use Rattle.std.specs.List.{list_any}
use Rattle.zone_proto.specs.Names.{Name, is_at_or_above, proper_ancestors, suffixes, IsAtOrAbove}
use Rattle.zone_proto.proofs.Names.NameTree.{at_or_above_test}
use Rattle.zone_map.specs.Zones.{Sets}
use Rattle.signed_in_place.specs.InPlace.{is_below_dname, owns_dname}

-- the test whether a name is at or above another
pub at_or_above_by : (a n : Name) (b : Bool) → IsTrue b ↔ IsAtOrAbove a n → b ≡ is_at_or_above a n
at_or_above_by a n b h = both_ways b (is_at_or_above a n) (λ t. (at_or_above_test a n).1 (h.0 t)) (λ t. h.1 ((at_or_above_test a n).0 t))

itself_first : (n : Name) → suffixes n ≡ n ∷ proper_ancestors n
itself_first [] = refl
itself_first (l ∷ ls) = refl

next : (p : Name → Bool) (n rest : Name) → n ≢ [] → rest ≡ drop 1 n → list_any p (proper_ancestors n) ≡ (p rest || list_any p (proper_ancestors rest))
next p [] rest some e = absurd (some refl)
next p (l ∷ ls) rest some e = let is : rest ≡ ls = e in rw (is, itself_first ls) refl

module _ (origin : Name) (m : Sets) (n rest : Name) (some : n ≢ []) (e : rest ≡ drop 1 n) where
  pub next_dname : owns_dname origin m rest ≡ false → is_below_dname origin m n ≡ is_below_dname origin m rest
  next_dname h = next (owns_dname origin m) n rest some e ∙ ap (λ (b : Bool). b || list_any (owns_dname origin m) (proper_ancestors rest)) h

  pub at_dname : owns_dname origin m rest ≡ true → is_below_dname origin m n ≡ true
  at_dname h = next (owns_dname origin m) n rest some e ∙ ap (λ (b : Bool). b || list_any (owns_dname origin m) (proper_ancestors rest)) h

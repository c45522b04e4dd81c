-- The nearest delegation above a name, as a walk up its suffixes finds it
use Rattle.std.proofs.Common.{◌≡◌, ◌++◌, subst, ◌≤◌, ◌<◌, Bool, true, false, cond, not, ◌&&◌, List, [], ◌∷◌, length, refl, sym, ap, ◌∙◌, arith, inl, inr}
use Rattle.std.specs.Prelude.{Option, Some, None, find}
use Rattle.std.proofs.lemmas.List.{length-append}
use Rattle.zone_proto.specs.Names.{Label, Name, name_eq, suffixes, IsAtOrAbove}
use Rattle.zone_proto.proofs.Members.{In}
use Rattle.zone_proto.proofs.Names.NameTree.{name_eq-Decides}

-- ---- tests that agree on a list find the same

pub find_same : (p q : Name → Bool) (xs : List Name) → ((x : Name) → In x xs → p x ≡ q x) → find p xs ≡ find q xs
find_same p q [] h = refl
find_same p q (x ∷ xs) h =
    ap (λ b. cond b (Some x) (find p xs)) (h x (inl refl)) ∙ ap (cond (q x) (Some x)) (find_same p q xs (λ y i. h y (inr i)))

pub suffix_length : (n a : Name) → In a (suffixes n) → length a ≤ length n
suffix_length [] a (inl e) = omega (arith, ap length e)
suffix_length [] a (inr i) = absurd i
suffix_length (l ∷ n) a (inl e) = omega (arith, ap length e)
suffix_length (l ∷ n) a (inr i) = omega (arith, suffix_length n a i)

pub shorter_differs : (a n : Name) → length a < length n → name_eq a n ≡ false
shorter_differs a n h = by (name_eq a n) refl
  where
    by : (b : Bool) → name_eq a n ≡ b → b ≡ false
    by true e = absurd (omega (arith, ap length ((name_eq-Decides a n).0 e)))
    by false e = refl

-- ---- where the name passes itself over, its ancestors count

pub and_true : (b c : Bool) → c ≡ true → b && c ≡ b
and_true true c h = h
and_true false c h = refl

pub others_count : (d e o : Bool) → e ≡ false → not (d && e && not o) ≡ true
others_count true true o h = cc
others_count true false o h = refl
others_count false e o h = refl

-- ---- the nearest is the longest

tail_of : (a f ls : Name) (l k : Label) → l ∷ ls ≡ (k ∷ f) ++ a → ls ≡ f ++ a
tail_of a f ls l k e = cc

never_longer : (n b : Name) → IsAtOrAbove b n → length n < length b → ⊥
never_longer n b w h = omega (arith, h, ap length w.1 ∙ length-append w.0 b)

module _ (p : Name → Bool) where
  pub found_above : (n a : Name) → find p (suffixes n) ≡ Some a → IsAtOrAbove a n × (p a ≡ true)
  found_above [] a e = by (p []) refl e
    where
      by : (b : Bool) → p [] ≡ b → cond b (Some []) None ≡ Some a → IsAtOrAbove a [] × (p a ≡ true)
      by true g h = let same : [] ≡ a = cc in (([], same), ap p (sym same) ∙ g)
      by false g h = absurd cc
  found_above (l ∷ ls) a e = by (p (l ∷ ls)) refl e (found_above ls a)
    where
      by : (b : Bool) → p (l ∷ ls) ≡ b → cond b (Some (l ∷ ls)) (find p (suffixes ls)) ≡ Some a → (find p (suffixes ls) ≡ Some a → IsAtOrAbove a ls × (p a ≡ true)) → IsAtOrAbove a (l ∷ ls) × (p a ≡ true)
      by true g h more = let same : l ∷ ls ≡ a = cc in (([], same), ap p (sym same) ∙ g)
      by false g h more = let r = more h in ((l ∷ r.0.0, ap (λ s. l ∷ s) r.0.1), r.1)

  -- where the first suffix doesn't pass, a longer one that does is below it
  none_longer : (l : Label) (ls b : Name) → p (l ∷ ls) ≡ false → IsAtOrAbove b (l ∷ ls) → (IsAtOrAbove b ls → p b ≡ false) → p b ≡ false
  none_longer l ls b g w more = by w.0 w.1
    where
      by : (f : Name) → l ∷ ls ≡ f ++ b → p b ≡ false
      by [] e = ap p (sym e) ∙ g
      by (k ∷ f) e = more (f, tail_of b f ls l k e)

  pub found_longest : (n a : Name) → find p (suffixes n) ≡ Some a → (b : Name) → IsAtOrAbove b n → length a < length b → p b ≡ false
  found_longest [] a e b w h = absurd (never_longer [] b w (omega (arith, h)))
  found_longest (l ∷ ls) a e b w h = by (p (l ∷ ls)) refl e (λ g v. found_longest ls a g b v h)
    where
      by : (c : Bool) → p (l ∷ ls) ≡ c → cond c (Some (l ∷ ls)) (find p (suffixes ls)) ≡ Some a → (find p (suffixes ls) ≡ Some a → IsAtOrAbove b ls → p b ≡ false) → p b ≡ false
      by true g i more = let same : l ∷ ls ≡ a = cc in absurd (never_longer (l ∷ ls) b w (subst (λ (x : Name). length x < length b) (sym same) h))
      by false g i more = none_longer l ls b g w (more i)

  pub none_found : (n : Name) → find p (suffixes n) ≡ None → (b : Name) → IsAtOrAbove b n → p b ≡ false
  none_found [] e b w = by (p []) refl e w.0 w.1
    where
      by : (c : Bool) → p [] ≡ c → ◌≡◌ {A = Option Name} (cond c (Some []) None) None → (f : Name) → ◌≡◌ {A = Name} [] (f ++ b) → p b ≡ false
      by true g i f v = absurd cc
      by false g i [] v = ap p (sym v) ∙ g
      by false g i (k ∷ f) v = absurd cc
  none_found (l ∷ ls) e b w = by (p (l ∷ ls)) refl e (λ g v. none_found ls g b v)
    where
      by : (c : Bool) → p (l ∷ ls) ≡ c → cond c (Some (l ∷ ls)) (find p (suffixes ls)) ≡ None → (find p (suffixes ls) ≡ None → IsAtOrAbove b ls → p b ≡ false) → p b ≡ false
      by true g i more = absurd cc
      by false g i more = none_longer l ls b g w (more i)

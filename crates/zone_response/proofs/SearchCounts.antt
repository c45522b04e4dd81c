-- How many searches of the zone's map the walks up a name make
use Rattle.std.proofs.Common.{◌≡◌, ℕ, suc, ◌+◌, ◌<◌, ◌≤◌, Bool, true, false, not, cond, List, [], ◌∷◌, ◌++◌, length, drop, refl, sym, ap, subst, arith}
use Rattle.std.specs.Prelude.{filter, ◌&&◌}
use Rattle.std.proofs.lemmas.Bool.{and_from}
use Rattle.zone_proto.specs.Names.{Label, Name, is_above, is_at_or_above, IsAbove, suffixes, proper_ancestors}
use Rattle.zone_proto.proofs.Names.NameTree.{above_test, is_at_or_above_sound}
use Rattle.zone_map.specs.Counts.{one_more}
use Rattle.zone_map.specs.Wildcards.{exists}
use Rattle.zone_map.specs.Zones.{Sets, owns_at_or_below}
use Rattle.zone_response.specs.Searches.{names_between, most_for_wildcard}
use Rattle.zone_response.proofs.NextKeys.{above_from_shorter}

pub at_most_one : (n : ℕ) → one_more n ≤ n + 1
at_most_one n = omega arith

-- ---- of the ancestors of a name, those that pass a test

module _ (p : Name → Bool) where
  abbrev passing : Name → ℕ
  passing x = length (filter p (proper_ancestors x))

  or_fewer : (x : Name) (xs : List Name) → length (filter p xs) ≤ length (filter p (x ∷ xs))
  or_fewer x xs = by (p x)
    where
      by : (b : Bool) → length (filter p xs) ≤ length (cond b (x ∷ filter p xs) (filter p xs))
      by true = omega arith
      by false = omega arith

  itself : (a : Name) → length (filter p (suffixes a)) ≡ length (cond (p a) (a ∷ filter p (proper_ancestors a)) (filter p (proper_ancestors a)))
  itself [] = refl
  itself (l ∷ a) = refl

  at_or_below : (front a : Name) → p a ≡ true → suc (passing a) ≤ length (filter p (suffixes (front ++ a)))
  at_or_below [] a h = omega (arith, itself a, ap (λ b. length (cond b (a ∷ filter p (proper_ancestors a)) (filter p (proper_ancestors a)))) h)
  at_or_below (l ∷ front) a h = omega (arith, at_or_below front a h, or_fewer (l ∷ (front ++ a)) (suffixes (front ++ a)))

  -- an ancestor that passes has fewer such ancestors than the name
  fewer_above : (a x : Name) → IsAbove a x → p a ≡ true → suc (passing a) ≤ passing x
  fewer_above a x (l, front, e) h = subst (λ n. suc (passing a) ≤ passing n) (sym e) (at_or_below front a h)

  of_parent : (l : Label) (a : Name) → passing a ≤ passing (l ∷ a)
  of_parent l a = omega (arith, itself a, or_fewer a (proper_ancestors a))

-- ---- the way to a name

pub fewer_between : (origin : Name) (m : Sets) (a x : Name) → IsAbove a x → is_at_or_above origin a ≡ true → length origin < length a → owns_at_or_below m a ≡ true
    → suc (length (names_between origin m a)) ≤ length (names_between origin m x)
fewer_between origin m a x above inside longer there =
    fewer_above (λ a. is_above origin a && owns_at_or_below m a) a x above
    (and_from (is_above origin a) (owns_at_or_below m a) ((above_test origin a).1 (above_from_shorter origin a (is_at_or_above_sound origin a inside) longer)) there)

-- ---- the way up to the closest encloser

module _ (m : Sets) where
  -- the searches that are left where the walk has come to a name
  abbrev pub left_searches : Name → ℕ
  left_searches [] = 1
  left_searches (l ∷ a) = cond (exists m (l ∷ a)) 1 (most_for_wildcard m (l ∷ a))

  pub some_left : (a : Name) → 1 ≤ left_searches a
  some_left [] = omega arith
  some_left (l ∷ a) = by (exists m (l ∷ a))
    where
      by : (b : Bool) → 1 ≤ cond b 1 (most_for_wildcard m (l ∷ a))
      by true = omega arith
      by false = omega arith

  pub left_of_absent : (a : Name) → (a ≡ [] → ⊥) → exists m a ≡ false → left_searches a ≡ most_for_wildcard m a
  left_of_absent [] below absent = absurd (below refl)
  left_of_absent (l ∷ a) below absent = ap (λ b. cond b 1 (most_for_wildcard m (l ∷ a))) absent

  left_of_parent : (l : Label) (a : Name) → left_searches a ≤ most_for_wildcard m (l ∷ a)
  left_of_parent l [] = omega arith
  left_of_parent l (k ∷ a) = by (exists m (k ∷ a))
    where
      by : (b : Bool) → cond b 1 (most_for_wildcard m (k ∷ a)) ≤ most_for_wildcard m (l ∷ (k ∷ a))
      by true = omega arith
      by false = omega (arith, of_parent (λ a. owns_at_or_below m a && not (exists m a)) l (k ∷ a))

  pub left_at_first : (n a : Name) → (n ≡ [] → ⊥) → a ≡ drop 1 n → left_searches a ≤ most_for_wildcard m n
  left_at_first [] a below e = absurd (below refl)
  left_at_first (l ∷ n) a below e = omega (arith, ap left_searches e, left_of_parent l n)

  pub left_above : (a b : Name) → (a ≡ [] → ⊥) → exists m a ≡ false → IsAbove b a → (0 < length b → owns_at_or_below m b ≡ true) → left_searches b + 3 ≤ left_searches a
  left_above a [] below absent above there = omega (arith, left_of_absent a below absent)
  left_above a (l ∷ b) below absent above there = by (exists m (l ∷ b)) refl
    where
      by : (c : Bool) → exists m (l ∷ b) ≡ c → cond c 1 (most_for_wildcard m (l ∷ b)) + 3 ≤ left_searches a
      by true e = omega (arith, left_of_absent a below absent)
      by false e =
          omega (
            arith,
            left_of_absent a below absent,
            fewer_above (λ a. owns_at_or_below m a && not (exists m a)) (l ∷ b) a above (and_from (owns_at_or_below m (l ∷ b)) (not (exists m (l ∷ b))) (there (omega arith)) (ap not e)),
          )

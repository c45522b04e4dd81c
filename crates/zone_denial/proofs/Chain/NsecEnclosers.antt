-- The closest encloser that a denial by NSEC has for a name of the zone, as a walk up the name finds it
use Rattle.std.proofs.Common.{◌≡◌, ◌||◌, ◌&&◌, Bool, true, false, cond, [], ◌∷◌, length, drop, refl, sym, ap, ◌∙◌, true≢false, ◌⊎◌, inl, inr, arith}
use Rattle.std.specs.Prelude.{Option, Some, None, find, unwrap_or}
use Rattle.std.specs.Ordering.{is_eq}
use Rattle.std.proofs.lemmas.List.{length-append}
use Rattle.zone_proto.specs.Names.{Name, name_cmp, name_eq, base_name, wildcard_of, is_above, is_at_or_above, suffixes, IsAbove, IsAtOrAbove, wildcard_under}
use Rattle.zone_proto.proofs.Members.{and_left}
use Rattle.zone_proto.proofs.Names.NameTree.{name_eq-Decides, above_test, above_is_less, name_itself, is_at_or_above_sound, is_at_or_above_complete}
use Rattle.zone_proto.proofs.Ordering.Orders.{irrefl}
use Rattle.zone_proto.proofs.Names.Tree.{name_order, name_eq_itself, above_cases}
use Rattle.zone_map.specs.Zones.{Sets}
use Rattle.zone_map.proofs.Delegations.{found_above}
use Rattle.zone_denial.specs.NsecDenial.{owns_nsec_at_or_below, nsec_encloser, proved_beside}

pub base_is_drop : (n : Name) → drop 1 n ≡ base_name n
base_is_drop [] = refl
base_is_drop (l ∷ ls) = refl

-- of a name and its ancestors the name itself is found where it passes
first_passes : (p : Name → Bool) (n : Name) → p n ≡ true → find p (suffixes n) ≡ Some n
first_passes p [] h = ap (λ b. cond b (Some []) None) h
first_passes p (l ∷ ls) h = ap (λ b. cond b (Some (l ∷ ls)) (find p (suffixes ls))) h

differs : (a n : Name) → (a ≡ n → ⊥) → name_eq a n ≡ false
differs a n h = by (name_eq a n) refl
  where
    by : (b : Bool) → name_eq a n ≡ b → b ≡ false
    by true e = absurd (h ((name_eq-Decides a n).0 e))
    by false e = refl

either : (a b : Bool) → a || b ≡ true → (a ≡ true) ⊎ (b ≡ true)
either true b h = inl refl
either false b h = inr h

-- names at or above each other are the same
same_name : (a n : Name) → IsAtOrAbove a n → IsAtOrAbove n a → a ≡ n
same_name a n ([], e) w = sym e
same_name a n (l ∷ f, e) (g, q) = absurd (omega (arith, ap length e, length-append (l ∷ f) a, ap length q, length-append g n))

-- a name of the zone that isn't the origin is below it
pub below_other : (origin x : Name) → is_eq (name_cmp x origin) ≡ false → IsAtOrAbove origin x → IsAbove origin x
below_other origin x h w = by (above_cases origin x w)
  where
    by : (origin ≡ x) ⊎ IsAbove origin x → IsAbove origin x
    by (inl e) = absurd (true≢false (sym (ap is_eq (name_itself x)) ∙ ap (λ o. is_eq (name_cmp x o)) (sym e) ∙ h))
    by (inr v) = v

module _ (origin : Name) (m : Sets) where
  -- a name of the zone that owns NSEC or has such a name below it
  abbrev encloses : Name → Bool
  encloses a = is_at_or_above origin a && owns_nsec_at_or_below m a

  -- ---- the walk

  -- nothing above the origin encloses
  at_origin : unwrap_or (find encloses (suffixes origin)) origin ≡ origin
  at_origin = by (find encloses (suffixes origin)) refl
    where
      by : (f : Option Name) → find encloses (suffixes origin) ≡ f → unwrap_or f origin ≡ origin
      by None e = refl
      by (Some a) e =
          let r = found_above encloses origin a e in
          same_name a origin r.0 (is_at_or_above_sound origin a (and_left (is_at_or_above origin a) (owns_nsec_at_or_below m a) r.1))

  module _ (n above : Name) (is : above ≡ drop 1 n) (below : IsAbove origin n) where
    in_zone : IsAtOrAbove origin above
    in_zone = (below.1, is ∙ ap (drop 1) below.2)

    parents : nsec_encloser origin m n ≡ unwrap_or (find encloses (suffixes above)) origin
    parents = by n is below
      where
        by : (n : Name) → above ≡ drop 1 n → IsAbove origin n → nsec_encloser origin m n ≡ unwrap_or (find encloses (suffixes above)) origin
        by [] e (l, f, q) = absurd cc
        by (k ∷ ks) e w = ap (λ a. unwrap_or (find encloses (suffixes a)) origin) (sym e)

    -- it ends at the parent that is the origin, or owns NSEC or has such a name below it
    ends_at : name_eq above origin || owns_nsec_at_or_below m above ≡ true → nsec_encloser origin m n ≡ above
    ends_at h = parents ∙ by (either (name_eq above origin) (owns_nsec_at_or_below m above) h)
      where
        by : (name_eq above origin ≡ true) ⊎ (owns_nsec_at_or_below m above ≡ true) → unwrap_or (find encloses (suffixes above)) origin ≡ above
        by (inl e) = let same = (name_eq-Decides above origin).0 e in ap (λ a. unwrap_or (find encloses (suffixes a)) origin) same ∙ at_origin ∙ sym same
        by (inr e) =
            ap (λ f. unwrap_or f origin)
            (first_passes encloses above (λ i. is_at_or_above_complete origin above in_zone i && e i))

    pub wildcard_found : name_eq above origin || owns_nsec_at_or_below m above ≡ true → wildcard_of n ≡ wildcard_under (nsec_encloser origin m n)
    wildcard_found h = by n is below ∙ ap wildcard_under (sym (ends_at h))
      where
        by : (n : Name) → above ≡ drop 1 n → IsAbove origin n → wildcard_of n ≡ wildcard_under above
        by [] e (l, f, q) = absurd cc
        by (k ∷ ks) e w = ap wildcard_under (sym e)

    -- and goes on from any other
    pub goes_below : name_eq above origin || owns_nsec_at_or_below m above ≡ false → IsAbove origin above
    goes_below h = by (above_cases origin above in_zone)
      where
        by : (origin ≡ above) ⊎ IsAbove origin above → IsAbove origin above
        by (inl e) = absurd (true≢false (sym (ap (λ b. b || owns_nsec_at_or_below m above) ((name_eq-Decides above origin).1 (sym e))) ∙ h))
        by (inr w) = w

    pub goes_on : name_eq above origin || owns_nsec_at_or_below m above ≡ false → nsec_encloser origin m n ≡ nsec_encloser origin m above
    goes_on h = parents ∙ by above (goes_below h) (and_false (is_at_or_above origin above) (owns_nsec_at_or_below m above) (or_false (name_eq above origin) (owns_nsec_at_or_below m above) h))
      where
        or_false : (a b : Bool) → a || b ≡ false → b ≡ false
        or_false true b e = cc
        or_false false b e = e

        and_false : (a b : Bool) → b ≡ false → a && b ≡ false
        and_false true b e = e
        and_false false b e = refl

        by : (a : Name) → IsAbove origin a → encloses a ≡ false → unwrap_or (find encloses (suffixes a)) origin ≡ nsec_encloser origin m a
        by [] (l, f, q) e = absurd cc
        by (k ∷ ks) w e = ap (λ b. unwrap_or (cond b (Some (k ∷ ks)) (find encloses (suffixes ks))) origin) e

  -- ---- what is proved beside a name

  not_above_itself : is_above origin origin ≡ false
  not_above_itself = by (is_above origin origin) refl
    where
      by : (b : Bool) → is_above origin origin ≡ b → b ≡ false
      by true e = absurd (irrefl name_order origin (above_is_less origin origin ((above_test origin origin).0 e)))
      by false e = refl

  pub beside_origin : proved_beside origin m origin ≡ None
  beside_origin =
      ap (λ b. cond b (Some (wildcard_under (nsec_encloser origin m origin))) (cond (name_eq origin origin) None (Some origin))) not_above_itself
      ∙ ap (λ b. cond b None (Some origin)) (name_eq_itself origin)

  pub beside_below : (x : Name) → IsAbove origin x → proved_beside origin m x ≡ Some (wildcard_under (nsec_encloser origin m x))
  beside_below x w = ap (λ b. cond b (Some (wildcard_under (nsec_encloser origin m x))) (cond (name_eq x origin) None (Some origin))) ((above_test origin x).1 w)

  pub beside_outside : (x : Name) → (IsAtOrAbove origin x → ⊥) → proved_beside origin m x ≡ Some origin
  beside_outside x out =
      ap (λ b. cond b (Some (wildcard_under (nsec_encloser origin m x))) (cond (name_eq x origin) None (Some origin))) (by (is_above origin x) refl)
      ∙ ap (λ b. cond b None (Some origin)) (differs x origin (λ e. out ([], e)))
    where
      by : (b : Bool) → is_above origin x ≡ b → b ≡ false
      by true e = let w = (above_test origin x).0 e in absurd (out (w.0 ∷ w.1, w.2))
      by false e = refl

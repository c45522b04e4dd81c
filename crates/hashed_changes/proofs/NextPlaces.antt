-- The place that comes next after an owner
use Rattle.std.proofs.Common.{◌≡◌, ℕ, ◌<◌, ◌≤◌, Bool, true, false, ◌&&◌, ◌||◌, List, [], ◌∷◌, ◌++◌, length, get_or, slice_get, refl, sym, ap, ◌∙◌, subst, true≢false, ◌⊎◌, inl, inr, arith, Less, is_lt}
use Rattle.std.specs.Prelude.{Option, Some, None}
use Rattle.std.specs.List.{Contains}
use Rattle.std.specs.List.Sorted.{IsPartitionPoint}
use Rattle.std.proofs.lemmas.Bool.{cases_lt}
use Rattle.std.proofs.lemmas.List.{get_or_default}
use Rattle.zone_proto.specs.Names.{Name, name_cmp}
use Rattle.zone_proto.specs.Order.{is_before, is_upto}
use Rattle.zone_proto.proofs.Members.{In, In-Contains, Contains-In, In-append_left, In-append_right, In-from_append, and_left, and_right, or_left, or_right}
use Rattle.zone_proto.proofs.Names.Tree.{name_order}
use Rattle.zone_proto.proofs.Ordering.Orders.{less_test, irrefl}
use Rattle.zone_denial.specs.Covering.{covers}
use Rattle.hashed_changes.specs.declared.places.Place.{Place}
use Rattle.hashed_changes.specs.Places.{comes_before, ArePlacesInOrder, IsNextPlace}
use Rattle.hashed_changes.proofs.Circle.{Between, inside, above, below, not_both, through}
use Rattle.hashed_changes.proofs.Halving.{in_front, is_behind, not_less}
use Rattle.hashed_changes.proofs.InOrder.{place_owner}

-- ---- the test whether a name is between others

either : (a b : Bool) → a || b ≡ true → (a ≡ true) ⊎ (b ≡ true)
either true b e = inl refl
either false b e = inr e

pub covers_from : (d x y : Name) → Between name_order d x y → covers name_cmp d x y ≡ true
covers_from d x y (inside l k) = or_left (is_before name_cmp d y && is_before name_cmp y x) (is_upto name_cmp x d && (is_before name_cmp d y || is_before name_cmp y x)) (λ i. is_lt (l i) && is_lt (k i))
covers_from d x y (above u l) = or_right (is_before name_cmp d y && is_before name_cmp y x) (is_upto name_cmp x d && (is_before name_cmp d y || is_before name_cmp y x)) (λ i. u i && or_left (is_before name_cmp d y) (is_before name_cmp y x) (ap is_lt l) i)
covers_from d x y (below u k) = or_right (is_before name_cmp d y && is_before name_cmp y x) (is_upto name_cmp x d && (is_before name_cmp d y || is_before name_cmp y x)) (λ i. u i && or_right (is_before name_cmp d y) (is_before name_cmp y x) (ap is_lt k) i)

pub from_covers : (d x y : Name) → covers name_cmp d x y ≡ true → Between name_order d x y
from_covers d x y e = by (either (is_before name_cmp d y && is_before name_cmp y x) (is_upto name_cmp x d && (is_before name_cmp d y || is_before name_cmp y x)) e)
  where
    of : is_upto name_cmp x d ≡ true → (is_before name_cmp d y ≡ true) ⊎ (is_before name_cmp y x ≡ true) → Between name_order d x y
    of u (inl l) = above u (less_test (name_cmp d y) l)
    of u (inr k) = below u (less_test (name_cmp y x) k)

    by : (is_before name_cmp d y && is_before name_cmp y x ≡ true) ⊎ (is_upto name_cmp x d && (is_before name_cmp d y || is_before name_cmp y x) ≡ true) → Between name_order d x y
    by (inl h) = inside (less_test (name_cmp d y) (and_left (is_before name_cmp d y) (is_before name_cmp y x) h)) (less_test (name_cmp y x) (and_right (is_before name_cmp d y) (is_before name_cmp y x) h))
    by (inr h) =
        of (and_left (is_upto name_cmp x d) (is_before name_cmp d y || is_before name_cmp y x) h)
        (either (is_before name_cmp d y) (is_before name_cmp y x) (and_right (is_upto name_cmp x d) (is_before name_cmp d y || is_before name_cmp y x) h))

pub uncovered : (d x y : Name) → (Between name_order d x y → ⊥) → covers name_cmp d x y ≡ false
uncovered d x y none = by (covers name_cmp d x y) refl
  where
    by : (b : Bool) → covers name_cmp d x y ≡ b → b ≡ false
    by true e = absurd (none (from_covers d x y e))
    by false e = refl

-- ---- one more place

module _ (o : Name) where
  -- it isn't taken
  pub goes_past : (places : List Place) (p : Place) (next : Option Place) → comes_before o p next ≡ false → IsNextPlace o places next → IsNextPlace o (places ++ p ∷ []) next
  goes_past places p None e h = absurd (true≢false e)
  goes_past places p (Some z) e h = (
    In-Contains z (places ++ p ∷ []) (In-append_left z places (p ∷ []) (Contains-In z places h.0)),
    λ w c. by w (In-from_append w places (p ∷ []) (Contains-In w (places ++ p ∷ []) c)),
  )
    where
      by : (w : Place) → In w places ⊎ In w (p ∷ []) → covers name_cmp o z.owner w.owner ≡ false
      by w (inl i) = h.1 w (In-Contains w places i)
      by w (inr (inl q)) = ap (λ (x : Place). covers name_cmp o z.owner x.owner) (sym q) ∙ e
      by w (inr (inr i)) = absurd i

  -- it is
  pub goes_to : (places : List Place) (p : Place) (next : Option Place) → comes_before o p next ≡ true → IsNextPlace o places next → IsNextPlace o (places ++ p ∷ []) (Some p)
  goes_to places p next e h = (
    In-Contains p (places ++ p ∷ []) (In-append_right p places (p ∷ []) (inl refl)),
    λ w c. uncovered o p.owner w.owner (λ b. by w next e h b (In-from_append w places (p ∷ []) (Contains-In w (places ++ p ∷ []) c))),
  )
    where
      itself : Between name_order o p.owner p.owner → ⊥
      itself (inside l k) = irrefl name_order p.owner k
      itself (above u l) = not_both name_order p.owner o u l
      itself (below u k) = irrefl name_order p.owner k

      by : (w : Place) (next : Option Place) → comes_before o p next ≡ true → IsNextPlace o places next → Between name_order o p.owner w.owner → In w places ⊎ In w (p ∷ []) → ⊥
      by w None e h b (inl i) = subst (λ (ps : List Place). In w ps) h i
      by w (Some z) e h b (inl i) = true≢false (sym (covers_from o z.owner w.owner (through name_order o z.owner p.owner w.owner (from_covers o z.owner p.owner e) b)) ∙ h.1 w (In-Contains w places i))
      by w next e h b (inr (inl q)) = itself (subst (λ (x : Place). Between name_order o p.owner x.owner) (sym q) b)
      by w next e h b (inr (inr i)) = i

-- ---- one of some places in order comes next after o

module _ (o : Name) (places : List Place) (up : ArePlacesInOrder places) (i : ℕ) (parted : IsPartitionPoint (λ (p : Place). is_upto name_cmp p.owner o ≡ true) (λ (p : Place). is_upto name_cmp p.owner o ≡ false) places i) where
  -- the first of those after it
  pub comes_next : (z : Place) → i < length places → z ≡ get_or places i z → IsNextPlace o places (Some z)
  comes_next z l is = (there, λ w c. uncovered o z.owner w.owner (λ b. by w c b (cases_lt c.0 i)))
    where
      there : Contains places z
      there = (i, l, sym is)

      later : name_cmp o z.owner ≡ Less
      later = is_behind place_owner o places up i parted z there (omega arith)

      by : (w : Place) (c : Contains places w) → Between name_order o z.owner w.owner → (c.0 < i) ⊎ (i ≤ c.0) → ⊥
      by w c (inside h k) (inl low) = not_both name_order w.owner o (in_front place_owner o places up i parted w c low) h
      by w c (inside h k) (inr high) = not_less place_owner o places up i z w c high (get_or_default places i w z l ∙ sym is) k
      by w c (above u h) s = not_both name_order z.owner o u later
      by w c (below u k) s = not_both name_order z.owner o u later

  none_later : length places ≤ i → (w : Place) (c : Contains places w) → name_cmp o w.owner ≡ Less → ⊥
  none_later all w c h = not_both name_order w.owner o (in_front place_owner o places up i parted w c (omega (arith, c.1))) h

-- or where none is after it, the first of all
pub comes_first_of_all : (o : Name) (places : List Place) → ArePlacesInOrder places → (i : ℕ) → IsPartitionPoint (λ (p : Place). is_upto name_cmp p.owner o ≡ true) (λ (p : Place). is_upto name_cmp p.owner o ≡ false) places i
    → length places ≤ i → (next : Option Place) → next ≡ slice_get places 0 → IsNextPlace o places next
comes_first_of_all o [] up i parted all next e = subst (IsNextPlace o []) (sym e) refl
comes_first_of_all o (z ∷ zs) up i parted all next e = subst (IsNextPlace o (z ∷ zs)) (sym e) ((0, omega arith, refl), λ w c. uncovered o z.owner w.owner (λ b. by w c b))
  where
    by : (w : Place) (c : Contains (z ∷ zs) w) → Between name_order o z.owner w.owner → ⊥
    by w c (inside h k) = none_later o (z ∷ zs) up i parted all w c h
    by w c (above u h) = none_later o (z ∷ zs) up i parted all w c h
    by w c (below u k) = not_less place_owner o (z ∷ zs) up 0 z w c (omega arith) refl k

-- ---- one more in front

module _ (o : Name) (p : Place) (others : List Place) where
  moved : (z : Place) → IsNextPlace o (others ++ p ∷ []) (Some z) → IsNextPlace o (p ∷ others) (Some z)
  moved z h = (
    In-Contains z (p ∷ others) (to_front z (In-from_append z others (p ∷ []) (Contains-In z (others ++ p ∷ []) h.0))),
    λ w c. h.1 w (In-Contains w (others ++ p ∷ []) (to_end w (Contains-In w (p ∷ others) c))),
  )
    where
      to_front : (w : Place) → In w others ⊎ In w (p ∷ []) → In w (p ∷ others)
      to_front w (inl i) = inr i
      to_front w (inr (inl e)) = inl e
      to_front w (inr (inr i)) = absurd i

      to_end : (w : Place) → In w (p ∷ others) → In w (others ++ p ∷ [])
      to_end w (inl e) = In-append_right w others (p ∷ []) (inl e)
      to_end w (inr i) = In-append_left w others (p ∷ []) i

  pub comes_first : (next : Option Place) (b : Bool) → b ≡ comes_before o p next → b ≡ true → IsNextPlace o others next → IsNextPlace o (p ∷ others) (Some p)
  comes_first next b is e h = moved p (goes_to o others p next (sym is ∙ e) h)

  pub comes_later : (next : Option Place) (b : Bool) → b ≡ comes_before o p next → b ≡ false → IsNextPlace o others next → IsNextPlace o (p ∷ others) next
  comes_later None b is e h = absurd (true≢false (sym is ∙ e))
  comes_later (Some z) b is e h = moved z (goes_past o others p (Some z) (sym is ∙ e) h)

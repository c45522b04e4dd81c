-- Lists in the order of a name that each element has: they stay so, and what is found by halving them
use Rattle.std.proofs.Common.{◌≡◌, ℕ, zero, suc, ◌+◌, ◌<◌, ◌≤◌, Bool, true, false, List, [], ◌∷◌, length, get_or, map, sym, ap, ◌∙◌, subst, true≢false, ◌⊎◌, inl, inr, ⊎_elim, arith, Less, Equal, Greater, is_eq, is_lt, HoldsAt, IsSortedBy}
use Rattle.std.specs.Cmp.{IsStrictWeakOrder}
use Rattle.std.specs.List.{Contains}
use Rattle.std.specs.List.Sorted.{IsPartitionPoint, IsPartitionedBy}
use Rattle.std.proofs.lemmas.Bool.{cases_lt}
use Rattle.std.proofs.lemmas.List.{get_or_default}
use Rattle.std.proofs.lemmas.List.Sorted.{ranks_by, sorted_far}
use Rattle.zone_proto.specs.Names.{Name, name_cmp}
use Rattle.zone_proto.specs.Order.{is_upto}
use Rattle.zone_proto.proofs.Members.{In, In-Contains, Contains-In, In-map, In-from_map}
use Rattle.zone_proto.proofs.Names.NameTree.{name_itself}
use Rattle.zone_proto.proofs.Names.Tree.{name_order}
use Rattle.zone_proto.proofs.Ordering.Orders.{Side, before, same, after, side, irrefl, upto_before, upto_same, upto_from_not_before, before_from_upto}

module _ {X : Type 0} (name : X → Name) where
  abbrev pub is_less : X → X → Bool
  is_less x y = is_lt (name_cmp (name x) (name y))

  pub ranks : IsStrictWeakOrder is_less
  ranks = ranks_by name_order.total name

  -- ---- the order, element by element

  -- each of these is not before x
  abbrev pub Above : X → List X → Type 0
  Above x [] = Unit {0}
  Above x (y ∷ ys) = (is_less y x ≡ false) × Above x ys

  abbrev pub Rise : List X → Type 0
  Rise [] = Unit {0}
  Rise (x ∷ xs) = Above x xs × Rise xs

  above_of : (x : X) (xs : List X) → ((k : ℕ) → k < length xs → is_less (get_or xs k x) x ≡ false) → Above x xs
  above_of x [] h = tt
  above_of x (y ∷ ys) h = (h 0 (omega arith), above_of x ys (λ k l. h (suc k) (omega arith)))

  pub rise_of : (xs : List X) → IsSortedBy is_less xs → Rise xs
  rise_of [] up = tt
  rise_of (x ∷ xs) up = (
    above_of x xs (λ k l. sorted_far is_less ranks (x ∷ xs) up 0 (suc k) x (omega arith) (omega arith)),
    rise_of xs (λ k d low within.
        let next : suc k + 1 ≡ suc (k + 1) = omega arith in
        subst (λ n. is_less (get_or (x ∷ xs) n d) (get_or xs k d) ≡ false) next (up (suc k) d (omega arith) (omega arith))),
  )

  pub sorted_of : (xs : List X) → Rise xs → IsSortedBy is_less xs
  sorted_of [] r k d low within = absurd (omega arith)
  sorted_of (x ∷ []) r k d low within = absurd (omega arith)
  sorted_of (x ∷ y ∷ ys) r zero d low within = r.0.0
  sorted_of (x ∷ y ∷ ys) r (suc k) d low within =
      let next : suc (k + 1) ≡ suc k + 1 = omega arith in
      subst (λ n. is_less (get_or (x ∷ y ∷ ys) n d) (get_or (y ∷ ys) k d) ≡ false) next (sorted_of (y ∷ ys) r.1 k d (omega arith) (omega arith))

  -- ---- a name is looked for

  pub found : (xs : List X) (n : Name) (i : ℕ) → i < length xs → HoldsAt (λ (x : X). name_cmp (name x) n ≡ Equal) xs i → In n (map name xs)
  found [] n i l h = absurd (omega arith)
  found (x ∷ xs) n i l h =
      let y = get_or (x ∷ xs) i x in
      let there : Contains (x ∷ xs) y = (i, l, get_or_default (x ∷ xs) i y x l) in
      subst (λ o. In o (map name (x ∷ xs))) (name_order.exact (name y) n (h x)) (In-map name y (x ∷ xs) (Contains-In y (x ∷ xs) there))

  itself_equal : (o n : Name) → o ≡ n → (name_cmp o n ≡ Less) ⊎ (name_cmp o n ≡ Greater) → ⊥
  itself_equal o n e (inl l) = irrefl name_order n (ap (λ x. name_cmp x n) (sym e) ∙ l)
  itself_equal o n e (inr g) = true≢false (ap is_eq (sym (name_itself n) ∙ ap (λ x. name_cmp x n) (sym e) ∙ g))

  pub found_nowhere : (xs : List X) (n : Name) (i : ℕ) → IsPartitionPoint (λ (x : X). name_cmp (name x) n ≡ Less) (λ (x : X). name_cmp (name x) n ≡ Greater) xs i → In n (map name xs) → ⊥
  found_nowhere xs n i parted j = by (In-from_map name n xs j)
    where
      by : (x : X) × In x xs × (name x ≡ n) → ⊥
      by (x, k, e) =
          let c : Contains xs x = In-Contains x xs k in
          let at = ap (λ (y : X). name_cmp (name y) n) (sym c.2) in
          itself_equal (name x) n e (⊎_elim (λ low. inl (at ∙ parted.0 c.0 x (omega arith) low)) (λ high. inr (at ∙ parted.1 c.0 x high c.1)) (cases_lt c.0 i))

  -- ---- where those after a name begin

  module _ (o : Name) (xs : List X) (up : IsSortedBy is_less xs) where
    abbrev pub is_in_front : X → Bool
    is_in_front x = is_upto name_cmp (name x) o

    pub parts : IsPartitionedBy is_in_front xs
    parts i j d le l e =
        upto_from_not_before name_order (name (get_or xs i d)) o
        (λ h. true≢false (sym (ap is_lt (before_from_upto name_order (name (get_or xs j d)) o (name (get_or xs i d)) e h)) ∙ sorted_far is_less ranks xs up i j d le l))

    module _ (i : ℕ) (parted : IsPartitionPoint (λ (x : X). is_in_front x ≡ true) (λ (x : X). is_in_front x ≡ false) xs i) where
      pub in_front : (w : X) (c : Contains xs w) → c.0 < i → is_in_front w ≡ true
      in_front w c low = ap is_in_front (sym c.2) ∙ parted.0 c.0 w (omega arith) low

      pub is_behind : (w : X) (c : Contains xs w) → i ≤ c.0 → name_cmp o (name w) ≡ Less
      is_behind w c high = by (side name_order o (name w))
        where
          off : is_in_front w ≡ false
          off = ap is_in_front (sym c.2) ∙ parted.1 c.0 w high c.1

          by : Side name_cmp o (name w) → name_cmp o (name w) ≡ Less
          by (before e) = e
          by (same e) = absurd (true≢false (sym (upto_same name_order (name w) o (sym e)) ∙ off))
          by (after e) = absurd (true≢false (sym (upto_before name_order (name w) o e) ∙ off))

    -- an element isn't before an earlier one
    pub not_less : (i : ℕ) (z w : X) (c : Contains xs w) → i ≤ c.0 → get_or xs i w ≡ z → name_cmp (name w) (name z) ≡ Less → ⊥
    not_less i z w c le e h =
        true≢false (sym (ap is_lt h) ∙ (λ j. is_less (sym c.2 j) (sym e j)) ∙ sorted_far is_less ranks xs up i c.0 w le c.1)

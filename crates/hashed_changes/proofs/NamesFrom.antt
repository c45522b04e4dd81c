-- The names at or below one stand together in a zone, from its least key on
use Rattle.std.proofs.Common.{◌≡◌, Bool, true, false, ◌||◌, cond, List, [], ◌∷◌, ◌++◌, refl, sym, ap, ◌∙◌, true≢false, append_assoc, Ordering, Less, Equal, Greater, is_le}
use Rattle.std.specs.Prelude.{filter, take_while}
use Rattle.std.specs.List.{list_any}
use Rattle.std.specs.List.Sorted.{IsStrictlySortedBy}
use Rattle.std.specs.Map.{keys_of}
use Rattle.std.proofs.lemmas.List.Sums.{take_while-cons}
use Rattle.std.proofs.lemmas.Map.Keys.{sorted_head, sorted_tail}
use Rattle.zone_proto.specs.declared.rr_key.RrKey.{RrKey}
use Rattle.zone_proto.specs.Keys.{key, first_key, key_cmp}
use Rattle.zone_proto.specs.Names.{Name, name_cmp, is_at_or_above}
use Rattle.zone_proto.specs.Sets.{RRset}
use Rattle.zone_map.specs.Zones.{Sets, names_of}
use Rattle.zone_map.proofs.Neighbours.{from_key, at_or_after, earlier, before_not_below, none_below}

-- ---- the names at or below one

-- the entries in front that are of a name or of names below it
abbrev pub front_below : Name → Sets → Sets
front_below n m = take_while (λ (e : RrKey × RRset). is_at_or_above n e.0.name) m

-- their names
abbrev pub names_below : Name → Sets → List Name
names_below n m = names_of (front_below n m)

pub below_goes_on : (n : Name) (e : RrKey × RRset) (m : Sets) → is_at_or_above n e.0.name ≡ true → names_below n (e ∷ m) ≡ e.0.name ∷ names_below n m
below_goes_on n e m h = ap names_of (
    take_while-cons (λ (d : RrKey × RRset). is_at_or_above n d.0.name) e m
    ∙ ap (λ b. cond b (e ∷ take_while (λ (d : RrKey × RRset). is_at_or_above n d.0.name) m) []) h)

pub below_ends : (n : Name) (e : RrKey × RRset) (m : Sets) → is_at_or_above n e.0.name ≡ false → names_below n (e ∷ m) ≡ []
below_ends n e m h = ap names_of (
    take_while-cons (λ (d : RrKey × RRset). is_at_or_above n d.0.name) e m
    ∙ ap (λ b. cond b (e ∷ take_while (λ (d : RrKey × RRset). is_at_or_above n d.0.name) m) []) h)

none_kept : {A : Type 0} (p : A → Bool) (xs : List A) → list_any p xs ≡ false → filter p xs ≡ []
none_kept p [] h = refl
none_kept p (x ∷ xs) h = by (p x) h (none_kept p xs)
  where
    by : (b : Bool) → b || list_any p xs ≡ false → (list_any p xs ≡ false → filter p xs ≡ []) → cond b (x ∷ filter p xs) (filter p xs) ≡ []
    by true h ih = absurd (true≢false h)
    by false h ih = ih h

-- from the least key of a name on they stand in front
below_front : (n : Name) (m : Sets) → IsStrictlySortedBy key_cmp (keys_of m) → names_below n (from_key (key n 0) m) ≡ filter (is_at_or_above n) (names_of m)
below_front n [] s = refl
below_front n (e ∷ m) s = by (name_cmp n e.0.name) refl (below_front n m (sorted_tail key_cmp e.0 (keys_of m) s))
  where
    here : is_le (name_cmp n e.0.name) ≡ true → names_below n (from_key (key n 0) m) ≡ filter (is_at_or_above n) (names_of m) → (b : Bool) → is_at_or_above n e.0.name ≡ b
        → names_below n (e ∷ from_key (key n 0) m) ≡ cond b (e.0.name ∷ filter (is_at_or_above n) (names_of m)) (filter (is_at_or_above n) (names_of m))
    here h ih true g = below_goes_on n e (from_key (key n 0) m) g ∙ ap (λ ns. e.0.name ∷ ns) ih
    here h ih false g =
        below_ends n e (from_key (key n 0) m) g
        ∙ sym (none_kept (is_at_or_above n) (names_of m) (none_below n e m h g (sorted_head key_cmp e.0 (keys_of m) s)))

    first : is_le (name_cmp n e.0.name) ≡ true → names_below n (from_key (key n 0) m) ≡ filter (is_at_or_above n) (names_of m) → names_below n (from_key (key n 0) (e ∷ m)) ≡ filter (is_at_or_above n) (names_of (e ∷ m))
    first h ih =
        ap (λ b. names_below n (cond b (e ∷ from_key (key n 0) m) (from_key (key n 0) m))) (at_or_after n e h)
        ∙ here h ih (is_at_or_above n e.0.name) refl

    by : (o : Ordering) → name_cmp n e.0.name ≡ o → names_below n (from_key (key n 0) m) ≡ filter (is_at_or_above n) (names_of m) → names_below n (from_key (key n 0) (e ∷ m)) ≡ filter (is_at_or_above n) (names_of (e ∷ m))
    by Less h ih = first (ap is_le h) ih
    by Equal h ih = first (ap is_le h) ih
    by Greater h ih =
        ap (λ b. names_below n (cond b (e ∷ from_key (key n 0) m) (from_key (key n 0) m))) (earlier n e h)
        ∙ ih
        ∙ sym (ap (λ b. cond b (e.0.name ∷ filter (is_at_or_above n) (names_of m)) (filter (is_at_or_above n) (names_of m))) (before_not_below n e h))

-- so in a range that begins at this key
pub below_read : (n : Name) (from_here : RrKey) (m es range : Sets) → from_here ≡ first_key n → es ≡ m → IsStrictlySortedBy key_cmp (keys_of m) → range ≡ from_key from_here es
    → names_below n range ≡ filter (is_at_or_above n) (names_of m)
below_read n from_here m es range is same sorted r = ap (names_below n) (r ∙ (λ i. from_key (is i) (same i))) ∙ below_front n m sorted

-- one more name, and the others
pub one_more_below : (n : Name) (so_far : List Name) (s left : Sets) (e : RrKey × RRset) (whole : List Name) → s ≡ e ∷ left → is_at_or_above n e.0.name ≡ true
    → so_far ++ names_below n s ≡ whole → (so_far ++ e.0.name ∷ []) ++ names_below n left ≡ whole
one_more_below n so_far s left e whole is same h =
    append_assoc so_far (e.0.name ∷ []) (names_below n left)
    ∙ ap (λ ns. so_far ++ ns) (sym (below_goes_on n e left same))
    ∙ ap (λ es. so_far ++ names_below n es) (sym is)
    ∙ h

-- ---- a loop over them that looks for one

module _ (p : Name → Bool) (n : Name) where
  abbrev pub any_below : Sets → Bool
  any_below m = list_any p (names_below n m)

  pub none_here : (s left : Sets) (e : RrKey × RRset) → s ≡ e ∷ left → is_at_or_above n e.0.name ≡ true → p e.0.name ≡ false → any_below left ≡ any_below s
  none_here s left e is at h =
      sym (ap any_below is ∙ ap (list_any p) (below_goes_on n e left at) ∙ ap (λ b. b || any_below left) h)

  pub found_here : (s left : Sets) (e : RrKey × RRset) → s ≡ e ∷ left → is_at_or_above n e.0.name ≡ true → p e.0.name ≡ true → any_below s ≡ true
  found_here s left e is at h = ap any_below is ∙ ap (list_any p) (below_goes_on n e left at) ∙ ap (λ b. b || any_below left) h

  pub none_left : (s left : Sets) (e : RrKey × RRset) → s ≡ e ∷ left → is_at_or_above n e.0.name ≡ false → any_below s ≡ false
  none_left s left e is off = ap any_below is ∙ ap (list_any p) (below_ends n e left off)

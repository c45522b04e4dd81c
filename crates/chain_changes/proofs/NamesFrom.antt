-- The names from one on: those at or below it, and the first that passes a test
use Rattle.std.proofs.Common.{◌≡◌, Bool, true, false, not, ◌&&◌, ◌||◌, cond, List, [], ◌∷◌, ◌++◌, refl, sym, ap, ◌∙◌, true≢false, ◌⊎◌, inl, inr, append_assoc, Ordering, Less, Equal, Greater, is_lt, is_le}
use Rattle.std.specs.Prelude.{Option, Some, None, filter, find, take_while}
use Rattle.std.specs.Ordering.{nat_cmp, flip_args, is_eq, eq_by_cmp}
use Rattle.std.specs.List.{list_any, AllByRecursion}
use Rattle.std.specs.List.Sorted.{IsStrictlySortedBy}
use Rattle.std.specs.Map.{keys_of}
use Rattle.std.proofs.lemmas.List.Sums.{take_while-cons}
use Rattle.std.proofs.lemmas.Map.Keys.{sorted_head, sorted_tail}
use Rattle.zone_proto.specs.declared.rr_key.RrKey.{RrKey}
use Rattle.zone_proto.specs.Keys.{key, first_key, key_cmp}
use Rattle.zone_proto.specs.Names.{Name, name_cmp, name_eq, is_at_or_above}
use Rattle.zone_proto.specs.Order.{is_before, is_upto, greater, least}
use Rattle.zone_proto.specs.Sets.{RRset}
use Rattle.zone_proto.proofs.Members.{In, In-from_filter}
use Rattle.zone_proto.proofs.Names.NameTree.{name_eq-Decides, name_itself}
use Rattle.zone_proto.proofs.Ordering.KeyOrder.{equal_of}
use Rattle.zone_proto.proofs.Names.Tree.{name_order}
use Rattle.zone_proto.proofs.Ordering.Orders.{less_test, irrefl, asym, upto_cases, greatest_is}
use Rattle.zone_map.specs.Zones.{Sets, names_of}
use Rattle.zone_map.proofs.Lists.{then_upto}
use Rattle.zone_map.proofs.Neighbours.{from_key, at_or_after, earlier, before_not_below, none_below}
use Rattle.zone_denial.proofs.InOrder.{flipped}

-- ---- the names at or below one

-- the entries in front that are of a name or of names below it
abbrev pub front_below : Name → Sets → Sets
front_below n m = take_while (λ (e : RrKey × RRset). is_at_or_above n e.0.name) m

-- their names
abbrev pub names_below : Name → Sets → List Name
names_below n m = names_of (front_below n m)

pub below_goes_on : (n : Name) (e : RrKey × RRset) (m : Sets) → is_at_or_above n e.0.name ≡ true → names_below n (e ∷ m) ≡ e.0.name ∷ names_below n m
below_goes_on n e m h = ap names_of (
    take_while-cons (λ (d : RrKey × RRset). is_at_or_above n d.0.name) e m
    ∙ ap (λ b. cond b (e ∷ take_while (λ (d : RrKey × RRset). is_at_or_above n d.0.name) m) []) h)

pub below_ends : (n : Name) (e : RrKey × RRset) (m : Sets) → is_at_or_above n e.0.name ≡ false → names_below n (e ∷ m) ≡ []
below_ends n e m h = ap names_of (
    take_while-cons (λ (d : RrKey × RRset). is_at_or_above n d.0.name) e m
    ∙ ap (λ b. cond b (e ∷ take_while (λ (d : RrKey × RRset). is_at_or_above n d.0.name) m) []) h)

none_kept : {A : Type 0} (p : A → Bool) (xs : List A) → list_any p xs ≡ false → filter p xs ≡ []
none_kept p [] h = refl
none_kept p (x ∷ xs) h = by (p x) h (none_kept p xs)
  where
    by : (b : Bool) → b || list_any p xs ≡ false → (list_any p xs ≡ false → filter p xs ≡ []) → cond b (x ∷ filter p xs) (filter p xs) ≡ []
    by true h ih = absurd (true≢false h)
    by false h ih = ih h

-- from the least key of a name on they stand in front
below_front : (n : Name) (m : Sets) → IsStrictlySortedBy key_cmp (keys_of m) → names_below n (from_key (key n 0) m) ≡ filter (is_at_or_above n) (names_of m)
below_front n [] s = refl
below_front n (e ∷ m) s = by (name_cmp n e.0.name) refl (below_front n m (sorted_tail key_cmp e.0 (keys_of m) s))
  where
    here : is_le (name_cmp n e.0.name) ≡ true → names_below n (from_key (key n 0) m) ≡ filter (is_at_or_above n) (names_of m) → (b : Bool) → is_at_or_above n e.0.name ≡ b
        → names_below n (e ∷ from_key (key n 0) m) ≡ cond b (e.0.name ∷ filter (is_at_or_above n) (names_of m)) (filter (is_at_or_above n) (names_of m))
    here h ih true g = below_goes_on n e (from_key (key n 0) m) g ∙ ap (λ ns. e.0.name ∷ ns) ih
    here h ih false g =
        below_ends n e (from_key (key n 0) m) g
        ∙ sym (none_kept (is_at_or_above n) (names_of m) (none_below n e m h g (sorted_head key_cmp e.0 (keys_of m) s)))

    first : is_le (name_cmp n e.0.name) ≡ true → names_below n (from_key (key n 0) m) ≡ filter (is_at_or_above n) (names_of m) → names_below n (from_key (key n 0) (e ∷ m)) ≡ filter (is_at_or_above n) (names_of (e ∷ m))
    first h ih =
        ap (λ b. names_below n (cond b (e ∷ from_key (key n 0) m) (from_key (key n 0) m))) (at_or_after n e h)
        ∙ here h ih (is_at_or_above n e.0.name) refl

    by : (o : Ordering) → name_cmp n e.0.name ≡ o → names_below n (from_key (key n 0) m) ≡ filter (is_at_or_above n) (names_of m) → names_below n (from_key (key n 0) (e ∷ m)) ≡ filter (is_at_or_above n) (names_of (e ∷ m))
    by Less h ih = first (ap is_le h) ih
    by Equal h ih = first (ap is_le h) ih
    by Greater h ih =
        ap (λ b. names_below n (cond b (e ∷ from_key (key n 0) m) (from_key (key n 0) m))) (earlier n e h)
        ∙ ih
        ∙ sym (ap (λ b. cond b (e.0.name ∷ filter (is_at_or_above n) (names_of m)) (filter (is_at_or_above n) (names_of m))) (before_not_below n e h))

-- so in a range that begins at this key
pub below_read : (n : Name) (from_here : RrKey) (m es range : Sets) → from_here ≡ first_key n → es ≡ m → IsStrictlySortedBy key_cmp (keys_of m) → range ≡ from_key from_here es
    → names_below n range ≡ filter (is_at_or_above n) (names_of m)
below_read n from_here m es range is same sorted r = ap (names_below n) (r ∙ (λ i. from_key (is i) (same i))) ∙ below_front n m sorted

-- one more name, and the others
pub one_more_below : (n : Name) (so_far : List Name) (s left : Sets) (e : RrKey × RRset) (whole : List Name) → s ≡ e ∷ left → is_at_or_above n e.0.name ≡ true
    → so_far ++ names_below n s ≡ whole → (so_far ++ e.0.name ∷ []) ++ names_below n left ≡ whole
one_more_below n so_far s left e whole is same h =
    append_assoc so_far (e.0.name ∷ []) (names_below n left)
    ∙ ap (λ ns. so_far ++ ns) (sym (below_goes_on n e left same))
    ∙ ap (λ es. so_far ++ names_below n es) (sym is)
    ∙ h

-- ---- the first of the later names that passes a test is the least

-- the names of the entries after one come no earlier
names_later : (k : RrKey) (m : Sets) → AllByRecursion (λ q. key_cmp k q ≡ Less) (keys_of m) → (y : Name) → In y (names_of m) → is_upto name_cmp k.name y ≡ true
names_later k [] a y i = absurd i
names_later k (f ∷ m) a y (inl e) = ap (is_upto name_cmp k.name) (sym e) ∙ then_upto (name_cmp k.name f.0.name) (nat_cmp k.record_type.0 f.0.record_type.0) a.0
names_later k (f ∷ m) a y (inr i) = names_later k m a.1 y i

not_earlier : (x y : Name) → is_upto name_cmp x y ≡ true → is_before name_cmp y x ≡ false
not_earlier x y h = by (is_before name_cmp y x) refl (upto_cases name_order x y h)
  where
    by : (b : Bool) → is_before name_cmp y x ≡ b → (x ≡ y) ⊎ (name_cmp x y ≡ Less) → b ≡ false
    by true g (inl e) = absurd (irrefl name_order x (ap (λ z. name_cmp z x) e ∙ less_test (name_cmp y x) g))
    by true g (inr l) = absurd (asym name_order x y l (less_test (name_cmp y x) g))
    by false g c = refl

first_is_least : (x : Name) (xs : List Name) → ((y : Name) → In y xs → is_upto name_cmp x y ≡ true) → least name_cmp (x ∷ xs) ≡ Some x
first_is_least x xs later = ap Some (by (least name_cmp xs) refl)
  where
    by : (g : Option Name) → least name_cmp xs ≡ g → greater (flip_args name_cmp) x g ≡ x
    by None e = refl
    by (Some y) e = ap (λ b. cond b y x) (not_earlier x y (later y (greatest_is (flipped name_order) xs y e).among))

differs : (n a : Name) → name_cmp n a ≡ Less → name_eq n a ≡ false
differs n a h = by (name_eq n a) refl
  where
    by : (b : Bool) → name_eq n a ≡ b → b ≡ false
    by true e = absurd (irrefl name_order n (ap (name_cmp n) ((name_eq-Decides n a).0 e) ∙ h))
    by false e = refl

-- what fails a test is dropped
dropped : (q : Name → Bool) (x : Name) (xs : List Name) (c : Bool) → q x ≡ false → filter q (cond c (x ∷ xs) xs) ≡ filter q xs
dropped q x xs true h = ap (λ b. cond b (x ∷ filter q xs) (filter q xs)) h
dropped q x xs false h = refl

module _ (p : Name → Bool) where
  -- the first of some names that passes, and isn't n
  abbrev pub first_other : Name → List Name → Option Name
  first_other n names = find (λ a. not (name_eq n a) && p a) names

  abbrev least_later : Name → Sets → Option Name
  least_later n m = least name_cmp (filter (is_before name_cmp n) (filter p (names_of m)))

  first_of_later : (n : Name) (m : Sets) → IsStrictlySortedBy key_cmp (keys_of m) → first_other n (names_of (from_key (key n 0) m)) ≡ least_later n m
  first_of_later n [] s = refl
  first_of_later n (e ∷ m) s = by (name_cmp n e.0.name) refl (first_of_later n m (sorted_tail key_cmp e.0 (keys_of m) s))
    where
      over : is_before name_cmp n e.0.name ≡ false → least_later n (e ∷ m) ≡ least_later n m
      over h = ap (least name_cmp) (dropped (is_before name_cmp n) e.0.name (filter p (names_of m)) (p e.0.name) h)

      taken : is_le (name_cmp n e.0.name) ≡ true → (b : Bool) → name_eq n e.0.name ≡ b
          → first_other n (names_of (from_key (key n 0) (e ∷ m))) ≡ cond (not b && p e.0.name) (Some e.0.name) (first_other n (names_of (from_key (key n 0) m)))
      taken h b g =
          ap (λ c. first_other n (names_of (cond c (e ∷ from_key (key n 0) m) (from_key (key n 0) m)))) (at_or_after n e h)
          ∙ ap (λ c. cond (not c && p e.0.name) (Some e.0.name) (first_other n (names_of (from_key (key n 0) m)))) g

      later : (y : Name) → In y (filter (is_before name_cmp n) (filter p (names_of m))) → is_upto name_cmp e.0.name y ≡ true
      later y i =
          names_later e.0 m (sorted_head key_cmp e.0 (keys_of m) s) y
          (In-from_filter p y (names_of m) (In-from_filter (is_before name_cmp n) y (filter p (names_of m)) i).0).0

      here : name_cmp n e.0.name ≡ Less → first_other n (names_of (from_key (key n 0) m)) ≡ least_later n m → (b : Bool) → p e.0.name ≡ b
          → cond b (Some e.0.name) (first_other n (names_of (from_key (key n 0) m))) ≡ least name_cmp (filter (is_before name_cmp n) (cond b (e.0.name ∷ filter p (names_of m)) (filter p (names_of m))))
      here h ih true g =
          sym (ap (λ c. least name_cmp (cond c (e.0.name ∷ filter (is_before name_cmp n) (filter p (names_of m))) (filter (is_before name_cmp n) (filter p (names_of m))))) (ap is_lt h)
          ∙ first_is_least e.0.name (filter (is_before name_cmp n) (filter p (names_of m))) later)
      here h ih false g = ih

      by : (o : Ordering) → name_cmp n e.0.name ≡ o → first_other n (names_of (from_key (key n 0) m)) ≡ least_later n m
          → first_other n (names_of (from_key (key n 0) (e ∷ m))) ≡ least_later n (e ∷ m)
      by Less h ih = taken (ap is_le h) false (differs n e.0.name h) ∙ here h ih (p e.0.name) refl
      by Equal h ih = taken (ap is_le h) true ((name_eq-Decides n e.0.name).1 (name_order.exact n e.0.name h)) ∙ ih ∙ sym (over (ap is_lt h))
      by Greater h ih =
          ap (λ c. first_other n (names_of (cond c (e ∷ from_key (key n 0) m) (from_key (key n 0) m)))) (earlier n e h)
          ∙ ih
          ∙ sym (over (ap is_lt h))

  pub first_read : (n : Name) (from_here : RrKey) (m es range : Sets) → from_here ≡ first_key n → es ≡ m → IsStrictlySortedBy key_cmp (keys_of m) → range ≡ from_key from_here es
      → first_other n (names_of range) ≡ least name_cmp (filter (is_before name_cmp n) (filter p (names_of m)))
  first_read n from_here m es range is same sorted r = ap (λ (x : Sets). first_other n (names_of x)) (r ∙ (λ i. from_key (is i) (same i))) ∙ first_of_later n m sorted

  -- ---- a loop over the entries

  pub first_found : (n : Name) (s left : Sets) (e : RrKey × RRset) → s ≡ e ∷ left → not (name_eq n e.0.name) && p e.0.name ≡ true → first_other n (names_of s) ≡ Some e.0.name
  first_found n s left e is h = ap (λ es. first_other n (names_of es)) is ∙ ap (λ b. cond b (Some e.0.name) (first_other n (names_of left))) h

  pub not_found : (n : Name) (s left : Sets) (e : RrKey × RRset) → s ≡ e ∷ left → not (name_eq n e.0.name) && p e.0.name ≡ false → first_other n (names_of left) ≡ first_other n (names_of s)
  not_found n s left e is h = sym (ap (λ es. first_other n (names_of es)) is ∙ ap (λ b. cond b (Some e.0.name) (first_other n (names_of left))) h)

-- ---- as the program compares names

pub same_out : (n a : Name) (b : Bool) → eq_by_cmp name_cmp n a ≡ true → false ≡ not (name_eq n a) && b
same_out n a b h = sym (ap (λ c. not c && b) ((name_eq-Decides n a).1 (name_order.exact n a (equal_of (name_cmp n a) h))))

pub other_by : (n a : Name) (b c : Bool) → eq_by_cmp name_cmp n a ≡ false → c ≡ b → c ≡ not (name_eq n a) && b
other_by n a b c h e = e ∙ sym (ap (λ d. not d && b) (by (name_eq n a) refl))
  where
    by : (d : Bool) → name_eq n a ≡ d → d ≡ false
    by true g = absurd (true≢false (sym (ap is_eq (ap (name_cmp n) (sym ((name_eq-Decides n a).0 g)) ∙ name_itself n)) ∙ h))
    by false g = refl

-- What the entries from a name's least key on say of the name, and of the names below it
use Rattle.std.proofs.Common.{◌≡◌, ℕ, zero, suc, ◌&&◌, ◌||◌, not, Bool, true, false, cond, List, [], ◌∷◌, map, refl, sym, ap, ◌∙◌, subst, true≢false, arith, ◌⊎◌, inl, inr, Ordering, Less, Equal, Greater}
use Rattle.std.specs.Prelude.{Some, None, filter, take_while}
use Rattle.std.specs.Ordering.{nat_cmp, ordering_then, ordering_reverse, is_le, is_eq, is_lt, is_gt, eq_by_cmp}
use Rattle.std.specs.Cmp.{nat_cmp_is, both_ways}
use Rattle.std.specs.List.{list_any, cons_option, AllByRecursion}
use Rattle.std.specs.List.Sorted.{IsStrictlySortedBy}
use Rattle.std.specs.Map.{keys_of}
use Rattle.std.specs.BTreeMap.Range.{entries_between, range_contains}
use Rattle.std.specs.declared.ops.Bound.TheVariants.{Included, Unbounded}
use Rattle.std.proofs.lemmas.Cmp.{tied_itself}
use Rattle.std.proofs.lemmas.List.Sums.{take_while-cons}
use Rattle.std.proofs.lemmas.Map.Keys.{sorted_head, sorted_tail}
use Rattle.zone_proto.specs.declared.rr_key.RrKey.{RrKey}
use Rattle.zone_proto.specs.Keys.{key, first_key, key_cmp}
use Rattle.zone_proto.specs.Names.{Name, name_cmp, name_eq, IsAbove, IsAtOrAbove, is_at_or_above}
use Rattle.zone_proto.specs.Order.{is_upto}
use Rattle.zone_proto.specs.Sets.{RRset}
use Rattle.zone_proto.proofs.Names.NameTree.{name_eq-Decides, above_is_less, is_at_or_above_sound, is_at_or_above_complete}
use Rattle.zone_proto.proofs.Names.Tree.{name_order, above_cases, together}
use Rattle.zone_map.specs.Counts.{one_more}
use Rattle.zone_map.specs.Zones.{Sets, has_key_from, types_at, owns_at_or_below}

-- the entries that are at or after a key
abbrev pub from_key : RrKey → Sets → Sets
from_key k m = entries_between key_cmp (Included k) Unbounded m

-- the entries in front that are of a name
abbrev pub front : Name → Sets → Sets
front n m = take_while (λ e. eq_by_cmp name_cmp e.0.name n) m

-- the types of these
abbrev pub front_types : Name → Sets → List ℕ
front_types n m = map (λ e. e.0.record_type.0) (front n m)

-- all entries of a name
abbrev pub entries_of : Name → Sets → Sets
entries_of n m = filter (λ e. name_eq n e.0.name) m

-- ---- a front, and its first entry

of_name : (n : Name) (e : RrKey × RRset) → name_cmp n e.0.name ≡ Equal → eq_by_cmp name_cmp e.0.name n ≡ true
of_name n e h = ap is_eq (name_order.total.antisymm e.0.name n ∙ ap ordering_reverse h)

pub front_goes_on : (n : Name) (e : RrKey × RRset) (m : Sets) → eq_by_cmp name_cmp e.0.name n ≡ true → front n (e ∷ m) ≡ e ∷ front n m
front_goes_on n e m h =
    take_while-cons (λ (d : RrKey × RRset). eq_by_cmp name_cmp d.0.name n) e m
    ∙ ap (λ b. cond b (e ∷ take_while (λ d. eq_by_cmp name_cmp d.0.name n) m) []) h

pub front_stops : (n : Name) (e : RrKey × RRset) (m : Sets) → eq_by_cmp name_cmp e.0.name n ≡ false → front n (e ∷ m) ≡ []
front_stops n e m h =
    take_while-cons (λ (d : RrKey × RRset). eq_by_cmp name_cmp d.0.name n) e m
    ∙ ap (λ b. cond b (e ∷ take_while (λ d. eq_by_cmp name_cmp d.0.name n) m) []) h

pub front_taken : (n : Name) (e : RrKey × RRset) (m : Sets) → eq_by_cmp name_cmp e.0.name n ≡ true → front_types n (e ∷ m) ≡ e.0.record_type.0 ∷ front_types n m
front_taken n e m h = ap (map (λ (d : RrKey × RRset). d.0.record_type.0)) (front_goes_on n e m h)

pub front_ended : (n : Name) (e : RrKey × RRset) (m : Sets) → eq_by_cmp name_cmp e.0.name n ≡ false → front_types n (e ∷ m) ≡ []
front_ended n e m h = ap (map (λ (d : RrKey × RRset). d.0.record_type.0)) (front_stops n e m h)

-- ---- in a map in order, the front from a name's least key on has the name's entries

zero_first : (t : ℕ) → is_le (nat_cmp 0 t) ≡ true
zero_first zero = refl
zero_first (suc t) = ap is_le (sym (nat_cmp_is 0 (suc t) Less (omega arith)))

-- an entry is at or after the least key of a name that isn't after its own
pub at_or_after : (n : Name) (e : RrKey × RRset) → is_le (name_cmp n e.0.name) ≡ true → range_contains key_cmp (Included (key n 0)) Unbounded e.0 ≡ true
at_or_after n e h = by (name_cmp n e.0.name) h
  where
    by : (o : Ordering) → is_le o ≡ true → is_le (ordering_then o (nat_cmp 0 e.0.record_type.0)) && true ≡ true
    by Less h = refl
    by Equal h = ap (λ b. b && true) (zero_first e.0.record_type.0)
    by Greater h = absurd (true≢false (sym h))

pub earlier : (n : Name) (e : RrKey × RRset) → name_cmp n e.0.name ≡ Greater → range_contains key_cmp (Included (key n 0)) Unbounded e.0 ≡ false
earlier n e h = ap (λ o. is_le (ordering_then o (nat_cmp 0 e.0.record_type.0)) && true) h

not_after : (o p : Ordering) → ordering_then o p ≡ Less → (o ≡ Less) ⊎ (o ≡ Equal)
not_after Less p h = inl refl
not_after Equal p h = inr refl
not_after Greater p h = absurd cc

-- the name of a later entry isn't before
later_name : (n : Name) (e f : RrKey) → name_cmp n e.name ≡ Less → key_cmp e f ≡ Less → name_cmp n f.name ≡ Less
later_name n e f h k = by (not_after (name_cmp e.name f.name) (nat_cmp e.record_type.0 f.record_type.0) k)
  where
    by : (name_cmp e.name f.name ≡ Less) ⊎ (name_cmp e.name f.name ≡ Equal) → name_cmp n f.name ≡ Less
    by (inl l) = name_order.total.trans n e.name f.name h l
    by (inr s) = ap (name_cmp n) (sym (name_order.exact e.name f.name s)) ∙ h

differs : (n a : Name) → name_cmp n a ≡ Less → name_eq n a ≡ false
differs n a h = by (name_eq n a) refl
  where
    by : (b : Bool) → name_eq n a ≡ b → b ≡ false
    by true e =
        let same = (name_eq-Decides n a).0 e in
        absurd (true≢false (ap is_lt (sym h) ∙ ap is_lt (ap (name_cmp n) (sym same) ∙ tied_itself name_order.total n)))
    by false e = refl

not_of_name : (n : Name) (e : RrKey × RRset) → name_cmp n e.0.name ≡ Less → eq_by_cmp name_cmp e.0.name n ≡ false
not_of_name n e h = ap is_eq (name_order.total.antisymm e.0.name n ∙ ap ordering_reverse h)

apart : (n : Name) (e : RrKey × RRset) → name_cmp n e.0.name ≡ Greater → name_eq n e.0.name ≡ false
apart n e h = by (name_eq n e.0.name) refl
  where
    by : (b : Bool) → name_eq n e.0.name ≡ b → b ≡ false
    by true g =
        let same = (name_eq-Decides n e.0.name).0 g in
        absurd (true≢false (ap is_gt (sym h) ∙ ap is_gt (ap (name_cmp n) (sym same) ∙ tied_itself name_order.total n)))
    by false g = refl

-- no entry of a map in order is of a name that comes before the first
none_later : (n : Name) (e : RrKey × RRset) (m : Sets) → name_cmp n e.0.name ≡ Less → AllByRecursion (λ k. key_cmp e.0 k ≡ Less) (keys_of m) → entries_of n m ≡ []
none_later n e [] h a = refl
none_later n e (f ∷ m) h a =
    ap (λ b. cond b (f ∷ entries_of n m) (entries_of n m)) (differs n f.0.name (later_name n e.0 f.0 h a.0))
    ∙ none_later n e m h a.1

-- the front from the least key of a name on has the entries of the name
pub front_is_whole_name : (n : Name) (m : Sets) → IsStrictlySortedBy key_cmp (keys_of m) → front n (from_key (key n 0) m) ≡ entries_of n m
front_is_whole_name n [] s = refl
front_is_whole_name n (e ∷ m) s = by (name_cmp n e.0.name) refl (front_is_whole_name n m (sorted_tail key_cmp e.0 (keys_of m) s))
  where
    by : (o : Ordering) → name_cmp n e.0.name ≡ o → front n (from_key (key n 0) m) ≡ entries_of n m → front n (from_key (key n 0) (e ∷ m)) ≡ entries_of n (e ∷ m)
    by Less h ih =
        ap (λ b. front n (cond b (e ∷ from_key (key n 0) m) (from_key (key n 0) m))) (at_or_after n e (ap is_le h))
        ∙ front_stops n e (from_key (key n 0) m) (not_of_name n e h)
        ∙ sym (none_later n e m h (sorted_head key_cmp e.0 (keys_of m) s))
        ∙ ap (λ b. cond b (e ∷ entries_of n m) (entries_of n m)) (sym (differs n e.0.name h))
    by Equal h ih =
        ap (λ b. front n (cond b (e ∷ from_key (key n 0) m) (from_key (key n 0) m))) (at_or_after n e (ap is_le h))
        ∙ front_goes_on n e (from_key (key n 0) m) (of_name n e h)
        ∙ ap (λ es. e ∷ es) ih
        ∙ ap (λ b. cond b (e ∷ entries_of n m) (entries_of n m)) (sym ((name_eq-Decides n e.0.name).1 (name_order.exact n e.0.name h)))
    by Greater h ih =
        ap (λ b. front n (cond b (e ∷ from_key (key n 0) m) (from_key (key n 0) m))) (earlier n e h)
        ∙ ih
        ∙ ap (λ b. cond b (e ∷ entries_of n m) (entries_of n m)) (sym (apart n e h))

-- these have the types that the name owns
types_of_entries : (n : Name) (m : Sets) → map (λ e. e.0.record_type.0) (entries_of n m) ≡ types_at m n
types_of_entries n [] = refl
types_of_entries n (e ∷ m) = by (name_eq n e.0.name) (types_of_entries n m)
  where
    by : (b : Bool) → map (λ e. e.0.record_type.0) (entries_of n m) ≡ types_at m n
        → map (λ e. e.0.record_type.0) (cond b (e ∷ entries_of n m) (entries_of n m)) ≡ cons_option (cond b (Some e.0.record_type.0) None) (types_at m n)
    by true ih = ap (λ ts. e.0.record_type.0 ∷ ts) ih
    by false ih = ih

pub front_is_types : (n : Name) (m : Sets) → IsStrictlySortedBy key_cmp (keys_of m) → front_types n (from_key (key n 0) m) ≡ types_at m n
front_is_types n m s = ap (map (λ (d : RrKey × RRset). d.0.record_type.0)) (front_is_whole_name n m s) ∙ types_of_entries n m

-- ---- the first entry from a name's least key on says whether the name or a name below it owns a set

-- whether the first entry is of the name or of a name below it
abbrev pub first_is_below : Name → Sets → Bool
first_is_below n [] = false
first_is_below n (e ∷ m) = is_at_or_above n e.0.name

-- a name that comes before n isn't below it
pub before_not_below : (n : Name) (e : RrKey × RRset) → name_cmp n e.0.name ≡ Greater → is_at_or_above n e.0.name ≡ false
before_not_below n e h = by (is_at_or_above n e.0.name) refl
  where
    split : (n ≡ e.0.name) ⊎ IsAbove n e.0.name → ⊥
    split (inl same) = true≢false (ap is_gt (sym h) ∙ ap is_gt (ap (name_cmp n) (sym same) ∙ tied_itself name_order.total n))
    split (inr above) = true≢false (ap is_gt (sym h) ∙ ap is_gt (above_is_less n e.0.name above))

    by : (b : Bool) → is_at_or_above n e.0.name ≡ b → b ≡ false
    by true g = absurd (split (above_cases n e.0.name (is_at_or_above_sound n e.0.name g)))
    by false g = refl

-- where an entry at or after n isn't below it, no later one is
pub none_below : (n : Name) (e : RrKey × RRset) (m : Sets) → is_le (name_cmp n e.0.name) ≡ true → is_at_or_above n e.0.name ≡ false
    → AllByRecursion (λ k. key_cmp e.0 k ≡ Less) (keys_of m) → owns_at_or_below m n ≡ false
none_below n e [] h g a = refl
none_below n e (f ∷ m) h g a =
    ap (λ b. b || owns_at_or_below m n) (by (is_at_or_above n f.0.name) refl) ∙ none_below n e m h g a.1
  where
    upto : (name_cmp e.0.name f.0.name ≡ Less) ⊎ (name_cmp e.0.name f.0.name ≡ Equal) → is_le (name_cmp e.0.name f.0.name) ≡ true
    upto (inl l) = ap is_le l
    upto (inr s) = ap is_le s

    by : (b : Bool) → is_at_or_above n f.0.name ≡ b → b ≡ false
    by true i =
        let between = upto (not_after (name_cmp e.0.name f.0.name) (nat_cmp e.0.record_type.0 f.0.record_type.0) a.0) in
        let above = together n e.0.name f.0.name h between (is_at_or_above_sound n f.0.name i) in
        absurd (true≢false (sym (is_at_or_above_complete n e.0.name above) ∙ g))
    by false i = refl

pub below_is_first : (n : Name) (m : Sets) → IsStrictlySortedBy key_cmp (keys_of m) → owns_at_or_below m n ≡ first_is_below n (from_key (key n 0) m)
below_is_first n [] s = refl
below_is_first n (e ∷ m) s = by (name_cmp n e.0.name) refl (below_is_first n m (sorted_tail key_cmp e.0 (keys_of m) s))
  where
    here : is_le (name_cmp n e.0.name) ≡ true → (b : Bool) → is_at_or_above n e.0.name ≡ b → b || owns_at_or_below m n ≡ b
    here h true g = refl
    here h false g = none_below n e m h g (sorted_head key_cmp e.0 (keys_of m) s)

    first : is_le (name_cmp n e.0.name) ≡ true → owns_at_or_below (e ∷ m) n ≡ first_is_below n (from_key (key n 0) (e ∷ m))
    first h =
        here h (is_at_or_above n e.0.name) refl
        ∙ ap (λ b. first_is_below n (cond b (e ∷ from_key (key n 0) m) (from_key (key n 0) m))) (sym (at_or_after n e h))

    by : (o : Ordering) → name_cmp n e.0.name ≡ o → owns_at_or_below m n ≡ first_is_below n (from_key (key n 0) m)
        → owns_at_or_below (e ∷ m) n ≡ first_is_below n (from_key (key n 0) (e ∷ m))
    by Less h ih = first (ap is_le h)
    by Equal h ih = first (ap is_le h)
    by Greater h ih =
        ap (λ b. b || owns_at_or_below m n) (before_not_below n e h)
        ∙ ih
        ∙ ap (λ b. first_is_below n (cond b (e ∷ from_key (key n 0) m) (from_key (key n 0) m))) (sym (earlier n e h))

-- ---- a loop over a front that notes whether a type passes a test

module _ (p : ℕ → Bool) (n : Name) where
  -- a test of all types that were passed, with that of a further one
  pub front_noted : (s t : Sets) (e : RrKey × RRset) → s ≡ e ∷ t → (before after whole : Bool) → eq_by_cmp name_cmp e.0.name n ≡ true
      → after ≡ before || p e.0.record_type.0 → before || list_any p (front_types n s) ≡ whole → after || list_any p (front_types n t) ≡ whole
  front_noted s t e is before after whole h g i =
      ap (λ b. b || list_any p (front_types n t)) g
      ∙ by before
      ∙ sym (ap (λ r. before || list_any p (front_types n r)) is ∙ ap (λ ts. before || list_any p ts) (front_taken n e t h))
      ∙ i
    where
      by : (b : Bool) → (b || p e.0.record_type.0) || list_any p (front_types n t) ≡ b || (p e.0.record_type.0 || list_any p (front_types n t))
      by true = refl
      by false = refl

  pub front_over : (s t : Sets) (e : RrKey × RRset) → s ≡ e ∷ t → eq_by_cmp name_cmp e.0.name n ≡ false → list_any p (front_types n s) ≡ false
  front_over s t e is h = ap (λ r. list_any p (front_types n r)) is ∙ ap (list_any p) (front_ended n e t h)

-- where nothing is left, what was noted is the whole
pub all_noted : (b rest whole : Bool) → rest ≡ false → b || rest ≡ whole → b ≡ whole
all_noted true rest whole e h = h
all_noted false rest whole e h = sym e ∙ h

-- a test that names differ
pub not_false : (b : Bool) → not b ≡ false → b ≡ true
not_false true h = refl
not_false false h = cc

pub not_true : (b : Bool) → not b ≡ true → b ≡ false
not_true true h = cc
not_true false h = refl

-- from the least key on, a loop over the front sees the types that the name owns
pub front_is_whole : (p : ℕ → Bool) (least : RrKey) (m es : Sets) → least.record_type.0 ≡ 0 → IsStrictlySortedBy key_cmp (keys_of es) → es ≡ m
    → list_any p (front_types least.name (from_key least m)) ≡ list_any p (types_at m least.name)
front_is_whole p least m es type_zero sorted same =
    ap (λ t. list_any p (front_types least.name (from_key (key least.name t) m))) type_zero
    ∙ ap (list_any p) (front_is_types least.name m (subst (λ (x : Sets). IsStrictlySortedBy key_cmp (keys_of x)) same sorted))

-- what the first entry from a key of the least type on says
module _ (least : RrKey) (m es front : Sets) (type_zero : least.record_type.0 ≡ 0) (sorted : IsStrictlySortedBy key_cmp (keys_of es)) (same_map : es ≡ m) (is : front ≡ from_key least es) where
  whole : owns_at_or_below m least.name ≡ first_is_below least.name front
  whole =
      ap (λ (x : Sets). owns_at_or_below x least.name) (sym same_map)
      ∙ below_is_first least.name es sorted
      ∙ ap (λ t. first_is_below least.name (from_key (key least.name t) es)) (sym type_zero)
      ∙ ap (first_is_below least.name) (sym is)

  pub below_where_none : front ≡ [] → owns_at_or_below m least.name ≡ false
  below_where_none e = whole ∙ ap (first_is_below least.name) e

  pub below_where_some : (e : RrKey × RRset) (rest : Sets) (b : Bool) → front ≡ e ∷ rest
      → (b ≡ true → IsAtOrAbove least.name e.0.name) → (IsAtOrAbove least.name e.0.name → b ≡ true) → b ≡ owns_at_or_below m least.name
  below_where_some e rest b f to from =
      both_ways b (is_at_or_above least.name e.0.name) (λ t. is_at_or_above_complete least.name e.0.name (to t)) (λ t. from (is_at_or_above_sound least.name e.0.name t))
      ∙ sym (whole ∙ ap (first_is_below least.name) f)

-- ---- whether a key is read

none_follow : (k : RrKey) (m : Sets) → from_key k m ≡ [] → list_any (is_upto key_cmp k) (keys_of m) ≡ false
none_follow k [] h = refl
none_follow k (e ∷ m) h = by (is_upto key_cmp k e.0) h (none_follow k m)
  where
    by : (b : Bool) → cond (b && true) (e ∷ from_key k m) (from_key k m) ≡ [] → (from_key k m ≡ [] → list_any (is_upto key_cmp k) (keys_of m) ≡ false)
        → b || list_any (is_upto key_cmp k) (keys_of m) ≡ false
    by true g ih = absurd cc
    by false g ih = ih g

some_follow : (k : RrKey) (m rest : Sets) (f : RrKey × RRset) → from_key k m ≡ f ∷ rest → list_any (is_upto key_cmp k) (keys_of m) ≡ true
some_follow k [] rest f h = absurd cc
some_follow k (e ∷ m) rest f h = by (is_upto key_cmp k e.0) h (some_follow k m rest f)
  where
    by : (b : Bool) → cond (b && true) (e ∷ from_key k m) (from_key k m) ≡ f ∷ rest → (from_key k m ≡ f ∷ rest → list_any (is_upto key_cmp k) (keys_of m) ≡ true)
        → b || list_any (is_upto key_cmp k) (keys_of m) ≡ true
    by true g ih = refl
    by false g ih = ih g

module _ (least : RrKey) (m es range : Sets) (is_least : least.record_type.0 ≡ 0) (same : es ≡ m) (between : range ≡ from_key least es) where
  of_range : from_key (first_key least.name) m ≡ range
  of_range = ap (λ (t : ℕ). from_key (key least.name t) m) (sym is_least) ∙ ap (from_key least) (sym same) ∙ sym between

  pub unread : (n : ℕ) → range ≡ [] → n ≡ cond (has_key_from m least.name) (one_more n) n
  unread n h = ap (λ b. cond b (one_more n) n) (sym (none_follow (first_key least.name) m (of_range ∙ h)))

  pub read : (n : ℕ) (rest : Sets) (e : RrKey × RRset) → range ≡ e ∷ rest → one_more n ≡ cond (has_key_from m least.name) (one_more n) n
  read n rest e h = ap (λ b. cond b (one_more n) n) (sym (some_follow (first_key least.name) m rest e (of_range ∙ h)))

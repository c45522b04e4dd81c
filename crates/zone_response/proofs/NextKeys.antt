-- The keys next to a name, and the names above it
use Rattle.std.proofs.Common.{◌≡◌, ℕ, ◌-◌, ◌<◌, ◌≤◌, Bool, true, false, [], ◌∷◌, ◌++◌, List, length, take, drop, refl, sym, ap, ◌∙◌, subst, true≢false, arith, length-append, ◌⊎◌, inl, inr, Ordering, Less, Equal, Greater, IsTrue}
use Rattle.std.specs.Prelude.{Option, Some, None, is_some, IfSome, ◌&&◌, not}
use Rattle.std.specs.List.{slice_get}
use Rattle.std.specs.Map.{keys_of}
use Rattle.std.specs.Ordering.{is_le, is_lt, is_gt, nat_cmp, ordering_then}
use Rattle.std.proofs.lemmas.List.{length-drop, take-append-drop}
use Rattle.zone_proto.specs.declared.rr_key.RrKey.{RrKey}
use Rattle.zone_proto.specs.Keys.{key, key_cmp}
use Rattle.zone_proto.specs.Names.{Name, name_cmp, is_at_or_above, IsAbove, IsAtOrAbove}
use Rattle.zone_proto.specs.Order.{is_before, is_upto}
use Rattle.zone_proto.specs.Sets.{RRset}
use Rattle.zone_proto.proofs.Members.{In-from_any, In-from_map, and_left}
use Rattle.zone_proto.proofs.Names.NameTree.{above_is_less, is_at_or_above_sound}
use Rattle.zone_proto.proofs.Names.Tree.{name_order, above_cases, together}
use Rattle.zone_proto.proofs.Ordering.KeyLaws.{key_cmp_total, exact_keys}
use Rattle.zone_proto.proofs.Ordering.Orders.{IsOrder, less_test, upto_before, upto_same, upto_cases, upto_from_not_before}
use Rattle.zone_map.specs.Upserts.{is_denial_type}
use Rattle.zone_map.specs.Wildcards.{exists}
use Rattle.zone_map.specs.Zones.{Sets, owns, set_at}
use Rattle.zone_map.proofs.Owned.{entry_owned}
use Rattle.zone_response.specs.Neighbours.{NoneBelowLonger, NoLongerExists, NoLongerOwns}

pub key_order : IsOrder key_cmp
key_order = record { total = key_cmp_total; exact = exact_keys }

-- ---- names above another one

pub at_from_above : (a x : Name) → IsAbove a x → IsAtOrAbove a x
at_from_above a x w = (w.0 ∷ w.1, w.2)

pub shorter_above : (a x : Name) → IsAbove a x → length a < length x
shorter_above a x w = omega (arith, ap length w.2, length-append (w.0 ∷ w.1) a)

-- one that is shorter is above
pub above_from_shorter : (a x : Name) → IsAtOrAbove a x → length a < length x → IsAbove a x
above_from_shorter a x w h = by (above_cases a x w)
  where
    by : (a ≡ x) ⊎ IsAbove a x → IsAbove a x
    by (inl e) = absurd (omega (arith, ap length e))
    by (inr above) = above

-- of two names at or above another one the shorter is at or above the longer
nested_of : (a b f g : Name) → f ++ a ≡ g ++ b → IsAtOrAbove a b ⊎ IsAtOrAbove b a
nested_of a b [] g e = inr (g, e)
nested_of a b (l ∷ f) [] e = inl (l ∷ f, sym e)
nested_of a b (l ∷ f) (k ∷ g) e = nested_of a b f g (ap (drop 1) e)

pub nested : (a b x : Name) → IsAtOrAbove a x → IsAtOrAbove b x → length a ≤ length b → IsAtOrAbove a b
nested a b x v w h = by (nested_of a b v.0 w.0 (sym v.1 ∙ w.1))
  where
    over : (b ≡ a) ⊎ IsAbove b a → IsAtOrAbove a b
    over (inl e) = ([], e)
    over (inr above) = let less : length b < length a = shorter_above b a above in absurd (omega arith)

    by : IsAtOrAbove a b ⊎ IsAtOrAbove b a → IsAtOrAbove a b
    by (inl below) = below
    by (inr back) = over (above_cases b a back)

pub fewer_labels : (a : Name) (count : ℕ) → (a ≡ [] → ⊥) → count ≤ length a - 1 → count < length a
fewer_labels [] count below h = absurd (below refl)
fewer_labels (l ∷ a) count below h = omega arith

-- the last labels of a name
pub last_above : (count : ℕ) (x : Name) → count < length x → IsAbove (drop (length x - count) x) x
last_above count x h =
    above_from_shorter (drop (length x - count) x) x (take (length x - count) x, sym (take-append-drop (length x - count) x))
    (omega (arith, length-drop (length x - count) x))

pub last_length : (count : ℕ) (x : Name) → count ≤ length x → length (drop (length x - count) x) ≡ count
last_length count x h = length-drop (length x - count) x ∙ omega arith

-- ---- in order

upto_at : (a b : Name) → IsAtOrAbove a b → is_upto name_cmp a b ≡ true
upto_at a b w = by (above_cases a b w)
  where
    by : (a ≡ b) ⊎ IsAbove a b → is_upto name_cmp a b ≡ true
    by (inl e) = upto_same name_order a b e
    by (inr above) = upto_before name_order a b (above_is_less a b above)

upto_upto : (a b c : Name) → is_upto name_cmp a b ≡ true → is_upto name_cmp b c ≡ true → is_upto name_cmp a c ≡ true
upto_upto a b c h k = by (upto_cases name_order a b h)
  where
    more : name_cmp a b ≡ Less → (b ≡ c) ⊎ (name_cmp b c ≡ Less) → is_upto name_cmp a c ≡ true
    more l (inl e) = ap (is_upto name_cmp a) (sym e) ∙ h
    more l (inr m) = upto_before name_order a c (name_order.total.trans a b c l m)

    by : (a ≡ b) ⊎ (name_cmp a b ≡ Less) → is_upto name_cmp a c ≡ true
    by (inl e) = ap (λ n. is_upto name_cmp n c) e ∙ k
    by (inr l) = more l (upto_cases name_order b c k)

-- the names of keys in order
names_upto : (j k : RrKey) → is_upto key_cmp j k ≡ true → is_upto name_cmp j.name k.name ≡ true
names_upto j k h = by (name_cmp j.name k.name) h
  where
    by : (o : Ordering) → is_le (ordering_then o (nat_cmp j.record_type.0 k.record_type.0)) ≡ true → is_le o ≡ true
    by Less h = refl
    by Equal h = refl
    by Greater h = absurd (true≢false (sym h))

not_after : (o : Ordering) → is_gt o ≡ false → is_le o ≡ true
not_after Less h = refl
not_after Equal h = refl
not_after Greater h = absurd (true≢false h)

pub not_greater : (o : Ordering) → is_le o ≡ true → is_gt o ≡ false
not_greater Less h = refl
not_greater Equal h = refl
not_greater Greater h = absurd (true≢false (sym h))

module _ (m : Sets) (x : RrKey) where
  abbrev pub Owned : RrKey → Type 0
  Owned k = IsTrue (owns m k.name k.record_type.0)

  -- the last key before one tells of all before it
  pub by_last : (last : RrKey) (shared : ℕ) → key_cmp last x ≡ Less → ((k : RrKey) → key_cmp k x ≡ Less → Owned k → is_lt (key_cmp last k) ≡ false)
      → ((a : Name) → IsAbove a x.name → IsAtOrAbove a last.name → length a ≤ shared) → NoneBelowLonger m x.name shared (λ k. is_before key_cmp k x)
  by_last last shared less greatest most = λ a k above below owned before.
      let upto : is_upto key_cmp k last ≡ true = upto_from_not_before key_order k last (λ l. true≢false (sym (ap is_lt l) ∙ greatest k (less_test (key_cmp k x) before) owned)) in
      most a above
      (together a last.name x.name (upto_upto a k.name last.name (upto_at a k.name below) (names_upto k last upto)) (names_upto last x (upto_before key_order last x less)) (at_from_above a x.name above))

  -- and the first one from it on of all from it on
  pub by_first : (first : RrKey) (shared : ℕ) → is_gt (key_cmp x first) ≡ false → ((k : RrKey) → is_gt (key_cmp x k) ≡ false → Owned k → is_gt (key_cmp first k) ≡ false)
      → ((a : Name) → IsAbove a x.name → IsAtOrAbove a first.name → length a ≤ shared) → NoneBelowLonger m x.name shared (λ k. is_upto key_cmp x k)
  by_first first shared from least most = λ a k above below owned after.
      let upto : is_upto key_cmp first k ≡ true = not_after (key_cmp first k) (least k (not_greater (key_cmp x k) after) owned) in
      most a above
      (together a first.name k.name
      (upto_upto a x.name first.name (upto_at a x.name (at_from_above a x.name above)) (names_upto x first (not_after (key_cmp x first) from)))
      (names_upto first k upto) below)

  -- where there is none
  unowned : (k : RrKey) → set_at m k.name k.record_type.0 ≡ None → Owned k → ⊥
  unowned k none owned = true≢false (sym owned ∙ ap is_some none)

  pub by_none_before : ((k : RrKey) → key_cmp k x ≡ Less → set_at m k.name k.record_type.0 ≡ None) → NoneBelowLonger m x.name 0 (λ k. is_before key_cmp k x)
  by_none_before none = λ a k above below owned before. absurd (unowned k (none k (less_test (key_cmp k x) before)) owned)

  pub by_none_after : ((k : RrKey) → is_gt (key_cmp x k) ≡ false → set_at m k.name k.record_type.0 ≡ None) → NoneBelowLonger m x.name 0 (λ k. is_upto key_cmp x k)
  by_none_after none = λ a k above below owned after. absurd (unowned k (none k (not_greater (key_cmp x k) after)) owned)

  -- ---- what no key is at or below doesn't exist

  after_or_before : (k : RrKey) → (is_before key_cmp k x ≡ true) ⊎ (is_upto key_cmp x k ≡ true)
  after_or_before k = by (is_before key_cmp k x) refl
    where
      by : (b : Bool) → is_before key_cmp k x ≡ b → (is_before key_cmp k x ≡ true) ⊎ (is_upto key_cmp x k ≡ true)
      by true e = inl e
      by false e = inr (upto_from_not_before key_order x k (λ l. true≢false (sym (ap is_lt l) ∙ e)))

  pub none_exists : (before after count : ℕ) → before ≤ count → after ≤ count → NoneBelowLonger m x.name before (λ k. is_before key_cmp k x) → NoneBelowLonger m x.name after (λ k. is_upto key_cmp x k)
      → NoLongerExists m x.name count
  none_exists before after count h k none_before none_after = λ a above longer. by a above longer (exists m a) refl
    where
      by : (a : Name) → IsAbove a x.name → count < length a → (b : Bool) → exists m a ≡ b → b ≡ false
      by a above longer false e = refl
      by a above longer true e =
          let shown = In-from_any (λ (j : RrKey). is_at_or_above a j.name && not (is_denial_type j.record_type.0)) (keys_of m) e in
          let entry = In-from_map (λ (d : RrKey × RRset). d.0) shown.0 m shown.1 in
          let owned : Owned shown.0 = entry_owned m shown.0.name shown.0.record_type.0 entry.0 entry.1 entry.2 in
          let below : IsAtOrAbove a shown.0.name = is_at_or_above_sound a shown.0.name (and_left (is_at_or_above a shown.0.name) (not (is_denial_type shown.0.record_type.0)) shown.2) in
          absurd (of shown.0 (after_or_before shown.0) owned below)
        where
          of : (j : RrKey) → (is_before key_cmp j x ≡ true) ⊎ (is_upto key_cmp x j ≡ true) → Owned j → IsAtOrAbove a j.name → ⊥
          of j (inl e) owned below = let few : length a ≤ before = none_before a j above below owned e in omega (arith, h)
          of j (inr e) owned below = let few : length a ≤ after = none_after a j above below owned e in omega (arith, k)

  -- nor does it own a set, where the keys before the name are all that count
  pub none_owns : (before count : ℕ) → before ≤ count → NoneBelowLonger m x.name before (λ k. is_before key_cmp k x) → NoLongerOwns m x.name count
  none_owns before count h none_before = λ a t above longer. by a t above longer (set_at m a t) refl
    where
      less : (a : Name) (t : ℕ) → IsAbove a x.name → is_before key_cmp (key a t) x ≡ true
      less a t above = ap (λ o. is_lt (ordering_then o (nat_cmp t x.record_type.0))) (above_is_less a x.name above)

      by : (a : Name) (t : ℕ) → IsAbove a x.name → count < length a → (o : Option RRset) → set_at m a t ≡ o → o ≡ None
      by a t above longer None e = refl
      by a t above longer (Some s) e =
          let few : length a ≤ before = none_before a (key a t) above ([], refl) (ap is_some e) (less a t above) in
          absurd (omega (arith, h))

-- ---- the first and the last of a range

pub front : {A : Type 0} (P : A → Type 0) (e : A) (es r : List A) → r ≡ e ∷ es → IfSome (slice_get r 0) P → P e
front P e es r is h = subst (λ z. IfSome (slice_get z 0) P) is h

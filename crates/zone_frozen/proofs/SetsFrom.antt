-- Where the sets from a key on begin
use Rattle.std.proofs.Math.Seq.{take-suc}
use Rattle.std.proofs.Common.{◌≡◌, not, ◌++◌, ◌<◌, ◌+◌, ◌-◌, ◌≤◌, ◌&&◌, ℕ, zero, suc, Bool, true, false, cond, [], ◌∷◌, length, take, drop, refl, sym, ap, ◌∙◌, subst, true≢false, arith, ◌⊎◌, inl, inr, Ordering, Less, Equal, Greater}
use Rattle.std.specs.Prelude.{Option, Some, None}
use Rattle.std.specs.Ordering.{is_eq, is_le, is_lt, ordering_reverse}
use Rattle.std.specs.List.{AllByRecursion, HoldsAt, slice_get, slice_index_or}
use Rattle.std.specs.List.Sorted.{IsSortedBy, IsStrictlySortedBy, IsPartitionPoint}
use Rattle.std.specs.BTreeMap.Range.{entries_between}
use Rattle.std.specs.Map.{keys_of, lookup}
use Rattle.std.specs.declared.ops.Bound.TheVariants.{Unbounded}
use Rattle.std.proofs.lemmas.List.{get_or_default, length-drop}
use Rattle.std.proofs.lemmas.Map.Keys.{sorted_head, sorted_tail}
use Rattle.zone_proto.specs.declared.rr_key.RrKey.{RrKey}
use Rattle.zone_proto.specs.Keys.{key_cmp, key_eq}
use Rattle.zone_proto.specs.Order.{is_upto}
use Rattle.zone_proto.specs.Sets.{RRset}
use Rattle.zone_proto.proofs.Ordering.KeyLaws.{key_cmp_total, exact_keys}
use Rattle.zone_proto.proofs.Ordering.KeyOrder.{equal_of, key_itself}
use Rattle.zone_proto.proofs.Ordering.Orders.{IsOrder, less_test, upto_cases, upto_before}
use Rattle.zone_frozen.specs.Sets.{Sets, sets_from, sets_upto, sets_before, StartsAt}

pub key_order : IsOrder key_cmp
key_order = record { total = key_cmp_total; exact = exact_keys }

-- each key stands before the next
ascends : (m : Sets) (j : ℕ) (d : RrKey × RRset) → IsStrictlySortedBy key_cmp (keys_of m) → suc j < length m → key_cmp (slice_index_or m j d).0 (slice_index_or m (suc j) d).0 ≡ Less
unfolding IsStrictlySortedBy
ascends [] j d s w = absurd (omega arith)
ascends (e ∷ []) j d s w = absurd (omega arith)
ascends (e ∷ f ∷ m) zero d s w = s.0.0
ascends (e ∷ f ∷ m) (suc j) d s w = ascends (f ∷ m) j d s.1 (omega arith)

module _ (k : RrKey) where
  upto_later : (e f : RrKey) → is_upto key_cmp k e ≡ true → key_cmp e f ≡ Less → is_upto key_cmp k f ≡ true
  upto_later e f h l = upto_before key_order k f (by (upto_cases key_order k e h))
    where
      by : (k ≡ e) ⊎ (key_cmp k e ≡ Less) → key_cmp k f ≡ Less
      by (inl s) = ap (λ j. key_cmp j f) s ∙ l
      by (inr b) = key_order.total.trans k e f b l

  all_kept : (e : RrKey) (es : Sets) → is_upto key_cmp k e ≡ true → AllByRecursion (λ j. key_cmp e j ≡ Less) (keys_of es) → sets_from es k ≡ es
  all_kept e [] h a = refl
  all_kept e (f ∷ es) h a = ap (λ b. cond b (f ∷ sets_from es k) (sets_from es k)) (ap (λ b. b && true) (upto_later e f.0 h a.0)) ∙ ap (λ x. f ∷ x) (all_kept e es h a.1)

  -- from the first key that isn't less, all are kept
  pub from_front : (e : RrKey × RRset) (es : Sets) → IsStrictlySortedBy key_cmp (keys_of (e ∷ es)) → is_upto key_cmp k e.0 ≡ true → sets_from (e ∷ es) k ≡ e ∷ es
  from_front e es sorted h =
      ap (λ b. cond b (e ∷ sets_from es k) (sets_from es k)) (ap (λ b. b && true) h)
      ∙ ap (λ x. e ∷ x) (all_kept e.0 es h (sorted_head key_cmp e.0 (keys_of es) sorted))

  -- a lesser one is passed over
  pub front_passed : (e : RrKey × RRset) (es : Sets) → key_cmp e.0 k ≡ Less → sets_from (e ∷ es) k ≡ sets_from es k
  front_passed e es h = ap (λ o. cond (is_le o && true) (e ∷ sets_from es k) (sets_from es k)) (key_order.total.antisymm k e.0 ∙ ap ordering_reverse h)

  -- a key before one that is less than k is less
  first_less : (e : RrKey × RRset) (es : Sets) (j : ℕ) (d : RrKey × RRset) → AllByRecursion (λ y. key_cmp e.0 y ≡ Less) (keys_of es) → j < length es
      → key_cmp (slice_index_or es j d).0 k ≡ Less → key_cmp e.0 k ≡ Less
  first_less e [] j d a within h = absurd (omega arith)
  first_less e (f ∷ es) zero d a within h = key_order.total.trans e.0 f.0 k a.0 h
  first_less e (f ∷ es) (suc j) d a within h = first_less e es j d a.1 (omega arith) h

  -- the sets from k on begin at a place where the set isn't less, and the one before it is
  pub begins : (m : Sets) (i : ℕ) → IsStrictlySortedBy key_cmp (keys_of m) → i < length m + 1
      → ((j : ℕ) (d : RrKey × RRset) → suc j ≡ i → key_cmp (slice_index_or m j d).0 k ≡ Less)
      → ((d : RrKey × RRset) → i < length m → is_upto key_cmp k (slice_index_or m i d).0 ≡ true)
      → drop i m ≡ sets_from m k
  begins [] zero sorted within before here = refl
  begins [] (suc i) sorted within before here = absurd (omega arith)
  begins (e ∷ m) zero sorted within before here = sym (from_front e m sorted (here e (omega arith)))
  begins (e ∷ m) (suc i) sorted within before here =
      begins m i (sorted_tail key_cmp e.0 (keys_of m) sorted) (omega arith) (λ j d is. before (suc j) d (ap suc is)) (λ d w. here d (omega arith))
      ∙ sym (front_passed e m (less i within before))
    where
      less : (n : ℕ) → suc n < length (e ∷ m) + 1 → ((j : ℕ) (d : RrKey × RRset) → suc j ≡ suc n → key_cmp (slice_index_or (e ∷ m) j d).0 k ≡ Less) → key_cmp e.0 k ≡ Less
      less zero w b = b zero e refl
      less (suc n) w b = first_less e m n e (sorted_head key_cmp e.0 (keys_of m) sorted) (omega arith) (b (suc n) e refl)

  -- the set under k is the first of those from k on, if it is there
  abbrev pub first_if : Sets → Option RRset
  first_if [] = None
  first_if (e ∷ es) = cond (key_eq e.0 k) (Some e.1) None

  pub nowhere : (e : RrKey) (es : Sets) → key_cmp k e ≡ Less → AllByRecursion (λ y. key_cmp e y ≡ Less) (keys_of es) → lookup (key_eq k) es ≡ None
  nowhere e [] h a = refl
  nowhere e (f ∷ es) h a = ap (λ o. cond (is_eq o) (Some f.1) (lookup (key_eq k) es)) (key_order.total.trans k e f.0 h a.0) ∙ nowhere e es h a.1

  reversed : (e : RrKey) (o : Ordering) → key_cmp k e ≡ o → key_cmp e k ≡ ordering_reverse o
  reversed e o is = key_order.total.antisymm e k ∙ ap ordering_reverse is

  found_at : (e : RrKey × RRset) (m : Sets) (o : Ordering) → key_cmp k e.0 ≡ o → IsStrictlySortedBy key_cmp (keys_of (e ∷ m)) → first_if (sets_from m k) ≡ lookup (key_eq k) m
      → first_if (sets_from (e ∷ m) k) ≡ lookup (key_eq k) (e ∷ m)
  found_at e m Less is sorted after =
      ap first_if (from_front e m sorted (ap is_le is)) ∙ ap (λ o. cond (is_eq o) (Some e.1) None) (reversed e.0 Less is)
      ∙ sym (ap (λ o. cond (is_eq o) (Some e.1) (lookup (key_eq k) m)) is ∙ nowhere e.0 m is (sorted_head key_cmp e.0 (keys_of m) sorted))
  found_at e m Equal is sorted after =
      ap first_if (from_front e m sorted (ap is_le is)) ∙ ap (λ o. cond (is_eq o) (Some e.1) None) (reversed e.0 Equal is)
      ∙ sym (ap (λ o. cond (is_eq o) (Some e.1) (lookup (key_eq k) m)) is)
  found_at e m Greater is sorted after =
      ap first_if (front_passed e m (reversed e.0 Greater is)) ∙ after
      ∙ sym (ap (λ o. cond (is_eq o) (Some e.1) (lookup (key_eq k) m)) is)

  pub found_first : (m : Sets) → IsStrictlySortedBy key_cmp (keys_of m) → first_if (sets_from m k) ≡ lookup (key_eq k) m
  found_first [] sorted = refl
  found_first (e ∷ m) sorted = found_at e m (key_cmp k e.0) refl sorted (found_first m (sorted_tail key_cmp e.0 (keys_of m) sorted))

  -- where the set at a place isn't k's, the first from there on isn't
  pub first_elsewhere : (m : Sets) (i : ℕ) → ((d : RrKey × RRset) → i < length m → key_eq (slice_index_or m i d).0 k ≡ false) → first_if (drop i m) ≡ None
  first_elsewhere [] zero h = refl
  first_elsewhere [] (suc i) h = refl
  first_elsewhere (e ∷ m) zero h = ap (λ b. cond b (Some e.1) None) (h e (omega arith))
  first_elsewhere (e ∷ m) (suc i) h = first_elsewhere m i (λ d w. h d (omega arith))

  -- a key that isn't less isn't before k
  pub upto_of : (e : RrKey) → is_lt (key_cmp e k) ≡ false → is_upto key_cmp k e ≡ true
  upto_of e h = ap is_le (key_order.total.antisymm k e) ∙ by (key_cmp e k) h
    where
      by : (o : Ordering) → is_lt o ≡ false → is_le (ordering_reverse o) ≡ true
      by Less g = absurd (true≢false g)
      by Equal g = refl
      by Greater g = refl

  pub less_of : (e : RrKey) → is_lt (key_cmp e k) ≡ true → key_cmp e k ≡ Less
  less_of e h = less_test (key_cmp e k) h

  -- what a look at the first of those from k on tells
  pub first_own : (rest : Sets) (e : RrKey × RRset) → slice_get rest 0 ≡ Some e → key_eq e.0 k ≡ true → Some e.1 ≡ first_if rest
  first_own [] e is h = absurd cc
  first_own (f ∷ rest) e is h = let same : f ≡ e = cc in sym (ap (λ (x : RrKey × RRset). cond (key_eq x.0 k) (Some x.1) None) same ∙ ap (λ b. cond b (Some e.1) None) h)

  pub first_other : (rest : Sets) (e : RrKey × RRset) → slice_get rest 0 ≡ Some e → key_eq e.0 k ≡ false → None ≡ first_if rest
  first_other [] e is h = absurd cc
  first_other (f ∷ rest) e is h = let same : f ≡ e = cc in sym (ap (λ (x : RrKey × RRset). cond (key_eq x.0 k) (Some x.1) None) same ∙ ap (λ b. cond b (Some e.1) None) h)

  pub first_none : (rest : Sets) → slice_get rest 0 ≡ None → None ≡ first_if rest
  first_none [] is = refl
  first_none (f ∷ rest) is = absurd cc

  -- what isn't before k is left out of the sets before it, and what is is kept
  before_left : (e : RrKey × RRset) (es : Sets) → is_upto key_cmp k e.0 ≡ true → sets_before (e ∷ es) k ≡ sets_before es k
  before_left e es h = ap (λ b. cond (not b) (e ∷ sets_before es k) (sets_before es k)) h

  before_kept : (e : RrKey × RRset) (es : Sets) → key_cmp e.0 k ≡ Less → sets_before (e ∷ es) k ≡ e ∷ sets_before es k
  before_kept e es h = ap (λ o. cond (not (is_le o)) (e ∷ sets_before es k) (sets_before es k)) (key_order.total.antisymm k e.0 ∙ ap ordering_reverse h)

  none_before : (e : RrKey) (es : Sets) → is_upto key_cmp k e ≡ true → AllByRecursion (λ y. key_cmp e y ≡ Less) (keys_of es) → sets_before es k ≡ []
  none_before e [] h a = refl
  none_before e (f ∷ es) h a = before_left f es (upto_later e f.0 h a.0) ∙ none_before e es h a.1

  -- the sets before k end at that place
  pub stops : (m : Sets) (i : ℕ) → IsStrictlySortedBy key_cmp (keys_of m) → i < length m + 1
      → ((j : ℕ) (d : RrKey × RRset) → suc j ≡ i → key_cmp (slice_index_or m j d).0 k ≡ Less)
      → ((d : RrKey × RRset) → i < length m → is_upto key_cmp k (slice_index_or m i d).0 ≡ true)
      → sets_before m k ≡ take i m
  stops [] zero sorted within before here = refl
  stops [] (suc i) sorted within before here = absurd (omega arith)
  stops (e ∷ m) zero sorted within before here =
      before_left e m (here e (omega arith)) ∙ none_before e.0 m (here e (omega arith)) (sorted_head key_cmp e.0 (keys_of m) sorted)
  stops (e ∷ m) (suc i) sorted within before here =
      before_kept e m (less i within before)
      ∙ ap (λ x. e ∷ x) (stops m i (sorted_tail key_cmp e.0 (keys_of m) sorted) (omega arith) (λ j d is. before (suc j) d (ap suc is)) (λ d w. here d (omega arith)))
    where
      less : (n : ℕ) → suc n < length (e ∷ m) + 1 → ((j : ℕ) (d : RrKey × RRset) → suc j ≡ suc n → key_cmp (slice_index_or (e ∷ m) j d).0 k ≡ Less) → key_cmp e.0 k ≡ Less
      less zero w b = b zero e refl
      less (suc n) w b = first_less e m n e (sorted_head key_cmp e.0 (keys_of m) sorted) (omega arith) (b (suc n) e refl)

  -- where a binary search ends: at k
  pub equal_start : (m : Sets) (i : ℕ) → IsStrictlySortedBy key_cmp (keys_of m) → i < length m → HoldsAt (λ (e : RrKey × RRset). key_cmp e.0 k ≡ Equal) m i → StartsAt m k i
  equal_start m i sorted within at =
      record { within = omega arith; before = λ some d. less (i - 1) d (omega arith); here = λ w d. same_upto (slice_index_or m i d).0 (at d) }
    where
      same_upto : (e : RrKey) → key_cmp e k ≡ Equal → is_upto key_cmp k e ≡ true
      same_upto e h = ap is_le (key_order.total.antisymm k e ∙ ap ordering_reverse h)

      less : (j : ℕ) (d : RrKey × RRset) → suc j ≡ i → key_cmp (slice_index_or m j d).0 k ≡ Less
      less j d is =
          subst (λ q. key_cmp (slice_index_or m j d).0 q ≡ Less) (exact_keys (slice_index_or m i d).0 k (at d))
          (subst (λ n. key_cmp (slice_index_or m j d).0 (slice_index_or m n d).0 ≡ Less) is (ascends m j d sorted (omega arith)))

  -- or between those before k and those after it
  pub parted_start : (m : Sets) (i : ℕ) → IsStrictlySortedBy key_cmp (keys_of m) → i ≤ length m
      → IsPartitionPoint (λ (e : RrKey × RRset). key_cmp e.0 k ≡ Less) (λ (e : RrKey × RRset). key_cmp e.0 k ≡ Greater) m i → StartsAt m k i
  parted_start m i sorted within parted =
      record {
        within = within;
        before = λ some d. parted.0 (i - 1) d (omega arith) (omega arith);
        here = λ w d. after (slice_index_or m i d).0 (parted.1 i d (omega arith) w);
      }
    where
      after : (e : RrKey) → key_cmp e k ≡ Greater → is_upto key_cmp k e ≡ true
      after e h = ap is_le (key_order.total.antisymm k e ∙ ap ordering_reverse h)

module _ (k : RrKey) where
  -- what isn't behind k is kept, and what is is left out
  upto_kept : (e : RrKey × RRset) (es : Sets) → is_lt (key_cmp k e.0) ≡ false → sets_upto (e ∷ es) k ≡ e ∷ sets_upto es k
  upto_kept e es h = ap (λ b. cond (not b) (e ∷ sets_upto es k) (sets_upto es k)) h

  upto_left : (e : RrKey × RRset) (es : Sets) → key_cmp k e.0 ≡ Less → sets_upto (e ∷ es) k ≡ sets_upto es k
  upto_left e es h = ap (λ o. cond (not (is_lt o)) (e ∷ sets_upto es k) (sets_upto es k)) h

  none_upto : (e : RrKey × RRset) (es : Sets) → key_cmp k e.0 ≡ Less → AllByRecursion (λ y. key_cmp e.0 y ≡ Less) (keys_of es) → sets_upto es k ≡ []
  none_upto e [] h a = refl
  none_upto e (f ∷ es) h a = upto_left f es (key_order.total.trans k e.0 f.0 h a.0) ∙ none_upto e es h a.1

  -- a key before one that isn't behind k isn't behind it
  first_upto : (e : RrKey × RRset) (es : Sets) (j : ℕ) (d : RrKey × RRset) → AllByRecursion (λ y. key_cmp e.0 y ≡ Less) (keys_of es) → j < length es
      → is_lt (key_cmp k (slice_index_or es j d).0) ≡ false → is_lt (key_cmp k e.0) ≡ false
  first_upto e [] j d a within h = absurd (omega arith)
  first_upto e (f ∷ es) zero d a within h = by (key_cmp k e.0) refl
    where
      by : (o : Ordering) → key_cmp k e.0 ≡ o → is_lt (key_cmp k e.0) ≡ false
      by Less g = absurd (true≢false (sym (ap is_lt (key_order.total.trans k e.0 f.0 g a.0)) ∙ h))
      by Equal g = ap is_lt g
      by Greater g = ap is_lt g
  first_upto e (f ∷ es) (suc j) d a within h = first_upto e es j d a.1 (omega arith) h

  -- the sets up to k end at a place where the set is behind k, and the one before it isn't
  pub ends : (m : Sets) (i : ℕ) → IsStrictlySortedBy key_cmp (keys_of m) → i < length m + 1
      → ((j : ℕ) (d : RrKey × RRset) → suc j ≡ i → is_lt (key_cmp k (slice_index_or m j d).0) ≡ false)
      → ((d : RrKey × RRset) → i < length m → key_cmp k (slice_index_or m i d).0 ≡ Less)
      → sets_upto m k ≡ take i m
  ends [] zero sorted within before after = refl
  ends [] (suc i) sorted within before after = absurd (omega arith)
  ends (e ∷ m) zero sorted within before after =
      upto_left e m (after e (omega arith)) ∙ none_upto e m (after e (omega arith)) (sorted_head key_cmp e.0 (keys_of m) sorted)
  ends (e ∷ m) (suc i) sorted within before after =
      upto_kept e m (kept i within before)
      ∙ ap (λ x. e ∷ x) (ends m i (sorted_tail key_cmp e.0 (keys_of m) sorted) (omega arith) (λ j d is. before (suc j) d (ap suc is)) (λ d w. after d (omega arith)))
    where
      kept : (n : ℕ) → suc n < length (e ∷ m) + 1 → ((j : ℕ) (d : RrKey × RRset) → suc j ≡ suc n → is_lt (key_cmp k (slice_index_or (e ∷ m) j d).0) ≡ false) → is_lt (key_cmp k e.0) ≡ false
      kept zero w b = b zero e refl
      kept (suc n) w b = first_upto e m n e (sorted_head key_cmp e.0 (keys_of m) sorted) (omega arith) (b (suc n) e refl)

  -- where a binary search ends: at k
  pub equal_end : (m : Sets) (i : ℕ) → IsStrictlySortedBy key_cmp (keys_of m) → i < length m → HoldsAt (λ (e : RrKey × RRset). key_cmp e.0 k ≡ Equal) m i → sets_upto m k ≡ take (i + 1) m
  equal_end m i sorted within at = ends m (i + 1) sorted (omega arith) before after
    where
      same : (d : RrKey × RRset) → (slice_index_or m i d).0 ≡ k
      same d = exact_keys (slice_index_or m i d).0 k (at d)

      before : (j : ℕ) (d : RrKey × RRset) → suc j ≡ i + 1 → is_lt (key_cmp k (slice_index_or m j d).0) ≡ false
      before j d is =
          let here : j ≡ i = omega arith in
          ap (λ n. is_lt (key_cmp k (slice_index_or m n d).0)) here ∙ ap is_lt (key_order.total.antisymm k (slice_index_or m i d).0 ∙ ap ordering_reverse (at d))

      after : (d : RrKey × RRset) → i + 1 < length m → key_cmp k (slice_index_or m (i + 1) d).0 ≡ Less
      after d w =
          let next : suc i ≡ i + 1 = omega arith in
          subst (λ n. key_cmp k (slice_index_or m n d).0 ≡ Less) next
          (subst (λ q. key_cmp q (slice_index_or m (suc i) d).0 ≡ Less) (same d) (ascends m i d sorted (omega arith)))

-- what a place where the sets from k on start tells
module _ (k : RrKey) (m : Sets) (i : ℕ) (sorted : IsStrictlySortedBy key_cmp (keys_of m)) (s : StartsAt m k i) where
  before : (j : ℕ) (d : RrKey × RRset) → suc j ≡ i → key_cmp (slice_index_or m j d).0 k ≡ Less
  before j d is = let same : i - 1 ≡ j = omega arith in subst (λ n. key_cmp (slice_index_or m n d).0 k ≡ Less) same (s.before (omega arith) d)

  pub from_start : drop i m ≡ sets_from m k
  from_start = begins k m i sorted (omega (arith, s.within)) before (λ d w. s.here w d)

  pub before_start : sets_before m k ≡ take i m
  before_start = stops k m i sorted (omega (arith, s.within)) before (λ d w. s.here w d)

  -- the set there is the one under k, or is behind it
  pub upto_place : (e : RrKey × RRset) → i < length m → key_eq (slice_index_or m i e).0 k ≡ true → sets_upto m k ≡ take (i + 1) m
  upto_place e w h =
      equal_end k m i sorted w (λ d. equal_of _ (ap (λ (x : RrKey × RRset). key_eq x.0 k) (get_or_default m i d e w) ∙ h))

  pub upto_start : ((d : RrKey × RRset) → i < length m → key_eq (slice_index_or m i d).0 k ≡ false) → sets_upto m k ≡ take i m
  upto_start other =
      ends k m i sorted (omega (arith, s.within)) (λ j d is. ap is_lt (key_order.total.antisymm k (slice_index_or m j d).0 ∙ ap ordering_reverse (before j d is)))
      (λ d w. behind (slice_index_or m i d).0 (s.here w d) (other d w))
    where
      behind : (e : RrKey) → is_upto key_cmp k e ≡ true → key_eq e k ≡ false → key_cmp k e ≡ Less
      behind e h o = by (upto_cases key_order k e h)
        where
          by : (k ≡ e) ⊎ (key_cmp k e ≡ Less) → key_cmp k e ≡ Less
          by (inl same) = absurd (true≢false (sym (ap (λ q. key_eq q k) (sym same) ∙ key_itself k) ∙ o))
          by (inr less) = less

pub last_taken : (m : Sets) (i : ℕ) (d : RrKey × RRset) → i ≤ length m → (i ≡ zero → ⊥) → (front : Sets) × (take i m ≡ front ++ slice_index_or m (i - 1) d ∷ [])
last_taken m zero d within some = absurd (some refl)
last_taken m (suc j) d within some =
    let there : j ≡ suc j - 1 = omega arith in
    (take j m, take-suc m j d (omega arith) ∙ ap (λ n. take j m ++ slice_index_or m n d ∷ []) there)

take_all : (m : Sets) (n : ℕ) → length m ≡ n → take n m ≡ m
take_all [] zero is = refl
take_all [] (suc n) is = refl
take_all (e ∷ m) zero is = absurd (omega arith)
take_all (e ∷ m) (suc n) is = ap (λ x. e ∷ x) (take_all m n (omega arith))

pub whole : (m : Sets) (i : ℕ) → take (length m - i) (drop i m) ≡ drop i m
whole m i = take_all (drop i m) (length m - i) (length-drop i m)

abbrev pub is_before : RrKey × RRset → RrKey × RRset → Bool
is_before x y = is_lt (key_cmp x.0 y.0)

pub searchable : (es : Sets) → IsStrictlySortedBy key_cmp (keys_of es) → IsSortedBy is_before es
unfolding IsStrictlySortedBy
searchable [] s k d low within = absurd (omega arith)
searchable (e ∷ []) s k d low within = absurd (omega arith)
searchable (e ∷ f ∷ es) s zero d low within = ap is_lt (key_cmp_total.antisymm f.0 e.0 ∙ ap ordering_reverse s.0.0)
searchable (e ∷ f ∷ es) s (suc k) d low within =
    let next : suc (k + 1) ≡ suc k + 1 = omega arith in
    subst (λ n. is_before (slice_index_or (e ∷ f ∷ es) n d) (slice_index_or (f ∷ es) k d) ≡ false) next (searchable (f ∷ es) s.1 k d (omega arith) (omega arith))

-- where the sets are parted by k, none is under it
pub absent_parted : (k : RrKey) (m : Sets) (i : ℕ) → IsStrictlySortedBy key_cmp (keys_of m) → i ≤ length m
    → IsPartitionPoint (λ (e : RrKey × RRset). key_cmp e.0 k ≡ Less) (λ (e : RrKey × RRset). key_cmp e.0 k ≡ Greater) m i → lookup (key_eq k) m ≡ None
absent_parted k m i sorted within parted =
    sym (found_first k m sorted) ∙ ap (first_if k) (sym (from_start k m i sorted (parted_start k m i sorted within parted)))
    ∙ first_elsewhere k m i (λ d w. ap is_eq (parted.1 i d (omega arith) w))

-- all sets are between no bounds
pub whole_range : (m : Sets) → entries_between key_cmp Unbounded Unbounded m ≡ m
whole_range [] = refl
whole_range (e ∷ m) = ap (λ x. e ∷ x) (whole_range m)

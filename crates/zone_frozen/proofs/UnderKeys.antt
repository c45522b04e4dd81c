-- A change of the set at the place of a key is a change of the one under the key
use Rattle.std.proofs.Common.{Bor, ◌≡◌, ◌<◌, ℕ, zero, suc, Bool, true, false, cond, [], ◌∷◌, length, refl, sym, ap, ◌∙◌, subst, true≢false, arith, Ordering, Less, Equal, Greater}
use Rattle.std.specs.Prelude.{Option, Some, None, IfSome, is_some, option_copied, if◌then◌else◌}
use Rattle.std.specs.BTreeMap.{insert_entry}
use Rattle.std.specs.Ordering.{is_eq, match_ordering, ordering_reverse}
use Rattle.std.specs.List.{AllByRecursion, remove, slice_index_or, slice_set}
use Rattle.std.specs.List.Sorted.{IsStrictlySortedBy}
use Rattle.std.specs.Map.{keys_of, lookup, remove_entry, set_value}
use Rattle.std.specs.Cmp.{eq_by_cmp_equiv}
use Rattle.std.proofs.lemmas.Map.{keys-set_value, lookup-none}
use Rattle.std.proofs.lemmas.Map.Entries.{none_past_head}
use Rattle.std.proofs.lemmas.Map.Keys.{sorted_head, sorted_tail, IsDistinct-from_sorted}
use Rattle.zone_proto.specs.declared.rr_key.RrKey.{RrKey}
use Rattle.zone_proto.specs.Keys.{key_cmp, key_eq}
use Rattle.zone_proto.specs.Sets.{RRset}
use Rattle.zone_proto.specs.Stepping.{stepped}
use Rattle.zone_proto.proofs.Ordering.KeyLaws.{key_cmp_total, exact_keys}
use Rattle.zone_proto.proofs.Ordering.KeyOrder.{key_itself}
use Rattle.zone_frozen.specs.Sets.{Sets, with_step}
use Rattle.zone_frozen.proofs.SetsFrom.{key_order, nowhere}

-- a key before one that is k isn't k
before_place : (k e : RrKey) (es : Sets) (i : ℕ) (d : RrKey × RRset) → AllByRecursion (λ y. key_cmp e y ≡ Less) (keys_of es) → i < length es
    → (slice_index_or es i d).0 ≡ k → key_eq k e ≡ false
before_place k e [] i d a within is = absurd (omega arith)
before_place k e (f ∷ es) zero d a within is =
    ap (λ q. key_eq q e) (sym is) ∙ ap is_eq (key_order.total.antisymm f.0 e ∙ ap ordering_reverse a.0)
before_place k e (f ∷ es) (suc i) d a within is = before_place k e es i d a.1 (omega arith) is

module _ (k : RrKey) where
  pub found_at_place : (m : Sets) (i : ℕ) (d : RrKey × RRset) → IsStrictlySortedBy key_cmp (keys_of m) → i < length m → (slice_index_or m i d).0 ≡ k
      → lookup (key_eq k) m ≡ Some (slice_index_or m i d).1
  found_at_place [] i d sorted within is = absurd (omega arith)
  found_at_place (e ∷ m) zero d sorted within is = ap (λ b. cond b (Some e.1) (lookup (key_eq k) m)) (ap (key_eq k) is ∙ key_itself k)
  found_at_place (e ∷ m) (suc i) d sorted within is =
      ap (λ b. cond b (Some e.1) (lookup (key_eq k) m)) (before_place k e.0 m i d (sorted_head key_cmp e.0 (keys_of m) sorted) (omega arith) is)
      ∙ found_at_place m i d (sorted_tail key_cmp e.0 (keys_of m) sorted) (omega arith) is

  pub removed_at_place : (m : Sets) (i : ℕ) (d : RrKey × RRset) → IsStrictlySortedBy key_cmp (keys_of m) → i < length m → (slice_index_or m i d).0 ≡ k
      → remove m i ≡ remove_entry (key_eq k) m
  removed_at_place [] i d sorted within is = absurd (omega arith)
  removed_at_place (e ∷ m) zero d sorted within is = sym (ap (λ b. cond b m (e ∷ remove_entry (key_eq k) m)) (ap (key_eq k) is ∙ key_itself k))
  removed_at_place (e ∷ m) (suc i) d sorted within is =
      ap (λ x. e ∷ x) (removed_at_place m i d (sorted_tail key_cmp e.0 (keys_of m) sorted) (omega arith) is)
      ∙ sym (ap (λ b. cond b m (e ∷ remove_entry (key_eq k) m)) (before_place k e.0 m i d (sorted_head key_cmp e.0 (keys_of m) sorted) (omega arith) is))

  pub set_at_place : (m : Sets) (i : ℕ) (d : RrKey × RRset) (w : RRset) → IsStrictlySortedBy key_cmp (keys_of m) → i < length m → (slice_index_or m i d).0 ≡ k
      → slice_set m i ((slice_index_or m i d).0, w) ≡ set_value (key_eq k) m w
  set_at_place [] i d w sorted within is = absurd (omega arith)
  set_at_place (e ∷ m) zero d w sorted within is = sym (ap (λ b. cond b ((e.0, w) ∷ m) (e ∷ set_value (key_eq k) m w)) (ap (key_eq k) is ∙ key_itself k))
  set_at_place (e ∷ m) (suc i) d w sorted within is =
      ap (λ x. e ∷ x) (set_at_place m i d w (sorted_tail key_cmp e.0 (keys_of m) sorted) (omega arith) is)
      ∙ sym (ap (λ b. cond b ((e.0, w) ∷ m) (e ∷ set_value (key_eq k) m w)) (before_place k e.0 m i d (sorted_head key_cmp e.0 (keys_of m) sorted) (omega arith) is))

  -- where no set is under k, a change of it changes nothing
  pub removed_absent : (m : Sets) → lookup (key_eq k) m ≡ None → remove_entry (key_eq k) m ≡ m
  removed_absent [] h = refl
  removed_absent (e ∷ m) h = by (key_eq k e.0) h (removed_absent m)
    where
      by : (b : Bool) → cond b (Some e.1) (lookup (key_eq k) m) ≡ None → (lookup (key_eq k) m ≡ None → remove_entry (key_eq k) m ≡ m) → cond b m (e ∷ remove_entry (key_eq k) m) ≡ e ∷ m
      by true h i = absurd cc
      by false h i = ap (λ x. e ∷ x) (i h)

  pub set_absent : (m : Sets) (w : RRset) → lookup (key_eq k) m ≡ None → set_value (key_eq k) m w ≡ m
  set_absent [] w h = refl
  set_absent (e ∷ m) w h = by (key_eq k e.0) h (set_absent m w)
    where
      by : (b : Bool) → cond b (Some e.1) (lookup (key_eq k) m) ≡ None → (lookup (key_eq k) m ≡ None → set_value (key_eq k) m w ≡ m)
          → cond b ((e.0, w) ∷ m) (e ∷ set_value (key_eq k) m w) ≡ e ∷ m
      by true h i = absurd cc
      by false h i = ap (λ x. e ∷ x) (i h)

  pub stepped_absent : (m : Sets) → lookup (key_eq k) m ≡ None → with_step k m ≡ m
  stepped_absent [] h = refl
  stepped_absent (e ∷ m) h = by (key_eq k e.0) h (stepped_absent m)
    where
      by : (b : Bool) → cond b (Some e.1) (lookup (key_eq k) m) ≡ None → (lookup (key_eq k) m ≡ None → with_step k m ≡ m)
          → (e.0, if b then stepped e.1 else e.1) ∷ with_step k m ≡ e ∷ m
      by true h i = absurd cc
      by false h i = ap (λ (x : Sets). e ∷ x) (i h)

  -- else the set there has the next serial, and no other, as no key is there twice
  pub stepped_found : (m : Sets) (s : RRset) → IsStrictlySortedBy key_cmp (keys_of m) → lookup (key_eq k) m ≡ Some s → set_value (key_eq k) m (stepped s) ≡ with_step k m
  stepped_found [] s sorted h = refl
  stepped_found (e ∷ m) s sorted h = by (key_eq k e.0) refl h (λ g. stepped_found m s (sorted_tail key_cmp e.0 (keys_of m) sorted) g)
    where
      by : (b : Bool) → key_eq k e.0 ≡ b → cond b (Some e.1) (lookup (key_eq k) m) ≡ Some s
          → (lookup (key_eq k) m ≡ Some s → set_value (key_eq k) m (stepped s) ≡ with_step k m)
          → cond b ((e.0, stepped s) ∷ m) (e ∷ set_value (key_eq k) m (stepped s)) ≡ (e.0, if b then stepped e.1 else e.1) ∷ with_step k m
      by true g h i =
          let same : s ≡ e.1 = cc in
          let others = none_past_head (eq_by_cmp_equiv key_cmp_total) k e m (IsDistinct-from_sorted key_cmp _ sorted) g in
          ap (λ (v : RRset). (e.0, stepped v) ∷ m) same
          ∙ ap (λ (rest : Sets). (e.0, stepped e.1) ∷ rest) (sym (stepped_absent m (lookup-none (key_eq k) m others)))
      by false g h i = ap (λ (rest : Sets). e ∷ rest) (i h)

  -- a set that is put under a key that has one comes in its place
  pub put_found : (m : Sets) (w : RRset) → IsStrictlySortedBy key_cmp (keys_of m) → is_some (lookup (key_eq k) m) ≡ true → insert_entry key_cmp m k w ≡ set_value (key_eq k) m w
  put_found [] w sorted h = absurd cc
  put_found (e ∷ m) w sorted h = by (key_cmp k e.0) refl h (λ g. put_found m w (sorted_tail key_cmp e.0 (keys_of m) sorted) g)
    where
      by : (o : Ordering) → key_cmp k e.0 ≡ o → is_some (cond (is_eq o) (Some e.1) (lookup (key_eq k) m)) ≡ true
          → (is_some (lookup (key_eq k) m) ≡ true → insert_entry key_cmp m k w ≡ set_value (key_eq k) m w)
          → match_ordering o ((k, w) ∷ e ∷ m) ((e.0, w) ∷ m) (e ∷ insert_entry key_cmp m k w) ≡ cond (is_eq o) ((e.0, w) ∷ m) (e ∷ set_value (key_eq k) m w)
      by Less g h i =
          let none : lookup (key_eq k) m ≡ None = nowhere k e.0 m g (sorted_head key_cmp e.0 (keys_of m) sorted) in
          absurd (true≢false (sym h ∙ ap is_some none))
      by Equal g h i = refl
      by Greater g h i = ap (λ (x : Sets). e ∷ x) (i h)

  -- the keys stay in order
  pub sorted_set : (m : Sets) (w : RRset) → IsStrictlySortedBy key_cmp (keys_of m) → IsStrictlySortedBy key_cmp (keys_of (set_value (key_eq k) m w))
  sorted_set m w sorted = subst (IsStrictlySortedBy key_cmp) (sym (keys-set_value (key_eq k) m w)) sorted

  keys_stepped : (m : Sets) → keys_of (with_step k m) ≡ keys_of m
  keys_stepped [] = refl
  keys_stepped (e ∷ m) = ap (λ x. e.0 ∷ x) (keys_stepped m)

  pub sorted_step : (m : Sets) → IsStrictlySortedBy key_cmp (keys_of m) → IsStrictlySortedBy key_cmp (keys_of (with_step k m))
  sorted_step m sorted = subst (IsStrictlySortedBy key_cmp) (sym (keys_stepped m)) sorted

  others_without : (P : RrKey → Type 0) (m : Sets) → AllByRecursion P (keys_of m) → AllByRecursion P (keys_of (remove_entry (key_eq k) m))
  others_without P [] a = tt
  others_without P (e ∷ m) a = by (key_eq k e.0) (others_without P m a.1)
    where
      by : (b : Bool) → AllByRecursion P (keys_of (remove_entry (key_eq k) m)) → AllByRecursion P (keys_of (cond b m (e ∷ remove_entry (key_eq k) m)))
      by true i = a.1
      by false i = (a.0, i)

  pub sorted_without : (m : Sets) → IsStrictlySortedBy key_cmp (keys_of m) → IsStrictlySortedBy key_cmp (keys_of (remove_entry (key_eq k) m))
  unfolding IsStrictlySortedBy
  sorted_without [] sorted = tt
  sorted_without (e ∷ m) sorted = by (key_eq k e.0) (sorted_without m sorted.1)
    where
      by : (b : Bool) → IsStrictlySortedBy key_cmp (keys_of (remove_entry (key_eq k) m)) → IsStrictlySortedBy key_cmp (keys_of (cond b m (e ∷ remove_entry (key_eq k) m)))
      by true i = sorted.1
      by false i = (others_without (λ y. key_cmp e.0 y ≡ Less) m sorted.0, i)

-- a key that compares as equal is the same
pub same_key : (k : RrKey) (o : Option (RrKey × RRset)) → IfSome o (λ e. key_cmp k e.0 ≡ Equal) → IfSome o (λ e. e.0 ≡ k)
same_key k None h = tt
same_key k (Some e) h = sym (exact_keys k e.0 h)

pub is_some-copied : (o : Option (Bor RRset)) → is_some (option_copied o) ≡ is_some o
is_some-copied None = refl
is_some-copied (Some s) = refl

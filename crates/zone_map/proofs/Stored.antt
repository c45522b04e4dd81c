-- The sets of a zone stay those of a zone while sets are put in and taken out
use Rattle.std.proofs.Common.{◌≡◌, ℕ, Bool, true, false, cond, List, [], ◌∷◌, refl, sym, ap, ◌∙◌, subst, Ordering, Less, Equal, Greater}
use Rattle.std.specs.Prelude.{Option, Some, None}
use Rattle.std.specs.BTreeMap.{insert_entry}
use Rattle.std.specs.Cmp.{eq_by_cmp_equiv}
use Rattle.std.specs.List.{AllByRecursion}
use Rattle.std.specs.List.Sorted.{IsStrictlySortedBy}
use Rattle.std.specs.Map.{lookup, keys_of, remove_entry}
use Rattle.std.specs.Ordering.{is_eq, match_ordering, ordering_reverse}
use Rattle.std.proofs.lemmas.Map.{lookup-remove_entry}
use Rattle.std.proofs.lemmas.Map.Keys.{IsDistinct-from_sorted}
use Rattle.zone_proto.specs.declared.rr_key.RrKey.{RrKey}
use Rattle.zone_proto.specs.Keys.{key, key_cmp, key_eq}
use Rattle.zone_proto.specs.Names.{Name}
use Rattle.zone_proto.specs.Sets.{RRset}
use Rattle.zone_proto.proofs.Ordering.KeyLaws.{key_cmp_total}
use Rattle.zone_proto.proofs.Ordering.KeyOrder.{key_same, key_itself}
use Rattle.zone_map.specs.Zones.{Sets, set_at, put, without, IsStoredAt, IsZone}

-- ---- keys that ascend

pub all_above : (b k : RrKey) (ks : List RrKey) → key_cmp b k ≡ Less → AllByRecursion (λ q. key_cmp k q ≡ Less) ks → AllByRecursion (λ q. key_cmp b q ≡ Less) ks
all_above b k [] h a = tt
all_above b k (q ∷ ks) h a = (key_cmp_total.trans b k q h a.0, all_above b k ks h a.1)

above_put : (b : RrKey) (m : Sets) (k : RrKey) (v : RRset) → key_cmp b k ≡ Less → AllByRecursion (λ q. key_cmp b q ≡ Less) (keys_of m)
    → AllByRecursion (λ q. key_cmp b q ≡ Less) (keys_of (insert_entry key_cmp m k v))
above_put b [] k v h a = (h, tt)
above_put b (e ∷ m) k v h a = by (key_cmp k e.0) (above_put b m k v h a.1)
  where
    by : (o : Ordering) → AllByRecursion (λ q. key_cmp b q ≡ Less) (keys_of (insert_entry key_cmp m k v))
        → AllByRecursion (λ q. key_cmp b q ≡ Less) (keys_of (match_ordering o ((k, v) ∷ e ∷ m) ((e.0, v) ∷ m) (e ∷ insert_entry key_cmp m k v)))
    by Less i = (h, a)
    by Equal i = a
    by Greater i = (a.0, i)

pub sorted_put : (m : Sets) (k : RrKey) (v : RRset) → IsStrictlySortedBy key_cmp (keys_of m) → IsStrictlySortedBy key_cmp (keys_of (insert_entry key_cmp m k v))
unfolding IsStrictlySortedBy
sorted_put [] k v s = (tt, tt)
sorted_put (e ∷ m) k v s = by (key_cmp k e.0) refl (sorted_put m k v s.1)
  where
    by : (o : Ordering) → key_cmp k e.0 ≡ o → IsStrictlySortedBy key_cmp (keys_of (insert_entry key_cmp m k v))
        → IsStrictlySortedBy key_cmp (keys_of (match_ordering o ((k, v) ∷ e ∷ m) ((e.0, v) ∷ m) (e ∷ insert_entry key_cmp m k v)))
    by Less g i = ((g, all_above k e.0 (keys_of m) g s.0), s)
    by Equal g i = s
    by Greater g i = (above_put e.0 m k v (key_cmp_total.antisymm e.0 k ∙ ap ordering_reverse g) s.0, i)

above_without : (b k : RrKey) (m : Sets) → AllByRecursion (λ q. key_cmp b q ≡ Less) (keys_of m) → AllByRecursion (λ q. key_cmp b q ≡ Less) (keys_of (remove_entry (key_eq k) m))
above_without b k [] a = tt
above_without b k (e ∷ m) a = by (key_eq k e.0) (above_without b k m a.1)
  where
    by : (c : Bool) → AllByRecursion (λ q. key_cmp b q ≡ Less) (keys_of (remove_entry (key_eq k) m))
        → AllByRecursion (λ q. key_cmp b q ≡ Less) (keys_of (cond c m (e ∷ remove_entry (key_eq k) m)))
    by true i = a.1
    by false i = (a.0, i)

pub sorted_without : (k : RrKey) (m : Sets) → IsStrictlySortedBy key_cmp (keys_of m) → IsStrictlySortedBy key_cmp (keys_of (remove_entry (key_eq k) m))
unfolding IsStrictlySortedBy
sorted_without k [] s = tt
sorted_without k (e ∷ m) s = by (key_eq k e.0) (sorted_without k m s.1)
  where
    by : (c : Bool) → IsStrictlySortedBy key_cmp (keys_of (remove_entry (key_eq k) m)) → IsStrictlySortedBy key_cmp (keys_of (cond c m (e ∷ remove_entry (key_eq k) m)))
    by true i = s.1
    by false i = (above_without e.0 k m s.0, i)

-- ---- what a lookup finds where a set was put

pub put_found : (m : Sets) (k : RrKey) (v : RRset) → lookup (key_eq k) (insert_entry key_cmp m k v) ≡ Some v
put_found [] k v = ap (λ b. cond b (Some v) None) (key_itself k)
put_found (e ∷ m) k v = by (key_cmp k e.0) refl (put_found m k v)
  where
    by : (o : Ordering) → key_cmp k e.0 ≡ o → lookup (key_eq k) (insert_entry key_cmp m k v) ≡ Some v
        → lookup (key_eq k) (match_ordering o ((k, v) ∷ e ∷ m) ((e.0, v) ∷ m) (e ∷ insert_entry key_cmp m k v)) ≡ Some v
    by Less g i = ap (λ b. cond b (Some v) (lookup (key_eq k) (e ∷ m))) (key_itself k)
    by Equal g i = ap (λ b. cond b (Some v) (lookup (key_eq k) m)) (ap is_eq g)
    by Greater g i = ap (λ b. cond b (Some e.1) (lookup (key_eq k) (insert_entry key_cmp m k v))) (ap is_eq g) ∙ i

-- under any other key it finds what it found before
pub put_apart : (m : Sets) (k q : RrKey) (v : RRset) → key_eq q k ≡ false → lookup (key_eq q) (insert_entry key_cmp m k v) ≡ lookup (key_eq q) m
put_apart [] k q v h = ap (λ b. cond b (Some v) None) h
put_apart (e ∷ m) k q v h = by (key_cmp k e.0) refl (put_apart m k q v h)
  where
    by : (o : Ordering) → key_cmp k e.0 ≡ o → lookup (key_eq q) (insert_entry key_cmp m k v) ≡ lookup (key_eq q) m
        → lookup (key_eq q) (match_ordering o ((k, v) ∷ e ∷ m) ((e.0, v) ∷ m) (e ∷ insert_entry key_cmp m k v)) ≡ lookup (key_eq q) (e ∷ m)
    by Less g ih = ap (λ b. cond b (Some v) (lookup (key_eq q) (e ∷ m))) h
    by Equal g ih =
        let other : key_eq q e.0 ≡ false = sym (ap (key_eq q) (key_same k e.0 (ap is_eq g))) ∙ h in
        ap (λ b. cond b (Some v) (lookup (key_eq q) m)) other ∙ sym (ap (λ b. cond b (Some e.1) (lookup (key_eq q) m)) other)
    by Greater g ih = ap (cond (key_eq q e.0) (Some e.1)) ih

-- ---- the sets of a zone

pub IsZone-none : IsZone []
unfolding IsStrictlySortedBy
IsZone-none = record { ordered = tt; stored = λ n t s e. absurd cc }

-- a set put under its key
pub IsZone-put : (m : Sets) (k : RrKey) (v : RRset) → IsZone m → IsStoredAt k.name k.record_type.0 v → IsZone (put m k.name k.record_type.0 v)
IsZone-put m k v zone h = record { ordered = sorted_put m k v zone.ordered; stored = λ n t s e. by n t s e (key_eq (key n t) k) refl }
  where
    by : (n : Name) (t : ℕ) (s : RRset) → set_at (put m k.name k.record_type.0 v) n t ≡ Some s → (b : Bool) → key_eq (key n t) k ≡ b → IsStoredAt n t s
    by n t s e true g =
        let same : key n t ≡ k = key_same (key n t) k g in
        let found : Some v ≡ Some s = sym (put_found m k v) ∙ sym (ap (λ q. lookup (key_eq q) (insert_entry key_cmp m k v)) same) ∙ e in
        let stored : v ≡ s = cc in
        subst (λ (x : RRset). IsStoredAt n t x) stored (subst (λ (q : RrKey). IsStoredAt q.name q.record_type.0 v) (sym same) h)
    by n t s e false g = zone.stored n t s (sym (put_apart m k (key n t) v g) ∙ e)

-- a set taken out
pub IsZone-without : (m : Sets) (k : RrKey) → IsZone m → IsZone (without m k.name k.record_type.0)
IsZone-without m k zone = record { ordered = sorted_without k m zone.ordered; stored = λ n t s e. zone.stored n t s (kept (key_eq k (key n t)) (set_at m n t) s (sym (left (key n t)) ∙ e)) }
  where
    left : (q : RrKey) → lookup (key_eq q) (remove_entry (key_eq k) m) ≡ cond (key_eq k q) None (lookup (key_eq q) m)
    left q =
        lookup-remove_entry (eq_by_cmp_equiv key_cmp_total) (key_eq k) (λ x y e. ap (λ j. key_eq j y) (key_same k x e)) q m
        (IsDistinct-from_sorted key_cmp (keys_of m) zone.ordered)

    kept : (b : Bool) (o : Option RRset) (s : RRset) → cond b None o ≡ Some s → o ≡ Some s
    kept true o s h = cc
    kept false o s h = h

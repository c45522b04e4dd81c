-- The owners of a type while sets are put in and taken out: the lists that the index of the owners of denial keeps
use Rattle.std.proofs.Common.{◌≡◌, ◌==◌, eq-eqb, eqb-true, ℕ, Bool, not, true, false, cond, List, [], ◌∷◌, refl, sym, ap, ◌∙◌, true≢false, Ordering, Less, Equal, Greater}
use Rattle.std.specs.Prelude.{Option, Some, None, filter}
use Rattle.std.specs.BTreeMap.{insert_entry}
use Rattle.std.specs.BTreeMap.Range.{range_contains}
use Rattle.std.specs.BTreeSet.{BTreeSet, insert_key, IsFromIterResult}
use Rattle.std.specs.Cmp.{nat_cmp_total, nat_eq_equiv}
use Rattle.std.specs.List.{AllByRecursion, cons_option, list_any}
use Rattle.std.specs.List.Sorted.{IsStrictlySortedBy}
use Rattle.std.specs.Map.{lookup, keys_of, remove_entry}
use Rattle.std.specs.Ordering.{is_eq, is_le, is_lt, match_ordering, nat_cmp, ordering_reverse, ordering_then}
use Rattle.std.specs.Set.{remove_key}
use Rattle.std.specs.declared.ops.Bound.TheVariants.{Excluded, Included, Unbounded}
use Rattle.std.proofs.lemmas.Cmp.{tied_itself}
use Rattle.std.proofs.lemmas.Map.Keys.{sorted_head, sorted_tail}
use Rattle.std.proofs.lemmas.Map.Lookups.{btree_set_from_contains}
use Rattle.zone_proto.specs.declared.rr_key.RrKey.{RrKey}
use Rattle.zone_proto.specs.Keys.{key_cmp, key_eq}
use Rattle.zone_proto.specs.Names.{Name, name_cmp}
use Rattle.zone_proto.specs.Order.{is_before, is_upto}
use Rattle.zone_proto.specs.Sets.{RRset}
use Rattle.zone_proto.specs.Types.{NSEC, NSEC3}
use Rattle.zone_proto.proofs.Ordering.KeyOrder.{key_same}
use Rattle.zone_proto.proofs.Names.Tree.{name_order}
use Rattle.zone_map.specs.DenialOwners.{Owners, owners_of}
use Rattle.zone_map.specs.Zones.{Sets, owners}
use Rattle.zone_map.proofs.Lists.{owners_above, owners_ascend}
use Rattle.zone_map.proofs.Stored.{all_above}

-- the owner that an entry adds to those of a type
abbrev owner_of : ℕ → RrKey → Option Name
owner_of t k = cond (t == k.record_type.0) (Some k.name) None

-- ---- a set that is put in

above_first : (xs : List Name) (n : Name) → AllByRecursion (λ a. name_cmp n a ≡ Less) xs → insert_key name_cmp xs n ≡ n ∷ xs
above_first [] n a = refl
above_first (x ∷ xs) n a = ap (λ o. match_ordering o (n ∷ x ∷ xs) (x ∷ xs) (x ∷ insert_key name_cmp xs n)) a.0

-- of two keys of one type the names stand as the keys do
by_name : (a b : RrKey) (t : ℕ) → a.record_type.0 ≡ t → b.record_type.0 ≡ t → key_cmp a b ≡ name_cmp a.name b.name
by_name a b t e f = ap (ordering_then (name_cmp a.name b.name)) (ap (nat_cmp a.record_type.0) (f ∙ sym e) ∙ tied_itself nat_cmp_total a.record_type.0) ∙ alone (name_cmp a.name b.name)
  where
    alone : (o : Ordering) → ordering_then o Equal ≡ o
    alone Less = refl
    alone Equal = refl
    alone Greater = refl

same_type : (t u : ℕ) → (t == u) ≡ true → u ≡ t
same_type t u h = sym (eqb-true t u h)

-- its owner comes among those of its type
pub owner_put : (m : Sets) (k : RrKey) (v : RRset) (t : ℕ) → k.record_type.0 ≡ t → IsStrictlySortedBy key_cmp (keys_of m) → owners (insert_entry key_cmp m k v) t ≡ insert_key name_cmp (owners m t) k.name
owner_put [] k v t is s = ap (λ b. cons_option (cond b (Some k.name) None) []) (eq-eqb t k.record_type.0 (sym is))
owner_put (e ∷ m) k v t is s = by (key_cmp k e.0) refl (t == e.0.record_type.0) refl (owner_put m k v t is (sorted_tail key_cmp e.0 (keys_of m) s))
  where
    by : (o : Ordering) → key_cmp k e.0 ≡ o → (b : Bool) → (t == e.0.record_type.0) ≡ b → owners (insert_entry key_cmp m k v) t ≡ insert_key name_cmp (owners m t) k.name
        → owners (match_ordering o ((k, v) ∷ e ∷ m) ((e.0, v) ∷ m) (e ∷ insert_entry key_cmp m k v)) t ≡ insert_key name_cmp (owners (e ∷ m) t) k.name
    by Less g b q ih =
        ap (λ c. cons_option (cond c (Some k.name) None) (owners (e ∷ m) t)) (eq-eqb t k.record_type.0 (sym is))
        ∙ sym (above_first (owners (e ∷ m) t) k.name (owners_above t k (e ∷ m) is (above_all g)))
      where
        above_all : key_cmp k e.0 ≡ Less → AllByRecursion (λ q. key_cmp k q ≡ Less) (keys_of (e ∷ m))
        above_all g = (g, all_above k e.0 (keys_of m) g (sorted_head key_cmp e.0 (keys_of m) s))
    by Equal g true q ih =
        ap (λ c. cons_option (cond c (Some e.0.name) None) (owners m t)) q
        ∙ sym (ap (λ o. match_ordering o (k.name ∷ e.0.name ∷ owners m t) (e.0.name ∷ owners m t) (e.0.name ∷ insert_key name_cmp (owners m t) k.name)) (sym (by_name k e.0 t is (same_type t e.0.record_type.0 q)) ∙ g))
        ∙ ap (λ c. insert_key name_cmp (cons_option (cond c (Some e.0.name) None) (owners m t)) k.name) (sym q)
    by Equal g false q ih = absurd (true≢false (sym (eq-eqb t e.0.record_type.0 (sym is ∙ ap (λ (r : RrKey). r.record_type.0) (key_same k e.0 (ap is_eq g)))) ∙ q))
    by Greater g true q ih =
        ap (λ c. cons_option (cond c (Some e.0.name) None) (owners (insert_entry key_cmp m k v) t)) q
        ∙ ap (λ ns. e.0.name ∷ ns) ih
        ∙ sym (ap (λ o. match_ordering o (k.name ∷ e.0.name ∷ owners m t) (e.0.name ∷ owners m t) (e.0.name ∷ insert_key name_cmp (owners m t) k.name)) (sym (by_name k e.0 t is (same_type t e.0.record_type.0 q)) ∙ g))
        ∙ ap (λ c. insert_key name_cmp (cons_option (cond c (Some e.0.name) None) (owners m t)) k.name) (sym q)
    by Greater g false q ih =
        ap (λ c. cons_option (cond c (Some e.0.name) None) (owners (insert_entry key_cmp m k v) t)) q
        ∙ ih
        ∙ ap (λ c. insert_key name_cmp (cons_option (cond c (Some e.0.name) None) (owners m t)) k.name) (sym q)

-- and the owners of other types stay
pub other_put : (m : Sets) (k : RrKey) (v : RRset) (t : ℕ) → (t == k.record_type.0) ≡ false → owners (insert_entry key_cmp m k v) t ≡ owners m t
other_put [] k v t h = ap (λ b. cons_option (cond b (Some k.name) None) []) h
other_put (e ∷ m) k v t h = by (key_cmp k e.0) (other_put m k v t h)
  where
    by : (o : Ordering) → owners (insert_entry key_cmp m k v) t ≡ owners m t
        → owners (match_ordering o ((k, v) ∷ e ∷ m) ((e.0, v) ∷ m) (e ∷ insert_entry key_cmp m k v)) t ≡ owners (e ∷ m) t
    by Less ih = ap (λ b. cons_option (cond b (Some k.name) None) (owners (e ∷ m) t)) h
    by Equal ih = refl
    by Greater ih = ap (cons_option (owner_of t e.0)) ih

-- ---- a set that is taken out

pub owner_removed : (m : Sets) (k : RrKey) (t : ℕ) → k.record_type.0 ≡ t → owners (remove_entry (key_eq k) m) t ≡ remove_key (λ n. is_eq (name_cmp k.name n)) (owners m t)
owner_removed [] k t is = refl
owner_removed (e ∷ m) k t is = by (key_eq k e.0) refl (t == e.0.record_type.0) refl (owner_removed m k t is)
  where
    gone : List Name → List Name
    gone ns = remove_key (λ n. is_eq (name_cmp k.name n)) ns

    by : (b : Bool) → key_eq k e.0 ≡ b → (c : Bool) → (t == e.0.record_type.0) ≡ c → owners (remove_entry (key_eq k) m) t ≡ gone (owners m t)
        → owners (cond b m (e ∷ remove_entry (key_eq k) m)) t ≡ gone (owners (e ∷ m) t)
    by true g true q ih =
        sym (ap (λ c. cond c (owners m t) (e.0.name ∷ gone (owners m t))) (ap is_eq (sym (by_name k e.0 t is (same_type t e.0.record_type.0 q))) ∙ g))
        ∙ ap (λ c. gone (cons_option (cond c (Some e.0.name) None) (owners m t))) (sym q)
    by true g false q ih = absurd (true≢false (sym (eq-eqb t e.0.record_type.0 (sym is ∙ ap (λ (r : RrKey). r.record_type.0) (key_same k e.0 g))) ∙ q))
    by false g true q ih =
        ap (λ c. cons_option (cond c (Some e.0.name) None) (owners (remove_entry (key_eq k) m) t)) q
        ∙ ap (λ ns. e.0.name ∷ ns) ih
        ∙ sym (ap (λ c. cond c (owners m t) (e.0.name ∷ gone (owners m t))) (ap is_eq (sym (by_name k e.0 t is (same_type t e.0.record_type.0 q))) ∙ g))
        ∙ ap (λ c. gone (cons_option (cond c (Some e.0.name) None) (owners m t))) (sym q)
    by false g false q ih =
        ap (λ c. cons_option (cond c (Some e.0.name) None) (owners (remove_entry (key_eq k) m) t)) q
        ∙ ih
        ∙ ap (λ c. gone (cons_option (cond c (Some e.0.name) None) (owners m t))) (sym q)

pub other_removed : (m : Sets) (k : RrKey) (t : ℕ) → (t == k.record_type.0) ≡ false → owners (remove_entry (key_eq k) m) t ≡ owners m t
other_removed [] k t h = refl
other_removed (e ∷ m) k t h = by (key_eq k e.0) refl (other_removed m k t h)
  where
    by : (b : Bool) → key_eq k e.0 ≡ b → owners (remove_entry (key_eq k) m) t ≡ owners m t → owners (cond b m (e ∷ remove_entry (key_eq k) m)) t ≡ owners (e ∷ m) t
    by true g ih = ap (λ c. cons_option (cond c (Some e.0.name) None) (owners m t)) (sym (ap (λ (r : RrKey). t == r.record_type.0) (sym (key_same k e.0 g)) ∙ h))
    by false g ih = ap (cons_option (owner_of t e.0)) ih

-- a set that was put in where none was, taken out again
pub put_removed : (m : Sets) (k : RrKey) (v : RRset) → lookup (key_eq k) m ≡ None → key_eq k k ≡ true → remove_entry (key_eq k) (insert_entry key_cmp m k v) ≡ m
put_removed [] k v absent same = ap (λ b. cond b [] ((k, v) ∷ [])) same
put_removed (e ∷ m) k v absent same = by (key_cmp k e.0) refl absent (λ h. put_removed m k v h same)
  where
    by : (o : Ordering) → key_cmp k e.0 ≡ o → cond (is_eq o) (Some e.1) (lookup (key_eq k) m) ≡ None → (lookup (key_eq k) m ≡ None → remove_entry (key_eq k) (insert_entry key_cmp m k v) ≡ m)
        → remove_entry (key_eq k) (match_ordering o ((k, v) ∷ e ∷ m) ((e.0, v) ∷ m) (e ∷ insert_entry key_cmp m k v)) ≡ e ∷ m
    by Less g h ih = ap (λ b. cond b (e ∷ m) ((k, v) ∷ remove_entry (key_eq k) (e ∷ m))) same
    by Equal g h ih = absurd cc
    by Greater g h ih =
        ap (λ b. cond b (insert_entry key_cmp m k v) (e ∷ remove_entry (key_eq k) (insert_entry key_cmp m k v))) (ap is_eq g)
        ∙ ap (λ es. e ∷ es) (ih h)

-- ---- other changes

-- maps of the same keys have the same owners
pub owners_of_keys : (m n : Sets) (t : ℕ) → keys_of n ≡ keys_of m → owners n t ≡ owners m t
owners_of_keys [] [] t e = refl
owners_of_keys [] (f ∷ n) t e = absurd cc
owners_of_keys (d ∷ m) [] t e = absurd cc
owners_of_keys (d ∷ m) (f ∷ n) t e =
    let first : f.0 ≡ d.0 = cc in
    let rest : keys_of n ≡ keys_of m = cc in
    λ i. cons_option (owner_of t (first i)) (owners_of_keys m n t rest i)

-- the owners of a type, collected in their order
pub collected : (m : Sets) (t : ℕ) (names : List Name) (made : BTreeSet Name) → names ≡ owners m t → IsStrictlySortedBy key_cmp (keys_of m) → IsFromIterResult name_cmp names made → made.keys ≡ owners m t
collected m t names made is s from =
    btree_set_from_contains name_order.total made (record { keys = owners m t }) from.1 (owners_ascend m t s)
    (λ q. from.0 q ∙ ap (λ ns. list_any (λ n. is_eq (name_cmp q n)) ns) is) (λ a b. name_order.exact a b)

-- ---- both lists of the index

pub differs : (t u : ℕ) → (t == u) ≡ false → (u == t) ≡ false
differs t u h = nat_eq_equiv.symm u t ∙ h

pub nsec_put : (m : Sets) (k : RrKey) (v : RRset) (listed : Owners) (names : List Name) → k.record_type.0 ≡ NSEC → IsStrictlySortedBy key_cmp (keys_of m) → listed ≡ owners_of m
    → names ≡ insert_key name_cmp listed.nsec k.name → record { nsec = names; nsec3 = listed.nsec3 } ≡ owners_of (insert_entry key_cmp m k v)
nsec_put m k v listed names is s h made =
    let one : names ≡ owners (insert_entry key_cmp m k v) NSEC = made ∙ ap (λ (l : Owners). insert_key name_cmp l.nsec k.name) h ∙ sym (owner_put m k v NSEC is s) in
    let other : listed.nsec3 ≡ owners (insert_entry key_cmp m k v) NSEC3 = ap (λ (l : Owners). l.nsec3) h ∙ sym (other_put m k v NSEC3 (ap (λ t. NSEC3 == t) is)) in
    λ i. record { nsec = one i; nsec3 = other i }

pub nsec3_put : (m : Sets) (k : RrKey) (v : RRset) (listed : Owners) (names : List Name) → k.record_type.0 ≡ NSEC3 → IsStrictlySortedBy key_cmp (keys_of m) → listed ≡ owners_of m
    → names ≡ insert_key name_cmp listed.nsec3 k.name → record { nsec = listed.nsec; nsec3 = names } ≡ owners_of (insert_entry key_cmp m k v)
nsec3_put m k v listed names is s h made =
    let one : listed.nsec ≡ owners (insert_entry key_cmp m k v) NSEC = ap (λ (l : Owners). l.nsec) h ∙ sym (other_put m k v NSEC (ap (λ t. NSEC == t) is)) in
    let other : names ≡ owners (insert_entry key_cmp m k v) NSEC3 = made ∙ ap (λ (l : Owners). insert_key name_cmp l.nsec3 k.name) h ∙ sym (owner_put m k v NSEC3 is s) in
    λ i. record { nsec = one i; nsec3 = other i }

pub none_put : (m : Sets) (k : RrKey) (v : RRset) (listed : Owners) → (k.record_type.0 == NSEC) ≡ false → (k.record_type.0 == NSEC3) ≡ false → listed ≡ owners_of m
    → listed ≡ owners_of (insert_entry key_cmp m k v)
none_put m k v listed p q h =
    h ∙ (λ i. record { nsec = sym (other_put m k v NSEC (differs k.record_type.0 NSEC p)) i; nsec3 = sym (other_put m k v NSEC3 (differs k.record_type.0 NSEC3 q)) i })

pub nsec_removed : (m : Sets) (k : RrKey) (listed : Owners) (names : List Name) → k.record_type.0 ≡ NSEC → listed ≡ owners_of m → names ≡ remove_key (λ n. is_eq (name_cmp k.name n)) listed.nsec
    → record { nsec = names; nsec3 = listed.nsec3 } ≡ owners_of (remove_entry (key_eq k) m)
nsec_removed m k listed names is h made =
    let one : names ≡ owners (remove_entry (key_eq k) m) NSEC = made ∙ ap (λ (l : Owners). remove_key (λ n. is_eq (name_cmp k.name n)) l.nsec) h ∙ sym (owner_removed m k NSEC is) in
    let other : listed.nsec3 ≡ owners (remove_entry (key_eq k) m) NSEC3 = ap (λ (l : Owners). l.nsec3) h ∙ sym (other_removed m k NSEC3 (ap (λ t. NSEC3 == t) is)) in
    λ i. record { nsec = one i; nsec3 = other i }

pub nsec3_removed : (m : Sets) (k : RrKey) (listed : Owners) (names : List Name) → k.record_type.0 ≡ NSEC3 → listed ≡ owners_of m → names ≡ remove_key (λ n. is_eq (name_cmp k.name n)) listed.nsec3
    → record { nsec = listed.nsec; nsec3 = names } ≡ owners_of (remove_entry (key_eq k) m)
nsec3_removed m k listed names is h made =
    let one : listed.nsec ≡ owners (remove_entry (key_eq k) m) NSEC = ap (λ (l : Owners). l.nsec) h ∙ sym (other_removed m k NSEC (ap (λ t. NSEC == t) is)) in
    let other : names ≡ owners (remove_entry (key_eq k) m) NSEC3 = made ∙ ap (λ (l : Owners). remove_key (λ n. is_eq (name_cmp k.name n)) l.nsec3) h ∙ sym (owner_removed m k NSEC3 is) in
    λ i. record { nsec = one i; nsec3 = other i }

pub none_removed : (m : Sets) (k : RrKey) (listed : Owners) → (k.record_type.0 == NSEC) ≡ false → (k.record_type.0 == NSEC3) ≡ false → listed ≡ owners_of m → listed ≡ owners_of (remove_entry (key_eq k) m)
none_removed m k listed p q h =
    h ∙ (λ i. record { nsec = sym (other_removed m k NSEC (differs k.record_type.0 NSEC p)) i; nsec3 = sym (other_removed m k NSEC3 (differs k.record_type.0 NSEC3 q)) i })

-- ---- what is read of the index

pub listed_owners : (b : Bool) (names keys : List Name) → Some keys ≡ cond b (Some names) None → keys ≡ cond b names []
listed_owners true names keys e = cc
listed_owners false names keys e = absurd cc

pub not_listed : (b : Bool) (names : List Name) → None ≡ cond b (Some names) None → [] ≡ cond b names []
not_listed true names e = absurd cc
not_listed false names e = refl

pub upto_bound : (n o : Name) → range_contains name_cmp Unbounded (Included n) o ≡ is_upto name_cmp o n
upto_bound n o = by (name_cmp n o) ∙ sym (ap is_le (name_order.total.antisymm o n))
  where
    by : (c : Ordering) → not (is_lt c) ≡ is_le (ordering_reverse c)
    by Less = refl
    by Equal = refl
    by Greater = refl

before_bound : (n o : Name) → range_contains name_cmp Unbounded (Excluded n) o ≡ is_before name_cmp o n
before_bound n o = by (name_cmp n o) ∙ sym (ap is_lt (name_order.total.antisymm o n))
  where
    by : (c : Ordering) → not (is_le c) ≡ is_lt (ordering_reverse c)
    by Less = refl
    by Equal = refl
    by Greater = refl

same_filter : (p q : Name → Bool) (names : List Name) → ((o : Name) → p o ≡ q o) → filter p names ≡ filter q names
same_filter p q [] h = refl
same_filter p q (x ∷ xs) h = λ i. cond (h x i) (x ∷ same_filter p q xs h i) (same_filter p q xs h i)

pub read_upto : (n : Name) (keys names read : List Name) → keys ≡ names → read ≡ filter (range_contains name_cmp Unbounded (Included n)) keys → read ≡ filter (λ o. is_upto name_cmp o n) names
read_upto n keys names read same e = e ∙ same_filter (range_contains name_cmp Unbounded (Included n)) (λ o. is_upto name_cmp o n) keys (upto_bound n) ∙ ap (filter (λ o. is_upto name_cmp o n)) same

pub read_before : (n : Name) (keys names read : List Name) → keys ≡ names → read ≡ filter (range_contains name_cmp Unbounded (Excluded n)) keys → read ≡ filter (λ o. is_before name_cmp o n) names
read_before n keys names read same e = e ∙ same_filter (range_contains name_cmp Unbounded (Excluded n)) (λ o. is_before name_cmp o n) keys (before_bound n) ∙ ap (filter (λ o. is_before name_cmp o n)) same

pub read_all : (keys names read : List Name) → keys ≡ names → read ≡ filter (range_contains name_cmp Unbounded Unbounded) keys → read ≡ names
read_all keys names read same e = e ∙ all keys ∙ same
  where
    all : (ks : List Name) → filter (range_contains name_cmp Unbounded Unbounded) ks ≡ ks
    all [] = refl
    all (k ∷ ks) = ap (λ ns. k ∷ ns) (all ks)

-- Differences lead from one zone to the other
use Rattle.std.proofs.Common.{◌≡◌, ◌≢◌, Bool, true, false, cond, List, [], ◌∷◌, length, refl, sym, ap, ◌∙◌, subst, Ordering, Less, Equal, Greater, Ok, Err}
use Rattle.std.specs.Prelude.{Option, Some, None, is_some, map, not, ◌==◌, if◌then◌else◌}
use Rattle.std.specs.BTreeMap.{insert_entry}
use Rattle.std.specs.Cmp.{eq_by_cmp_equiv}
use Rattle.std.specs.List.{AllByRecursion}
use Rattle.std.specs.Map.{lookup, keys_of}
use Rattle.std.specs.Option.{option_or}
use Rattle.std.specs.Ordering.{is_eq, match_ordering}
use Rattle.std.proofs.Math.Dec.{eqb-suc-zero}
use Rattle.std.proofs.lemmas.Map.{lookup-remove_entry}
use Rattle.std.proofs.lemmas.Map.Keys.{sorted_head, sorted_tail, IsDistinct-from_sorted}
use Rattle.std.proofs.lemmas.Map.Made.{is_some-lookup}
use Rattle.zone_proto.specs.declared.rr_key.RrKey.{RrKey}
use Rattle.zone_proto.specs.Keys.{key, key_cmp, key_eq}
use Rattle.zone_proto.specs.Names.{lower}
use Rattle.zone_proto.specs.Sets.{RRset, same_set}
use Rattle.zone_proto.specs.SetEquality.{same_set_equiv}
use Rattle.zone_proto.proofs.Ordering.KeyLaws.{key_cmp_total}
use Rattle.zone_proto.proofs.Ordering.KeyOrder.{key_same, key_itself}
use Rattle.zone_map.specs.Puts.{without_all}
use Rattle.zone_map.specs.Zones.{Sets, put, without, IsStoredAt, IsZone}
use Rattle.zone_map.proofs.Putting.{found_without_all}
use Rattle.zone_map.proofs.Stored.{IsZone-put, IsZone-without, put_apart}
use Rattle.zone_difference.specs.Differences.{◌>>=◌, given_at, lacking, same_at, sets_lacking, taken_at, with_each, with_given, with_taken}
use Rattle.zone_difference.specs.Laws.{ChainsLead, DifferencesLead, chained}
use Rattle.zone_difference.specs.declared.error.DifferenceError.TheVariants.{NotThere, AlreadyThere, Empty}
use Rattle.zone_difference.proofs.Found.{InOrder, each_found, filter_in_order, found_filter, left_of, none_found}

-- ---- equal sets

same_itself : (o : Option RRset) → same_at o o ≡ true
same_itself None = refl
same_itself (Some s) = same_set_equiv.refl s

same_swapped : (s t : RRset) → same_set s t ≡ same_set t s
same_swapped s t = same_set_equiv.symm s t

-- equal to an equal one
same_along : (o p q : Option RRset) → same_at o p ≡ true → same_at p q ≡ true → same_at o q ≡ true
same_along None None q h g = g
same_along None (Some t) q h g = absurd cc
same_along (Some s) None q h g = absurd cc
same_along (Some s) (Some t) None h g = absurd cc
same_along (Some s) (Some t) (Some u) h g = same_set_equiv.congr s t u h ∙ g

none_by : (o : Option RRset) → same_at o None ≡ true → o ≡ None
none_by None h = refl
none_by (Some s) h = absurd cc

-- ---- keys

key_of_stored : (k : RrKey) (s : RRset) → IsStoredAt k.name k.record_type.0 s → key (lower s.owner) s.record_type ≡ k
key_of_stored k s h = (λ i. key (h.owner i) (h.record_type i))

abbrev AreStoredEach : Sets → Type 0
AreStoredEach es = AllByRecursion (λ (e : RrKey × RRset). IsStoredAt e.0.name e.0.record_type.0 e.1) es

-- ---- sets are taken out

abbrev Stand : Sets → Sets → Type 0
Stand m es = AllByRecursion (λ (e : RrKey × RRset). same_at (lookup (key_eq e.0) m) (Some e.1) ≡ true) es

without_found : (m : Sets) (k q : RrKey) → InOrder m → lookup (key_eq q) (without m k.name k.record_type.0) ≡ cond (key_eq k q) None (lookup (key_eq q) m)
without_found m k q s =
    lookup-remove_entry (eq_by_cmp_equiv key_cmp_total) (key_eq k) (λ x y e. ap (λ j. key_eq j y) (key_same k x e)) q m (IsDistinct-from_sorted key_cmp (keys_of m) s)

stand_without : (m : Sets) (k : RrKey) (es : Sets) → InOrder m → AllByRecursion (λ q. key_cmp k q ≡ Less) (keys_of es)
    → AllByRecursion (λ (e : RrKey × RRset). same_at (lookup (key_eq e.0) m) (Some e.1) ≡ true) es
    → AllByRecursion (λ (e : RrKey × RRset). same_at (lookup (key_eq e.0) (without m k.name k.record_type.0)) (Some e.1) ≡ true) es
stand_without m k [] s a h = tt
stand_without m k (e ∷ es) s a h = (
  ap (λ o. same_at o (Some e.1)) (without_found m k e.0 s ∙ ap (λ b. cond b None (lookup (key_eq e.0) m)) (ap is_eq a.0)) ∙ h.0,
  stand_without m k es s a.1 h.1,
)

take_one : (m : Sets) (e : RrKey × RRset) → IsStoredAt e.0.name e.0.record_type.0 e.1 → same_at (lookup (key_eq e.0) m) (Some e.1) ≡ true
    → with_taken m e.1 ≡ Ok (without m e.0.name e.0.record_type.0)
take_one m e stored there =
    ap (λ k. taken_at m k e.1) (key_of_stored e.0 e.1 stored)
    ∙ ap (λ b. if b then Ok (without m e.0.name e.0.record_type.0) else Err NotThere) there

take_each : (m es : Sets) → IsZone m → InOrder es → AllByRecursion (λ (e : RrKey × RRset). IsStoredAt e.0.name e.0.record_type.0 e.1) es
    → AllByRecursion (λ (e : RrKey × RRset). same_at (lookup (key_eq e.0) m) (Some e.1) ≡ true) es
    → (with_each with_taken m (map (λ e. e.1) es) ≡ Ok (without_all m (keys_of es))) × IsZone (without_all m (keys_of es))
unfolding with_each
take_each m [] zone s stored there = (refl, zone)
take_each m (e ∷ es) zone s stored there =
    let n = without m e.0.name e.0.record_type.0 in
    let more = take_each n es (IsZone-without m e.0 zone) (sorted_tail key_cmp e.0 (keys_of es) s) stored.1 (stand_without m e.0 es zone.ordered (sorted_head key_cmp e.0 (keys_of es) s) there.1) in
    (ap (λ r. r >>= λ x. with_each with_taken x (map (λ e. e.1) es)) (take_one m e stored.0 there.0) ∙ more.0, more.1)

-- ---- and given

abbrev put_each : Sets → Sets → Sets
put_each m [] = m
put_each m (e ∷ es) = put_each (put m e.0.name e.0.record_type.0 e.1) es

put_found : (m : Sets) (k : RrKey) (v : RRset) → lookup (key_eq k) (insert_entry key_cmp m k v) ≡ Some v
put_found [] k v = ap (λ b. cond b (Some v) None) (key_itself k)
put_found (e ∷ m) k v = by (key_cmp k e.0) refl (put_found m k v)
  where
    by : (o : Ordering) → key_cmp k e.0 ≡ o → lookup (key_eq k) (insert_entry key_cmp m k v) ≡ Some v
        → lookup (key_eq k) (match_ordering o ((k, v) ∷ e ∷ m) ((e.0, v) ∷ m) (e ∷ insert_entry key_cmp m k v)) ≡ Some v
    by Less g i = ap (λ b. cond b (Some v) (lookup (key_eq k) (e ∷ m))) (key_itself k)
    by Equal g i = ap (λ b. cond b (Some v) (lookup (key_eq k) m)) (ap is_eq g)
    by Greater g i = ap (λ b. cond b (Some e.1) (lookup (key_eq k) (insert_entry key_cmp m k v))) (ap is_eq g) ∙ i

absent_put : (m : Sets) (k : RrKey) (v : RRset) (es : Sets) → AllByRecursion (λ q. key_cmp k q ≡ Less) (keys_of es)
    → AllByRecursion (λ (e : RrKey × RRset). lookup (key_eq e.0) m ≡ None) es
    → AllByRecursion (λ (e : RrKey × RRset). lookup (key_eq e.0) (put m k.name k.record_type.0 v) ≡ None) es
absent_put m k v [] a h = tt
absent_put m k v (e ∷ es) a h = (
  put_apart m k e.0 v ((eq_by_cmp_equiv key_cmp_total).symm e.0 k ∙ ap is_eq a.0) ∙ h.0,
  absent_put m k v es a.1 h.1,
)

has_records : {A : Type 0} (rs : List A) → rs ≢ [] → (length rs == 0) ≡ false
has_records [] h = absurd (h refl)
has_records (r ∷ rs) h = eqb-suc-zero (length rs)

give_one : (m : Sets) (e : RrKey × RRset) → IsStoredAt e.0.name e.0.record_type.0 e.1 → lookup (key_eq e.0) m ≡ None
    → with_given m e.1 ≡ Ok (put m e.0.name e.0.record_type.0 e.1)
give_one m e stored none =
    ap (λ k. given_at m k e.1) (key_of_stored e.0 e.1 stored)
    ∙ ap (λ b. if b then Err AlreadyThere else (if length e.1.records == 0 then Err Empty else Ok (put m e.0.name e.0.record_type.0 e.1))) (ap is_some none)
    ∙ ap (λ b. if b then Err Empty else Ok (put m e.0.name e.0.record_type.0 e.1)) (has_records e.1.records stored.filled)

give_each : (m es : Sets) → IsZone m → InOrder es → AllByRecursion (λ (e : RrKey × RRset). IsStoredAt e.0.name e.0.record_type.0 e.1) es
    → AllByRecursion (λ (e : RrKey × RRset). lookup (key_eq e.0) m ≡ None) es
    → (with_each with_given m (map (λ e. e.1) es) ≡ Ok (put_each m es)) × IsZone (put_each m es)
unfolding with_each
give_each m [] zone s stored none = (refl, zone)
give_each m (e ∷ es) zone s stored none =
    let n = put m e.0.name e.0.record_type.0 e.1 in
    let more = give_each n es (IsZone-put m e.0 e.1 zone stored.0) (sorted_tail key_cmp e.0 (keys_of es) s) stored.1 (absent_put m e.0 e.1 es (sorted_head key_cmp e.0 (keys_of es) s) none.1) in
    (ap (λ r. r >>= λ x. with_each with_given x (map (λ e. e.1) es)) (give_one m e stored.0 none.0) ∙ more.0, more.1)

-- what is found then
put_each_found : (m es : Sets) → InOrder es → (q : RrKey) → lookup (key_eq q) (put_each m es) ≡ option_or (lookup (key_eq q) es) (lookup (key_eq q) m)
put_each_found m [] s q = refl
put_each_found m (e ∷ es) s q =
    put_each_found (put m e.0.name e.0.record_type.0 e.1) es (sorted_tail key_cmp e.0 (keys_of es) s) q ∙ by (key_eq q e.0) refl
  where
    by : (b : Bool) → key_eq q e.0 ≡ b → option_or (lookup (key_eq q) es) (lookup (key_eq q) (insert_entry key_cmp m e.0 e.1)) ≡ option_or (cond b (Some e.1) (lookup (key_eq q) es)) (lookup (key_eq q) m)
    by true g =
        let same : q ≡ e.0 = key_same q e.0 g in
        let none : lookup (key_eq q) es ≡ None = none_found q es (subst (λ (k : RrKey). AllByRecursion (λ j. key_cmp k j ≡ Less) (keys_of es)) (sym same) (sorted_head key_cmp e.0 (keys_of es) s)) in
        ap (λ o. option_or o (lookup (key_eq q) (insert_entry key_cmp m e.0 e.1))) none
        ∙ ap (λ k. lookup (key_eq k) (insert_entry key_cmp m e.0 e.1)) same
        ∙ put_found m e.0 e.1
    by false g = ap (option_or (lookup (key_eq q) es)) (put_apart m e.0 q e.1 g)

-- ---- from one zone to another

-- a set of one zone is lacking in another
abbrev lacks : Sets → RrKey → RRset → Bool
lacks other q s = not (same_at (lookup (key_eq q) other) (Some s))

-- of what is found in two zones: the set of the first, where the other has no equal one
abbrev only : Option RRset → Option RRset → Option RRset
only None y = None
only (Some s) y = if not (same_at y (Some s)) then Some s else None

found_lacking : (a b : Sets) → InOrder a → (q : RrKey) → lookup (key_eq q) (lacking a b) ≡ only (lookup (key_eq q) a) (lookup (key_eq q) b)
found_lacking a b s q = found_filter (lacks b) a s q ∙ by (lookup (key_eq q) a)
  where
    by : (x : Option RRset) → left_of (lacks b) q x ≡ only x (lookup (key_eq q) b)
    by None = refl
    by (Some s) = refl

-- what is only in the first is in the first
only_first : (x y : Option RRset) (s : RRset) → only x y ≡ Some s → x ≡ Some s
only_first None y s h = absurd cc
only_first (Some t) y s h = by (not (same_at y (Some t))) h
  where
    by : (b : Bool) → (if b then Some t else None) ≡ Some s → Some t ≡ Some s
    by true h = h
    by false h = absurd cc

-- where a set is only in the second, none is left of a zone like the first once those that are only in the first are taken out
room : (x y z : Option RRset) (t : RRset) → same_at z x ≡ true → only y x ≡ Some t → cond (is_some (only x y)) None z ≡ None
room None y z t like h = none_by z like
room (Some s) None z t like h = absurd cc
room (Some s) (Some u) z t like h = by (same_set s u) refl h
  where
    by : (b : Bool) → same_set s u ≡ b → (if not b then Some u else None) ≡ Some t → cond (is_some (if not (same_set u s) then Some s else None)) None z ≡ None
    by true g h = absurd cc
    by false g h = ap (λ b. cond (is_some (if not b then Some s else None)) None z) (same_swapped u s ∙ g)

-- and what is there in the end is like the second
arrives : (x y z : Option RRset) → same_at z x ≡ true → same_at (option_or (only y x) (cond (is_some (only x y)) None z)) y ≡ true
arrives None None z like = like
arrives None (Some t) z like = same_set_equiv.refl t
arrives (Some s) None z like = refl
arrives (Some s) (Some t) z like = by (same_set s t) refl
  where
    by : (b : Bool) → same_set s t ≡ b → same_at (option_or (if not b then Some t else None) (cond (is_some (if not (same_set t s) then Some s else None)) None z)) (Some t) ≡ true
    by false g = same_set_equiv.refl t
    by true g =
        ap (λ c. same_at (cond (is_some (if not c then Some s else None)) None z) (Some t)) (same_swapped t s ∙ g)
        ∙ same_along z (Some s) (Some t) like g

pub differences_lead : DifferencesLead
differences_lead a b m za zb zm like = (
  n,
  ap (λ r. r >>= λ x. with_each with_given x (sets_lacking b a)) taken.0 ∙ given.0,
  given.1,
  λ q. ap (λ o. same_at o (lookup (key_eq q) b)) (end_found q) ∙ arrives (lookup (key_eq q) a) (lookup (key_eq q) b) (lookup (key_eq q) m) (like q),
)
  where
    es : Sets
    es = lacking a b

    fs : Sets
    fs = lacking b a

    es_ordered : InOrder (lacking a b)
    es_ordered = filter_in_order (lacks b) a za.ordered

    fs_ordered : InOrder (lacking b a)
    fs_ordered = filter_in_order (lacks a) b zb.ordered

    in_first : (q : RrKey) (s : RRset) → lookup (key_eq q) (lacking a b) ≡ Some s → lookup (key_eq q) a ≡ Some s
    in_first q s h = only_first (lookup (key_eq q) a) (lookup (key_eq q) b) s (sym (found_lacking a b za.ordered q) ∙ h)

    in_second : (q : RrKey) (s : RRset) → lookup (key_eq q) (lacking b a) ≡ Some s → lookup (key_eq q) b ≡ Some s
    in_second q s h = only_first (lookup (key_eq q) b) (lookup (key_eq q) a) s (sym (found_lacking b a zb.ordered q) ∙ h)

    taken : (with_each with_taken m (sets_lacking a b) ≡ Ok (without_all m (keys_of (lacking a b)))) × IsZone (without_all m (keys_of (lacking a b)))
    taken = take_each m (lacking a b) zm es_ordered
        (each_found (λ q s. IsStoredAt q.name q.record_type.0 s) (lacking a b) es_ordered (λ q s h. za.stored q.name q.record_type.0 s (in_first q s h)))
        (each_found (λ q s. same_at (lookup (key_eq q) m) (Some s) ≡ true) (lacking a b) es_ordered (λ q s h. ap (same_at (lookup (key_eq q) m)) (sym (in_first q s h)) ∙ like q))

    left : Sets
    left = without_all m (keys_of (lacking a b))

    left_found : (q : RrKey) → lookup (key_eq q) (without_all m (keys_of (lacking a b))) ≡ cond (is_some (only (lookup (key_eq q) a) (lookup (key_eq q) b))) None (lookup (key_eq q) m)
    left_found q =
        found_without_all m (keys_of (lacking a b)) q zm.ordered
        ∙ ap (λ c. cond c None (lookup (key_eq q) m)) (sym (is_some-lookup (key_eq q) (lacking a b)) ∙ ap is_some (found_lacking a b za.ordered q))

    given : (with_each with_given (without_all m (keys_of (lacking a b))) (sets_lacking b a) ≡ Ok (put_each (without_all m (keys_of (lacking a b))) (lacking b a)))
        × IsZone (put_each (without_all m (keys_of (lacking a b))) (lacking b a))
    given = give_each (without_all m (keys_of (lacking a b))) (lacking b a) taken.1 fs_ordered
        (each_found (λ q s. IsStoredAt q.name q.record_type.0 s) (lacking b a) fs_ordered (λ q s h. zb.stored q.name q.record_type.0 s (in_second q s h)))
        (each_found (λ q s. lookup (key_eq q) (without_all m (keys_of (lacking a b))) ≡ None) (lacking b a) fs_ordered
        (λ q s h. left_found q ∙ room (lookup (key_eq q) a) (lookup (key_eq q) b) (lookup (key_eq q) m) s (like q) (sym (found_lacking b a zb.ordered q) ∙ h)))

    n : Sets
    n = put_each (without_all m (keys_of (lacking a b))) (lacking b a)

    end_found : (q : RrKey) → lookup (key_eq q) n
        ≡ option_or (only (lookup (key_eq q) b) (lookup (key_eq q) a)) (cond (is_some (only (lookup (key_eq q) a) (lookup (key_eq q) b))) None (lookup (key_eq q) m))
    end_found q =
        put_each_found (without_all m (keys_of (lacking a b))) (lacking b a) fs_ordered q
        ∙ ap (λ o. option_or o (lookup (key_eq q) (without_all m (keys_of (lacking a b))))) (found_lacking b a zb.ordered q)
        ∙ ap (option_or (only (lookup (key_eq q) b) (lookup (key_eq q) a))) (left_found q)

pub chains_lead : ChainsLead
unfolding chained
chains_lead a m [] za zm zs like = (m, refl, zm, like)
chains_lead a m (b ∷ bs) za zm zs like =
    let one = differences_lead a b m za zs.0 zm like in
    let more = chains_lead b one.0 bs zs.0 one.2 zs.1 one.3 in
    (more.0, ap (λ r. r >>= λ x. chained x b bs) one.1 ∙ more.1, more.2, more.3)

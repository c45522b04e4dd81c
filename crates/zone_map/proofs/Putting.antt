-- Sets that are put into a zone together are found there, and once they are undone the zone is as it was
use Rattle.std.proofs.Common.{append-nil, ◌≡◌, ℕ, Bool, true, false, cond, List, [], ◌∷◌, ◌++◌, refl, sym, ap, ◌∙◌, subst, Ordering, Less, Equal, Greater}
use Rattle.std.specs.Prelude.{Option, Some, None, is_some, not, ◌&&◌, ◌||◌, filter}
use Rattle.std.specs.Cmp.{eq_by_cmp_equiv}
use Rattle.std.specs.List.{AllByRecursion, list_any}
use Rattle.std.specs.List.Sorted.{IsStrictlySortedBy}
use Rattle.std.specs.Map.{lookup, keys_of, set_value, update, update_all}
use Rattle.std.specs.Option.{option_or}
use Rattle.std.specs.Ordering.{is_eq, ordering_reverse}
use Rattle.std.proofs.lemmas.List.Folds.{list_any-append}
use Rattle.std.proofs.lemmas.List.Kept.{IsStrictlySortedBy-filter}
use Rattle.std.proofs.lemmas.Map.{keys-set_value, lookup-remove_entry}
use Rattle.std.proofs.lemmas.Map.Entries.{lookup-filter-keys}
use Rattle.std.proofs.lemmas.Map.Keys.{sorted_head, sorted_tail, IsDistinct-from_sorted}
use Rattle.std.proofs.lemmas.Map.Made.{update_all_none, is_some-lookup, IsDistinct-keys_filter}
use Rattle.std.proofs.lemmas.Map.Steps.{set_value_same}
use Rattle.std.proofs.lemmas.Map.Views.{any-filter_same}
use Rattle.zone_proto.specs.declared.rr_key.RrKey.{RrKey}
use Rattle.zone_proto.specs.Keys.{key, key_cmp, key_eq}
use Rattle.zone_proto.specs.Names.{Name}
use Rattle.zone_proto.specs.Sets.{RRset}
use Rattle.zone_proto.proofs.Ordering.KeyLaws.{key_cmp_total}
use Rattle.zone_proto.proofs.Ordering.KeyOrder.{key_same, key_itself}
use Rattle.zone_frozen.specs.Sets.{InsertsSets, MovesSets}
use Rattle.zone_map.specs.Puts.{with_exchanged, with_before, without_all, ArePut}
use Rattle.zone_map.specs.Zones.{Sets, set_at, without, IsStoredAt, IsZone}
use Rattle.zone_map.proofs.Ahead.{none_above}
use Rattle.zone_map.proofs.Stored.{all_above, sorted_without}

abbrev pub nothing : RrKey → Option RRset
nothing k = None

-- ---- sets that are exchanged

-- where nothing is under a key, nothing is set there
pub set_value_absent : (test : RrKey → Bool) (m : Sets) (v : RRset) → lookup test m ≡ None → set_value test m v ≡ m
set_value_absent test [] v absent = refl
set_value_absent test (e ∷ m) v absent = by (test e.0) absent (λ h. set_value_absent test m v h)
  where
    by : (b : Bool) → cond b (Some e.1) (lookup test m) ≡ None → (lookup test m ≡ None → set_value test m v ≡ m) → cond b ((e.0, v) ∷ m) (e ∷ set_value test m v) ≡ e ∷ m
    by true h i = absurd cc
    by false h i = ap (λ (n : Sets). e ∷ n) (i h)

set_value_twice : (test : RrKey → Bool) (m : Sets) (s v : RRset) → set_value test (set_value test m s) v ≡ set_value test m v
set_value_twice test [] s v = refl
set_value_twice test (e ∷ m) s v = by (test e.0) refl (set_value_twice test m s v)
  where
    by : (b : Bool) → test e.0 ≡ b → set_value test (set_value test m s) v ≡ set_value test m v → set_value test (cond b ((e.0, s) ∷ m) (e ∷ set_value test m s)) v ≡ cond b ((e.0, v) ∷ m) (e ∷ set_value test m v)
    by true g i = ap (λ b. cond b ((e.0, v) ∷ m) ((e.0, s) ∷ set_value test m v)) g
    by false g i = ap (λ b. cond b ((e.0, v) ∷ set_value test m s) (e ∷ set_value test (set_value test m s) v)) g ∙ ap (λ (n : Sets). e ∷ n) i

-- what came last is undone first
pub with_before-push : (m : Sets) (log : Sets) (k : RrKey) (s : RRset) → with_before m (log ++ (k, s) ∷ []) ≡ with_before (set_value (key_eq k) m s) log
with_before-push m [] k s = refl
with_before-push m (e ∷ log) k s = ap (λ (n : Sets). set_value (key_eq e.0) n e.1) (with_before-push m log k s)

-- one more set that is exchanged, with what was there behind what is to be undone, changes nothing of what comes out
pub undone_more : (m n : Sets) (log more : Sets) (k : RrKey) (s stood : RRset) → n ≡ set_value (key_eq k) m s → lookup (key_eq k) m ≡ Some stood → more ≡ log ++ (k, stood) ∷ []
    → with_before n more ≡ with_before m log
undone_more m n log more k s stood is found pushed =
    ap (with_before n) pushed ∙ with_before-push n log k stood
    ∙ ap (λ (x : Sets). with_before x log) (ap (λ (x : Sets). set_value (key_eq k) x stood) is ∙ set_value_twice (key_eq k) m s stood ∙ set_value_same (key_eq k) m stood found)

pub keys_exchanged : (m es : Sets) → keys_of (with_exchanged m es) ≡ keys_of m
keys_exchanged m [] = refl
keys_exchanged m (e ∷ es) = keys_exchanged (set_value (key_eq e.0) m e.1) es ∙ keys-set_value (key_eq e.0) m e.1

-- where a set stands, the one that came in its place is found
set_found : (k q : RrKey) (v : RRset) (m : Sets) → is_some (lookup (key_eq q) m) ≡ true → lookup (key_eq q) (set_value (key_eq k) m v) ≡ cond (key_eq k q) (Some v) (lookup (key_eq q) m)
set_found k q v [] h = absurd cc
set_found k q v (e ∷ m) h = by (key_eq k e.0) refl (key_eq q e.0) refl h (set_found k q v m)
  where
    by : (b : Bool) → key_eq k e.0 ≡ b → (c : Bool) → key_eq q e.0 ≡ c → is_some (cond c (Some e.1) (lookup (key_eq q) m)) ≡ true
        → (is_some (lookup (key_eq q) m) ≡ true → lookup (key_eq q) (set_value (key_eq k) m v) ≡ cond (key_eq k q) (Some v) (lookup (key_eq q) m))
        → lookup (key_eq q) (cond b ((e.0, v) ∷ m) (e ∷ set_value (key_eq k) m v)) ≡ cond (key_eq k q) (Some v) (cond c (Some e.1) (lookup (key_eq q) m))
    by true g c j h i = at c j
      where
        same : key_eq k q ≡ key_eq q e.0
        same = ap (λ (x : RrKey). key_eq x q) (key_same k e.0 g) ∙ (eq_by_cmp_equiv key_cmp_total).symm e.0 q

        at : (c : Bool) → key_eq q e.0 ≡ c → cond (key_eq q e.0) (Some v) (lookup (key_eq q) m) ≡ cond (key_eq k q) (Some v) (cond c (Some e.1) (lookup (key_eq q) m))
        at true j = ap (λ d. cond d (Some v) (lookup (key_eq q) m)) j ∙ sym (ap (λ d. cond d (Some v) (Some e.1)) (same ∙ j))
        at false j = ap (λ d. cond d (Some v) (lookup (key_eq q) m)) j ∙ sym (ap (λ d. cond d (Some v) (lookup (key_eq q) m)) (same ∙ j))
    by false g true j h i =
        ap (λ d. cond d (Some e.1) (lookup (key_eq q) (set_value (key_eq k) m v))) j ∙ sym (ap (λ d. cond d (Some v) (Some e.1)) (ap (key_eq k) (key_same q e.0 j) ∙ g))
    by false g false j h i = ap (λ d. cond d (Some e.1) (lookup (key_eq q) (set_value (key_eq k) m v))) j ∙ i h

or_updated : (b : Bool) (v : RRset) (x o : Option RRset) → cond b (Some v) (option_or x o) ≡ option_or (cond b (Some v) x) o
or_updated true v x o = refl
or_updated false v x o = refl

-- and so with many: the one that came last, else the one that was there
found_exchanged : (es m : Sets) (f : RrKey → Option RRset) (o : Option RRset) (q : RrKey) → is_some (lookup (key_eq q) m) ≡ true → lookup (key_eq q) m ≡ option_or (f q) o
    → lookup (key_eq q) (with_exchanged m es) ≡ option_or (update_all key_eq f es q) o
found_exchanged [] m f o q there h = h
found_exchanged (e ∷ es) m f o q there h =
    let still : is_some (lookup (key_eq q) (set_value (key_eq e.0) m e.1)) ≡ true =
    is_some-lookup (key_eq q) (set_value (key_eq e.0) m e.1) ∙ ap (list_any (key_eq q)) (keys-set_value (key_eq e.0) m e.1) ∙ sym (is_some-lookup (key_eq q) m) ∙ there in
    found_exchanged es (set_value (key_eq e.0) m e.1) (update key_eq f e.0 (Some e.1)) o q still
    (set_found e.0 q e.1 m there ∙ ap (cond (key_eq e.0 q) (Some e.1)) h ∙ or_updated (key_eq e.0 q) e.1 (f q) o)

-- ---- sets in order

pub none_of : (o : Option RRset) → is_some o ≡ false → o ≡ None
none_of None h = refl
none_of (Some s) h = absurd cc

none_found : (q : RrKey) (es : Sets) → AllByRecursion (λ k. key_cmp q k ≡ Less) (keys_of es) → lookup (key_eq q) es ≡ None
none_found q es above = none_of (lookup (key_eq q) es) (is_some-lookup (key_eq q) es ∙ none_above q (keys_of es) above)

-- sets in order under whose keys the same is found are the same
pub same_entries : (es fs : Sets) → IsStrictlySortedBy key_cmp (keys_of es) → IsStrictlySortedBy key_cmp (keys_of fs) → ((q : RrKey) → lookup (key_eq q) es ≡ lookup (key_eq q) fs) → es ≡ fs
same_entries [] [] s t h = refl
same_entries [] (f ∷ fs) s t h = let no : None ≡ Some f.1 = h f.0 ∙ ap (λ b. cond b (Some f.1) (lookup (key_eq f.0) fs)) (key_itself f.0) in absurd cc
same_entries (e ∷ es) [] s t h = let no : None ≡ Some e.1 = sym (h e.0) ∙ ap (λ b. cond b (Some e.1) (lookup (key_eq e.0) es)) (key_itself e.0) in absurd cc
same_entries (e ∷ es) (f ∷ fs) s t h =
    by (key_cmp e.0 f.0) refl (λ more. same_entries es fs (sorted_tail key_cmp e.0 (keys_of es) s) (sorted_tail key_cmp f.0 (keys_of fs) t) more)
  where
    first : (x : RrKey × RRset) (xs : Sets) → lookup (key_eq x.0) (x ∷ xs) ≡ Some x.1
    first x xs = ap (λ b. cond b (Some x.1) (lookup (key_eq x.0) xs)) (key_itself x.0)

    by : (o : Ordering) → key_cmp e.0 f.0 ≡ o → (((q : RrKey) → lookup (key_eq q) es ≡ lookup (key_eq q) fs) → es ≡ fs) → e ∷ es ≡ f ∷ fs
    by Less g more =
        let no : None ≡ Some e.1 = sym (none_found e.0 (f ∷ fs) (g, all_above e.0 f.0 (keys_of fs) g (sorted_head key_cmp f.0 (keys_of fs) t))) ∙ sym (h e.0) ∙ first e es in
        absurd cc
    by Greater g more =
        let before : key_cmp f.0 e.0 ≡ Less = key_cmp_total.antisymm f.0 e.0 ∙ ap ordering_reverse g in
        let no : None ≡ Some f.1 = sym (none_found f.0 (e ∷ es) (before, all_above f.0 e.0 (keys_of es) before (sorted_head key_cmp e.0 (keys_of es) s))) ∙ h f.0 ∙ first f fs in
        absurd cc
    by Equal g more = (λ i. (same i, value i) ∷ more others i)
      where
        same : e.0 ≡ f.0
        same = key_same e.0 f.0 (ap is_eq g)

        value : e.1 ≡ f.1
        value =
            let found : Some e.1 ≡ Some f.1 = sym (first e es) ∙ h e.0 ∙ ap (λ b. cond b (Some f.1) (lookup (key_eq e.0) fs)) (ap is_eq g) in
            cc

        others : (q : RrKey) → lookup (key_eq q) es ≡ lookup (key_eq q) fs
        others q = at (key_eq q e.0) refl
          where
            at : (b : Bool) → key_eq q e.0 ≡ b → lookup (key_eq q) es ≡ lookup (key_eq q) fs
            at true k =
                let is : e.0 ≡ q = sym (key_same q e.0 k) in
                subst (λ (x : RrKey). lookup (key_eq x) es ≡ lookup (key_eq x) fs) is
                (none_found e.0 es (sorted_head key_cmp e.0 (keys_of es) s)
                ∙ sym (subst (λ (x : RrKey). lookup (key_eq x) fs ≡ None) (sym same) (none_found f.0 fs (sorted_head key_cmp f.0 (keys_of fs) t))))
            at false k =
                ap (λ b. cond b (Some e.1) (lookup (key_eq q) es)) (sym k)
                ∙ h q ∙ ap (λ b. cond b (Some f.1) (lookup (key_eq q) fs)) (ap (key_eq q) (sym same) ∙ k)

-- ---- sets that are put

-- what is found of sets that are put one after the other: the last one, else what was there
update_all_or : (es : Sets) (f g : RrKey → Option RRset) (o : Option RRset) (q : RrKey) → f q ≡ option_or (g q) o → update_all key_eq f es q ≡ option_or (update_all key_eq g es q) o
update_all_or [] f g o q h = h
update_all_or (e ∷ es) f g o q h =
    update_all_or es (update key_eq f e.0 (Some e.1)) (update key_eq g e.0 (Some e.1)) o q (ap (cond (key_eq e.0 q) (Some e.1)) h ∙ or_updated (key_eq e.0 q) e.1 (g q) o)

not_false : (b : Bool) → not b ≡ true → b ≡ false
not_false true h = absurd cc
not_false false h = refl

pub keys_of-filter : (r : RrKey → Bool) (es : Sets) → keys_of (filter (λ (e : RrKey × RRset). r e.0) es) ≡ filter r (keys_of es)
keys_of-filter r [] = refl
keys_of-filter r (e ∷ es) = by (r e.0) (keys_of-filter r es)
  where
    by : (b : Bool) → keys_of (filter (λ (e : RrKey × RRset). r e.0) es) ≡ filter r (keys_of es)
        → keys_of (cond b (e ∷ filter (λ (e : RrKey × RRset). r e.0) es) (filter (λ (e : RrKey × RRset). r e.0) es)) ≡ cond b (e.0 ∷ filter r (keys_of es)) (filter r (keys_of es))
    by true i = ap (λ ks. e.0 ∷ ks) i
    by false i = i

-- sets of which some are left stay in order
pub sorted_filter : (r : RrKey → Bool) (es : Sets) → IsStrictlySortedBy key_cmp (keys_of es) → IsStrictlySortedBy key_cmp (keys_of (filter (λ (e : RrKey × RRset). r e.0) es))
sorted_filter r es sorted = subst (IsStrictlySortedBy key_cmp) (sym (keys_of-filter r es)) (IsStrictlySortedBy-filter key_cmp r (keys_of es) sorted)

first_true : (b c : Bool) → (b && c) ≡ true → b ≡ true
first_true true c h = refl
first_true false c h = absurd cc

pub first_false : (b c : Bool) → (b || c) ≡ false → b ≡ false
first_false true c h = absurd cc
first_false false c h = refl

pub keys_of-append : (xs ys : Sets) → keys_of (xs ++ ys) ≡ keys_of xs ++ keys_of ys
keys_of-append [] ys = refl
keys_of-append (x ∷ xs) ys = ap (λ ks. x.0 ∷ ks) (keys_of-append xs ys)

-- sets that are put under other keys leave what is found under a key
pub update_all_apart : (es : Sets) (f : RrKey → Option RRset) (q : RrKey) → list_any (key_eq q) (keys_of es) ≡ false → update_all key_eq f es q ≡ f q
update_all_apart [] f q h = refl
update_all_apart (e ∷ es) f q h =
    update_all_apart es (update key_eq f e.0 (Some e.1)) q (second_false (key_eq q e.0) (list_any (key_eq q) (keys_of es)) h)
    ∙ ap (λ b. cond b (Some e.1) (f q)) ((eq_by_cmp_equiv key_cmp_total).symm e.0 q ∙ first_false (key_eq q e.0) (list_any (key_eq q) (keys_of es)) h)
  where
    second_false : (b c : Bool) → (b || c) ≡ false → c ≡ false
    second_false true c h = absurd cc
    second_false false c h = h

-- ---- sets that are taken out

pub sorted_without_all : (m : Sets) (ks : List RrKey) → IsStrictlySortedBy key_cmp (keys_of m) → IsStrictlySortedBy key_cmp (keys_of (without_all m ks))
sorted_without_all m [] s = s
sorted_without_all m (k ∷ ks) s = sorted_without_all (without m k.name k.record_type.0) ks (sorted_without k m s)

-- what is found under a key is what was there, if the key isn't among those that are taken out
pub found_without_all : (m : Sets) (ks : List RrKey) (q : RrKey) → IsStrictlySortedBy key_cmp (keys_of m) → lookup (key_eq q) (without_all m ks) ≡ cond (list_any (key_eq q) ks) None (lookup (key_eq q) m)
found_without_all m [] q s = refl
found_without_all m (k ∷ ks) q s =
    let left : lookup (key_eq q) (without m k.name k.record_type.0) ≡ cond (key_eq k q) None (lookup (key_eq q) m) =
    lookup-remove_entry (eq_by_cmp_equiv key_cmp_total) (key_eq k) (λ x y e. ap (λ j. key_eq j y) (key_same k x e)) q m (IsDistinct-from_sorted key_cmp (keys_of m) s) in
    found_without_all (without m k.name k.record_type.0) ks q (sorted_without k m s)
    ∙ ap (cond (list_any (key_eq q) ks) None) (left ∙ ap (λ b. cond b None (lookup (key_eq q) m)) ((eq_by_cmp_equiv key_cmp_total).symm k q))
    ∙ by (key_eq q k) (list_any (key_eq q) ks) (lookup (key_eq q) m)
  where
    by : (b c : Bool) (o : Option RRset) → cond c None (cond b None o) ≡ cond (b || c) None o
    by true true o = refl
    by true false o = refl
    by false true o = refl
    by false false o = refl

-- sets of which those under whose keys others stand are exchanged for them, and the others are added
module _ (had more common : Sets) (sorted : IsStrictlySortedBy key_cmp (keys_of more)) (is_common : common ≡ filter (λ (e : RrKey × RRset). list_any (key_eq e.0) (keys_of had)) more)
    (made : Sets) (is_fresh : made ≡ filter (λ (e : RrKey × RRset). not (list_any (key_eq e.0) (keys_of had))) more) where
  abbrev stands : RrKey → Bool
  stands q = list_any (key_eq q) (keys_of had)

  filtered : (r : RrKey → Bool) (q : RrKey) → update_all key_eq nothing (filter (λ (e : RrKey × RRset). r e.0) more) q ≡ cond (r q) (lookup (key_eq q) more) None
  filtered r q =
      update_all_none (eq_by_cmp_equiv key_cmp_total) key_eq (λ x y. refl) (filter (λ (e : RrKey × RRset). r e.0) more) q
      (IsDistinct-keys_filter key_eq (λ (e : RrKey × RRset). r e.0) more (IsDistinct-from_sorted key_cmp (keys_of more) sorted))
      ∙ lookup-filter-keys (key_eq q) r (r q) (λ k same. ap r (sym (key_same q k same))) more

  found_made : (q : RrKey) → lookup (key_eq q) made ≡ cond (not (stands q)) (lookup (key_eq q) more) None
  found_made q = ap (lookup (key_eq q)) is_fresh ∙ lookup-filter-keys (key_eq q) (λ k. not (stands k)) (not (stands q)) (λ k same. ap (λ x. not (stands x)) (sym (key_same q k same))) more

  ordered_made : IsStrictlySortedBy key_cmp (keys_of made)
  ordered_made = subst (λ (es : Sets). IsStrictlySortedBy key_cmp (keys_of es)) (sym is_fresh) (sorted_filter (λ k. not (stands k)) more sorted)

  -- each is found
  pub found_put : (sets after : Sets) → sets ≡ with_exchanged had common → InsertsSets sets made after
      → (q : RrKey) → lookup (key_eq q) after ≡ option_or (lookup (key_eq q) more) (lookup (key_eq q) had)
  found_put sets after exchanged inserts q =
      inserts.0 q
      ∙ update_all_or made (λ k. lookup (key_eq k) sets) nothing (lookup (key_eq q) sets) q refl
      ∙ ap (λ o. option_or o (lookup (key_eq q) sets))
      (update_all_none (eq_by_cmp_equiv key_cmp_total) key_eq (λ x y. refl) made q (IsDistinct-from_sorted key_cmp (keys_of made) ordered_made) ∙ found_made q)
      ∙ ap (λ (n : Sets). option_or (cond (not (stands q)) (lookup (key_eq q) more) None) (lookup (key_eq q) n)) exchanged
      ∙ by (stands q) refl
    where
      by : (b : Bool) → stands q ≡ b → option_or (cond (not b) (lookup (key_eq q) more) None) (lookup (key_eq q) (with_exchanged had common)) ≡ option_or (lookup (key_eq q) more) (lookup (key_eq q) had)
      by true g =
          found_exchanged common had nothing (lookup (key_eq q) had) q (is_some-lookup (key_eq q) had ∙ g) refl
          ∙ ap (λ o. option_or o (lookup (key_eq q) had)) (ap (λ (xs : Sets). update_all key_eq nothing xs q) is_common ∙ filtered stands q ∙ ap (λ b. cond b (lookup (key_eq q) more) None) g)
      by false g =
          let none : lookup (key_eq q) had ≡ None = none_of (lookup (key_eq q) had) (is_some-lookup (key_eq q) had ∙ g) in
          let none_still : lookup (key_eq q) (with_exchanged had common) ≡ None =
          none_of (lookup (key_eq q) (with_exchanged had common)) (is_some-lookup (key_eq q) (with_exchanged had common) ∙ ap (list_any (key_eq q)) (keys_exchanged had common) ∙ g) in
          ap (option_or (lookup (key_eq q) more)) (none_still ∙ sym none)

  -- and taking out those that were added leaves the others, if all came in or only some
  pub taken_out : (sets after rest : Sets) (added : List RrKey) → sets ≡ with_exchanged had common → IsStrictlySortedBy key_cmp (keys_of sets)
      → MovesSets sets made after rest → added ≡ keys_of made → without_all after added ≡ sets
  taken_out sets after rest added exchanged ordered (xs, parts, inserts) keys =
      same_entries (without_all after added) sets (sorted_without_all after added inserts.1) ordered same
    where
      same : (q : RrKey) → lookup (key_eq q) (without_all after added) ≡ lookup (key_eq q) sets
      same q = found_without_all after added q inserts.1 ∙ by (list_any (key_eq q) added) refl
        where
          among : list_any (key_eq q) added ≡ (not (stands q) && list_any (key_eq q) (keys_of more))
          among =
              ap (list_any (key_eq q)) (keys ∙ ap keys_of is_fresh ∙ keys_of-filter (λ k. not (stands k)) more)
              ∙ any-filter_same (key_eq q) (λ k. not (stands k)) (not (stands q)) (λ k same. ap (λ x. not (stands x)) (sym (key_same q k same))) (keys_of more)

          by : (b : Bool) → list_any (key_eq q) added ≡ b → cond b None (lookup (key_eq q) after) ≡ lookup (key_eq q) sets
          by true g =
              let apart : stands q ≡ false = not_false (stands q) (first_true (not (stands q)) (list_any (key_eq q) (keys_of more)) (sym among ∙ g)) in
              sym (none_of (lookup (key_eq q) sets) (is_some-lookup (key_eq q) sets ∙ ap (λ (n : Sets). list_any (key_eq q) (keys_of n)) exchanged ∙ ap (list_any (key_eq q)) (keys_exchanged had common) ∙ apart))
          by false g =
              let whole : list_any (key_eq q) (keys_of made) ≡ false =
              sym (is_some-lookup (key_eq q) made) ∙ ap is_some (found_made q) ∙ by_parts (not (stands q)) ∙ sym among ∙ g in
              inserts.0 q ∙ update_all_apart xs (λ k. lookup (key_eq k) sets) q (first_false (list_any (key_eq q) (keys_of xs)) (list_any (key_eq q) (keys_of rest))
              (sym (list_any-append (key_eq q) (keys_of xs) (keys_of rest)) ∙ ap (list_any (key_eq q)) (sym (keys_of-append xs rest) ∙ ap keys_of (sym parts)) ∙ whole))
            where
              by_parts : (b : Bool) → is_some (cond b (lookup (key_eq q) more) None) ≡ (b && list_any (key_eq q) (keys_of more))
              by_parts true = is_some-lookup (key_eq q) more
              by_parts false = refl

  pub are_put : (sets after : Sets) → sets ≡ with_exchanged had common → InsertsSets sets made after → ArePut had more after
  are_put sets after exchanged inserts = record { was_ordered = sorted; ordered = inserts.1; found = found_put sets after exchanged inserts }

  -- so once those are exchanged again that were, the sets are as they were
  pub put_undone : (sets after : Sets) (added : List RrKey) (before : Sets) → sets ≡ with_exchanged had common → IsStrictlySortedBy key_cmp (keys_of sets)
      → (rest : Sets) × MovesSets sets made after rest → added ≡ keys_of made → with_before sets before ≡ had
      → with_before (without_all after added) before ≡ had
  put_undone sets after added before exchanged ordered (rest, moved) keys undone = ap (λ (n : Sets). with_before n before) (taken_out sets after rest added exchanged ordered moved keys) ∙ undone

-- ---- the zone afterwards

pub IsZone-put_all : (had more after : Sets) → IsZone had → IsZone more → ArePut had more after → IsZone after
IsZone-put_all had more after zone others put =
    record { ordered = put.ordered; stored = λ n t s h. by n t s (set_at more n t) refl (sym (put.found (key n t)) ∙ h) }
  where
    by : (n : Name) (t : ℕ) (s : RRset) (o : Option RRset) → set_at more n t ≡ o → option_or o (set_at had n t) ≡ Some s → IsStoredAt n t s
    by n t s None g h = zone.stored n t s h
    by n t s (Some v) g h = others.stored n t s (g ∙ h)

-- sets of which none is left were all put
pub all_moved : (old more new rest : Sets) → MovesSets old more new rest → rest ≡ [] → InsertsSets old more new
all_moved old more new rest (moved, parts, inserts) none =
    subst (λ (es : Sets). InsertsSets old es new) (sym (append-nil moved) ∙ ap (λ (es : Sets). moved ++ es) (sym none) ∙ sym parts) inserts

-- Found sets that are listed, an equal one once, and where they stand by owner and type
use Rattle.std.proofs.Common.{◌≡◌, ℕ, zero, suc, ◌+◌, ◌<◌, ◌≤◌, arith, Bool, true, false, cond, ◌||◌, List, [], ◌∷◌, ◌++◌, map, length, take, drop, refl, sym, ap, ◌∙◌, subst, eqb-true, true≢false}
use Rattle.std.specs.Prelude.{Option, Some, None, Result, Ok, Err, OnOk, OnErr}
use Rattle.std.specs.List.{list_any, AllByRecursion}
use Rattle.std.specs.Map.{lookup}
use Rattle.std.specs.Option.{IsSome}
use Rattle.std.proofs.lemmas.List.{map-append, length-append, length-map, take-append-drop, drop-append-le, drop_all}
use Rattle.std.proofs.lemmas.List.Folds.{list_any-append}
use Rattle.std.proofs.lemmas.Map.Views.{tells_apart}
use Rattle.zone_proto.specs.declared.rr_key.RrKey.{RrKey}
use Rattle.zone_proto.specs.Keys.{key, key_eq}
use Rattle.zone_proto.specs.Names.{lower}
use Rattle.zone_proto.specs.NameLaws.{exact_names}
use Rattle.zone_proto.specs.Sets.{RRset, same_set}
use Rattle.zone_proto.proofs.Ordering.KeyOrder.{key_itself}
use Rattle.zone_proto.proofs.Members.{and_left, and_right}
use Rattle.zone_lookup.specs.declared.found.Found.{Found}
use Rattle.zone_lookup.specs.FoundSets.{found_set}
use Rattle.zone_lookup.specs.ListedSets.{set_key, HavePlaces}
use Rattle.zone_lookup.specs.Runs.{with_new}

-- ---- a set is listed once

-- a test of found sets is one of what they stand for
tested : (s : RRset) (items : List Found) → list_any (λ y. same_set y s) (map found_set items) ≡ list_any (λ f. same_set (found_set f) s) items
tested s [] = refl
tested s (f ∷ items) = ap (λ b. same_set (found_set f) s || b) (tested s items)

-- an equal set is listed, so nothing is put behind the list
listed_already : (items : List Found) (f : Found) → list_any (λ y. same_set (found_set y) (found_set f)) items ≡ true → map found_set items ≡ with_new same_set (map found_set items) (found_set f)
listed_already items f e = sym (ap (λ b. cond b (map found_set items) (map found_set items ++ found_set f ∷ [])) (tested (found_set f) items ∙ e))

-- none is, and the set is put last
listed_last : (items new : List Found) (f : Found) → list_any (λ y. same_set (found_set y) (found_set f)) items ≡ false → new ≡ items ++ f ∷ [] → map found_set new ≡ with_new same_set (map found_set items) (found_set f)
listed_last items new f e w =
    ap (map found_set) w ∙ map-append found_set items (f ∷ [])
    ∙ sym (ap (λ b. cond b (map found_set items) (map found_set items ++ found_set f ∷ [])) (tested (found_set f) items ∙ e))

pub listed_before : (listed : List RRset) (items : List Found) (f : Found) → map found_set items ≡ listed → list_any (λ y. same_set (found_set y) (found_set f)) items ≡ true → listed ≡ with_new same_set listed (found_set f)
listed_before listed items f v e = sym v ∙ listed_already items f e ∙ ap (λ sets. with_new same_set sets (found_set f)) v

-- the same where memory may be refused
pub pushed_last : {T E : Type 0} (result : Result T E) (listed : List RRset) (items new : List Found) (f : Found) → map found_set items ≡ listed → list_any (λ y. same_set (found_set y) (found_set f)) items ≡ false
    → OnOk result (new ≡ items ++ f ∷ []) → OnOk result (map found_set new ≡ with_new same_set listed (found_set f))
pushed_last (Ok x) listed items new f v e w = listed_last items new f e w ∙ ap (λ sets. with_new same_set sets (found_set f)) v
pushed_last (Err x) listed items new f v e w = tt

-- ---- equal sets have one key

same_key : (a b : RRset) → same_set a b ≡ true → set_key a ≡ set_key b
same_key a b e =
    let owners : lower a.owner ≡ lower b.owner = tells_apart exact_names (lower a.owner) (lower b.owner) (and_left _ _ e) in
    let types : a.record_type ≡ b.record_type = eqb-true a.record_type b.record_type (and_left _ _ (and_right _ _ e)) in
    λ i. key (owners i) (types i)

not_none : {X : Type 0} (o : Option X) → IsSome o → o ≡ None → ⊥
not_none None i e = true≢false (sym i)
not_none (Some x) i e = absurd cc

neither : (a b : Bool) → a ≡ false → b ≡ false → a || b ≡ false
neither a b e f = ap (λ x. x || b) e ∙ f

-- no set that has a place is equal to one whose key has none
none_equal : (s : RRset) (places : List (RrKey × ℕ)) (sets : List RRset) → AllByRecursion (λ x. IsSome (lookup (key_eq (set_key x)) places)) sets → lookup (key_eq (set_key s)) places ≡ None
    → list_any (λ y. same_set y s) sets ≡ false
none_equal s places [] a e = refl
none_equal s places (x ∷ sets) (i, a) e = neither (same_set x s) (list_any (λ y. same_set y s) sets) (by (same_set x s) refl) (none_equal s places sets a e)
  where
    by : (b : Bool) → same_set x s ≡ b → b ≡ false
    by true q = absurd (not_none (lookup (key_eq (set_key x)) places) i (ap (λ k. lookup (key_eq k) places) (same_key x s q) ∙ e))
    by false q = refl

-- so only the first few need be asked
pub few_asked : (items : List Found) (s : RRset) (places : List (RrKey × ℕ)) (k : RrKey) → HavePlaces (map found_set items) places → k ≡ set_key s → lookup (key_eq k) places ≡ None
    → list_any (λ f. same_set (found_set f) s) (take 16 items) ≡ list_any (λ f. same_set (found_set f) s) items
few_asked items s places k a q e =
    sym
    (ap (list_any (λ f. same_set (found_set f) s)) (sym (take-append-drop 16 items))
    ∙ list_any-append (λ f. same_set (found_set f) s) (take 16 items) (drop 16 items)
    ∙ ap (λ b. list_any (λ f. same_set (found_set f) s) (take 16 items) || b)
    (sym (tested s (drop 16 items)) ∙ ap (list_any (λ y. same_set y s)) (drop_mapped 16 items)
    ∙ none_equal s places (drop 16 (map found_set items)) a (ap (λ j. lookup (key_eq j) places) (sym q) ∙ e))
    ∙ no_more (list_any (λ f. same_set (found_set f) s) (take 16 items)))
  where
    drop_mapped : (n : ℕ) (fs : List Found) → map found_set (drop n fs) ≡ drop n (map found_set fs)
    drop_mapped zero fs = refl
    drop_mapped (suc n) [] = refl
    drop_mapped (suc n) (f ∷ fs) = drop_mapped n fs

    no_more : (b : Bool) → b || false ≡ b
    no_more true = refl
    no_more false = refl

-- ---- the places

-- few sets need no place
pub few_placed : (sets : List RRset) (places : List (RrKey × ℕ)) → length sets ≤ 16 → HavePlaces sets places
few_placed sets places h = subst (AllByRecursion (λ s. IsSome (lookup (key_eq (set_key s)) places))) (sym (drop_all 16 sets h)) tt

module _ (old new : List (RrKey × ℕ)) (k : RrKey) (place : ℕ) (put : (q : RrKey) → lookup (key_eq q) new ≡ cond (key_eq k q) (Some place) (lookup (key_eq q) old)) where
  -- a key that has a place keeps one
  kept : (q : RrKey) → IsSome (lookup (key_eq q) old) → IsSome (lookup (key_eq q) new)
  kept q i = subst IsSome (sym (put q)) (by (key_eq k q))
    where
      by : (b : Bool) → IsSome (cond b (Some place) (lookup (key_eq q) old))
      by true = refl
      by false = i

  all_kept : (sets : List RRset) → AllByRecursion (λ s. IsSome (lookup (key_eq (set_key s)) old)) sets → AllByRecursion (λ s. IsSome (lookup (key_eq (set_key s)) new)) sets
  all_kept [] a = tt
  all_kept (s ∷ sets) (i, a) = (kept (set_key s) i, all_kept sets a)

  pub still_placed : (sets : List RRset) → HavePlaces sets old → HavePlaces sets new
  still_placed sets a = all_kept (drop 16 sets) a

  -- a set whose key is put among the places may come last
  pub one_more_placed : (sets : List RRset) (s : RRset) → 16 ≤ length sets → k ≡ set_key s → HavePlaces sets old → HavePlaces (sets ++ s ∷ []) new
  one_more_placed sets s h e a =
      subst (AllByRecursion (λ x. IsSome (lookup (key_eq (set_key x)) new))) (sym (drop-append-le 16 sets (s ∷ []) h)) (pushed (drop 16 sets) (still_placed sets a))
    where
      found : IsSome (lookup (key_eq (set_key s)) new)
      found = subst (λ q. IsSome (lookup (key_eq q) new)) e (subst IsSome (sym (put k ∙ ap (λ b. cond b (Some place) (lookup (key_eq k) old)) (key_itself k))) refl)

      pushed : (xs : List RRset) → AllByRecursion (λ x. IsSome (lookup (key_eq (set_key x)) new)) xs → AllByRecursion (λ x. IsSome (lookup (key_eq (set_key x)) new)) (xs ++ s ∷ [])
      pushed [] a = (found, tt)
      pushed (x ∷ xs) (i, a) = (i, pushed xs a)

-- ---- a set that is put last, where memory may be refused

longer : (items new : List Found) (f : Found) → new ≡ items ++ f ∷ [] → length (map found_set new) ≡ length items + 1
longer items new f e = length-map new found_set ∙ ap length e ∙ length-append items (f ∷ [])

pub few_pushed : {T E : Type 0} (result : Result T E) (items new : List Found) (f : Found) (places : List (RrKey × ℕ)) → length items < 16 → OnOk result (new ≡ items ++ f ∷ []) → OnErr result (new ≡ items)
    → HavePlaces (map found_set new) places
few_pushed (Ok x) items new f places h ok err = few_placed (map found_set new) places (let e = longer items new f ok in omega arith)
few_pushed (Err x) items new f places h ok err = few_placed (map found_set new) places (let e : length (map found_set new) ≡ length items = length-map new found_set ∙ ap length err in omega arith)

pub many_pushed : {T E : Type 0} (result : Result T E) (items new : List Found) (f : Found) (before after : List (RrKey × ℕ)) (k : RrKey) (place : ℕ)
    → ((q : RrKey) → lookup (key_eq q) after ≡ cond (key_eq k q) (Some place) (lookup (key_eq q) before)) → 16 ≤ length items → k ≡ set_key (found_set f)
    → OnOk result (new ≡ items ++ f ∷ []) → OnErr result (new ≡ items) → HavePlaces (map found_set items) before → HavePlaces (map found_set new) after
many_pushed (Ok x) items new f before after k place put h e ok err a =
    subst (λ sets. HavePlaces sets after) (sym (ap (map found_set) ok ∙ map-append found_set items (f ∷ [])))
    (one_more_placed before after k place put (map found_set items) (found_set f) (let l : length (map found_set items) ≡ length items = length-map items found_set in omega arith) e a)
many_pushed (Err x) items new f before after k place put h e ok err a =
    subst (λ items. HavePlaces (map found_set items) after) (sym err) (still_placed before after k place put (map found_set items) a)

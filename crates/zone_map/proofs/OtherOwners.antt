-- The owners of sets of other types than those of denial: in order, each once, and while sets are put in and taken out
use Rattle.std.proofs.Common.{◌≡◌, ◌&&◌, ◌||◌, not, Bool, true, false, cond, List, [], ◌∷◌, ◌++◌, refl, sym, ap, ◌∙◌, true≢false, ◌⊎◌, inl, inr, Ordering, Less, Equal, Greater}
use Rattle.std.specs.Prelude.{Some, None}
use Rattle.std.specs.BTreeMap.{insert_entry}
use Rattle.std.specs.BTreeSet.{BTreeSet, insert_key, IsFromIterResult}
use Rattle.std.specs.List.{AllByRecursion, Contains, cons_option, list_any}
use Rattle.std.specs.List.Sorted.{IsStrictlySortedBy}
use Rattle.std.specs.Map.{keys_of, remove_entry}
use Rattle.std.specs.Ordering.{is_eq, match_ordering, nat_cmp, ordering_reverse}
use Rattle.std.proofs.lemmas.Cmp.{tied_itself}
use Rattle.std.proofs.lemmas.List.Folds.{list_any-append}
use Rattle.std.proofs.lemmas.Map.Lookups.{btree_set_from_contains}
use Rattle.zone_proto.specs.declared.rr_key.RrKey.{RrKey}
use Rattle.zone_proto.specs.Keys.{key_cmp, key_eq}
use Rattle.zone_proto.specs.Names.{Name, name_cmp, name_eq, is_at_or_above}
use Rattle.zone_proto.specs.Order.{is_upto}
use Rattle.zone_proto.specs.Sets.{RRset}
use Rattle.zone_proto.proofs.Members.{any_from_In, Contains-In}
use Rattle.zone_proto.proofs.Names.NameTree.{name_eq-Decides}
use Rattle.zone_proto.proofs.Names.Tree.{name_order}
use Rattle.zone_proto.proofs.Ordering.KeyOrder.{key_same}
use Rattle.zone_proto.proofs.Ordering.Orders.{upto_cases}
use Rattle.zone_map.specs.DenialOwners.{once_before, names_of_others, other_owners, HasOwners}
use Rattle.zone_map.specs.Upserts.{is_denial_type}
use Rattle.zone_map.specs.Wildcards.{exists}
use Rattle.zone_map.specs.Zones.{Sets, types_at}
use Rattle.zone_map.proofs.Lists.{then_upto}
use Rattle.zone_map.proofs.Stored.{sorted_put, sorted_without}

-- ---- in order, each once

abbrev pub is_here : Name → Name → Bool
is_here q n = is_eq (name_cmp q n)

AllFrom : Name → List Name → Type 0
AllFrom n xs = AllByRecursion (λ x. is_upto name_cmp n x ≡ true) xs

later_too : (n x : Name) (xs : List Name) → name_cmp n x ≡ Less → AllByRecursion (λ y. name_cmp x y ≡ Less) xs → AllByRecursion (λ y. name_cmp n y ≡ Less) xs
later_too n x [] h a = tt
later_too n x (y ∷ ys) h a = (name_order.total.trans n x y h a.0, later_too n x ys h a.1)

once_ascends : (n : Name) (xs : List Name) → AllFrom n xs → IsStrictlySortedBy name_cmp xs → IsStrictlySortedBy name_cmp (once_before n xs)
unfolding IsStrictlySortedBy AllFrom
once_ascends n [] u s = (tt, tt)
once_ascends n (x ∷ xs) u s = by (name_eq n x) refl
  where
    by : (b : Bool) → name_eq n x ≡ b → IsStrictlySortedBy name_cmp (cond b (x ∷ xs) (n ∷ x ∷ xs))
    by true e = s
    by false e = ((first (upto_cases name_order n x u.0), later_too n x xs (first (upto_cases name_order n x u.0)) s.0), s)
      where
        first : (n ≡ x) ⊎ (name_cmp n x ≡ Less) → name_cmp n x ≡ Less
        first (inl same) = absurd (true≢false (sym ((name_eq-Decides n x).1 same) ∙ e))
        first (inr less) = less

once_from : (a n : Name) (xs : List Name) → is_upto name_cmp a n ≡ true → AllFrom a xs → AllFrom a (once_before n xs)
unfolding AllFrom
once_from a n [] h u = (h, tt)
once_from a n (x ∷ xs) h u = by (name_eq n x)
  where
    by : (b : Bool) → AllByRecursion (λ y. is_upto name_cmp a y ≡ true) (cond b (x ∷ xs) (n ∷ x ∷ xs))
    by true = u
    by false = (h, u)

others_from : (k : RrKey) (ks : List RrKey) → AllByRecursion (λ q. key_cmp k q ≡ Less) ks → AllFrom k.name (names_of_others ks)
unfolding AllFrom
others_from k [] a = tt
others_from k (q ∷ qs) a = by (is_denial_type q.record_type.0) (others_from k qs a.1)
  where
    by : (b : Bool) → AllByRecursion (λ y. is_upto name_cmp k.name y ≡ true) (names_of_others qs)
        → AllByRecursion (λ y. is_upto name_cmp k.name y ≡ true) (cond b (names_of_others qs) (once_before q.name (names_of_others qs)))
    by true ih = ih
    by false ih = once_from k.name q.name (names_of_others qs) (then_upto (name_cmp k.name q.name) (nat_cmp k.record_type.0 q.record_type.0) a.0) ih

pub others_ascend : (ks : List RrKey) → IsStrictlySortedBy key_cmp ks → IsStrictlySortedBy name_cmp (names_of_others ks)
unfolding IsStrictlySortedBy
others_ascend [] s = tt
others_ascend (k ∷ ks) s = by (is_denial_type k.record_type.0) (others_ascend ks s.1)
  where
    by : (b : Bool) → IsStrictlySortedBy name_cmp (names_of_others ks) → IsStrictlySortedBy name_cmp (cond b (names_of_others ks) (once_before k.name (names_of_others ks)))
    by true ih = ih
    by false ih = once_ascends k.name (names_of_others ks) (others_from k ks s.0) ih

-- ---- which names they are

-- a key of such a set whose name passes a test
abbrev pub is_other : (Name → Bool) → RrKey → Bool
is_other P k = not (is_denial_type k.record_type.0) && P k.name

module _ (P : Name → Bool) where
  again : (b r : Bool) → b || r ≡ b || (b || r)
  again true r = refl
  again false r = refl

  once_any : (n : Name) (xs : List Name) → list_any P (once_before n xs) ≡ P n || list_any P xs
  once_any n [] = refl
  once_any n (x ∷ xs) = by (name_eq n x) refl
    where
      by : (b : Bool) → name_eq n x ≡ b → list_any P (cond b (x ∷ xs) (n ∷ x ∷ xs)) ≡ P n || (P x || list_any P xs)
      by true e = again (P x) (list_any P xs) ∙ ap (λ y. P y || (P x || list_any P xs)) (sym ((name_eq-Decides n x).0 e))
      by false e = refl

  pub others_any : (ks : List RrKey) → list_any P (names_of_others ks) ≡ list_any (is_other P) ks
  others_any [] = refl
  others_any (k ∷ ks) = by (is_denial_type k.record_type.0) (others_any ks)
    where
      by : (b : Bool) → list_any P (names_of_others ks) ≡ list_any (is_other P) ks
          → list_any P (cond b (names_of_others ks) (once_before k.name (names_of_others ks))) ≡ (not b && P k.name) || list_any (is_other P) ks
      by true ih = ih
      by false ih = once_any k.name (names_of_others ks) ∙ ap (λ r. P k.name || r) ih

  inserted_any : (xs : List Name) (n : Name) → list_any P (insert_key name_cmp xs n) ≡ P n || list_any P xs
  inserted_any [] n = refl
  inserted_any (x ∷ xs) n = by (name_cmp n x) refl (inserted_any xs n)
    where
      turned : (a b c : Bool) → a || (b || c) ≡ b || (a || c)
      turned true true c = refl
      turned true false c = refl
      turned false b c = refl

      by : (o : Ordering) → name_cmp n x ≡ o → list_any P (insert_key name_cmp xs n) ≡ P n || list_any P xs
          → list_any P (match_ordering o (n ∷ x ∷ xs) (x ∷ xs) (x ∷ insert_key name_cmp xs n)) ≡ P n || (P x || list_any P xs)
      by Less g ih = refl
      by Equal g ih = again (P x) (list_any P xs) ∙ ap (λ y. P y || (P x || list_any P xs)) (sym (name_order.exact n x g))
      by Greater g ih = ap (λ r. P x || r) ih ∙ turned (P x) (P n) (list_any P xs)

inserted_above : (a : Name) (xs : List Name) (n : Name) → name_cmp a n ≡ Less → AllByRecursion (λ y. name_cmp a y ≡ Less) xs → AllByRecursion (λ y. name_cmp a y ≡ Less) (insert_key name_cmp xs n)
inserted_above a [] n h u = (h, tt)
inserted_above a (x ∷ xs) n h u = by (name_cmp n x) (inserted_above a xs n h u.1)
  where
    by : (o : Ordering) → AllByRecursion (λ y. name_cmp a y ≡ Less) (insert_key name_cmp xs n) → AllByRecursion (λ y. name_cmp a y ≡ Less) (match_ordering o (n ∷ x ∷ xs) (x ∷ xs) (x ∷ insert_key name_cmp xs n))
    by Less i = (h, u)
    by Equal i = u
    by Greater i = (u.0, i)

inserted_ascends : (xs : List Name) (n : Name) → IsStrictlySortedBy name_cmp xs → IsStrictlySortedBy name_cmp (insert_key name_cmp xs n)
unfolding IsStrictlySortedBy
inserted_ascends [] n s = (tt, tt)
inserted_ascends (x ∷ xs) n s = by (name_cmp n x) refl (inserted_ascends xs n s.1)
  where
    by : (o : Ordering) → name_cmp n x ≡ o → IsStrictlySortedBy name_cmp (insert_key name_cmp xs n) → IsStrictlySortedBy name_cmp (match_ordering o (n ∷ x ∷ xs) (x ∷ xs) (x ∷ insert_key name_cmp xs n))
    by Less g i = ((g, later_too n x xs g s.0), s)
    by Equal g i = s
    by Greater g i = (inserted_above x xs n (name_order.total.antisymm x n ∙ ap ordering_reverse g) s.0, i)

-- names in order are told by which they are
pub same_names : (xs ys : List Name) → IsStrictlySortedBy name_cmp xs → IsStrictlySortedBy name_cmp ys → ((q : Name) → list_any (is_here q) xs ≡ list_any (is_here q) ys) → xs ≡ ys
same_names xs ys s t h = btree_set_from_contains name_order.total (record { keys = xs }) (record { keys = ys }) s t h (λ a b. name_order.exact a b)

-- ---- a set that is put in

put_any : (p : RrKey → Bool) (m : Sets) (k : RrKey) (v : RRset) → list_any p (keys_of (insert_entry key_cmp m k v)) ≡ p k || list_any p (keys_of m)
put_any p [] k v = refl
put_any p (e ∷ m) k v = by (key_cmp k e.0) refl (put_any p m k v)
  where
    again : (b r : Bool) → b || r ≡ b || (b || r)
    again true r = refl
    again false r = refl

    turned : (a b c : Bool) → a || (b || c) ≡ b || (a || c)
    turned true true c = refl
    turned true false c = refl
    turned false b c = refl

    by : (o : Ordering) → key_cmp k e.0 ≡ o → list_any p (keys_of (insert_entry key_cmp m k v)) ≡ p k || list_any p (keys_of m)
        → list_any p (keys_of (match_ordering o ((k, v) ∷ e ∷ m) ((e.0, v) ∷ m) (e ∷ insert_entry key_cmp m k v))) ≡ p k || (p e.0 || list_any p (keys_of m))
    by Less g ih = refl
    by Equal g ih = again (p e.0) (list_any p (keys_of m)) ∙ ap (λ (j : RrKey). p j || (p e.0 || list_any p (keys_of m))) (sym (key_same k e.0 (ap is_eq g)))
    by Greater g ih = ap (λ r. p e.0 || r) ih ∙ turned (p e.0) (p k) (list_any p (keys_of m))

-- the owner of such a set comes among them
pub other_put : (m : Sets) (k : RrKey) (v : RRset) → is_denial_type k.record_type.0 ≡ false → IsStrictlySortedBy key_cmp (keys_of m) → insert_key name_cmp (other_owners m) k.name ≡ other_owners (insert_entry key_cmp m k v)
other_put m k v plain s =
    same_names (insert_key name_cmp (other_owners m) k.name) (other_owners (insert_entry key_cmp m k v)) (inserted_ascends (other_owners m) k.name (others_ascend (keys_of m) s))
    (others_ascend (keys_of (insert_entry key_cmp m k v)) (sorted_put m k v s))
    (λ q.
    inserted_any (is_here q) (other_owners m) k.name
    ∙ (λ i. (not (sym plain i) && is_here q k.name) || others_any (is_here q) (keys_of m) i)
    ∙ sym (put_any (is_other (is_here q)) m k v)
    ∙ sym (others_any (is_here q) (keys_of (insert_entry key_cmp m k v))))

-- and with a set of denial they stay
pub denial_put : (m : Sets) (k : RrKey) (v : RRset) → is_denial_type k.record_type.0 ≡ true → other_owners (insert_entry key_cmp m k v) ≡ other_owners m
denial_put [] k v h = ap (λ b. cond b [] (once_before k.name [])) h
denial_put (e ∷ m) k v h = by (key_cmp k e.0) (denial_put m k v h)
  where
    by : (o : Ordering) → other_owners (insert_entry key_cmp m k v) ≡ other_owners m
        → other_owners (match_ordering o ((k, v) ∷ e ∷ m) ((e.0, v) ∷ m) (e ∷ insert_entry key_cmp m k v)) ≡ other_owners (e ∷ m)
    by Less ih = ap (λ b. cond b (other_owners (e ∷ m)) (once_before k.name (other_owners (e ∷ m)))) h
    by Equal ih = refl
    by Greater ih = ap (λ ns. cond (is_denial_type e.0.record_type.0) ns (once_before e.0.name ns)) ih

-- ---- a set that is taken out

pub denial_removed : (m : Sets) (k : RrKey) → is_denial_type k.record_type.0 ≡ true → other_owners (remove_entry (key_eq k) m) ≡ other_owners m
denial_removed [] k h = refl
denial_removed (e ∷ m) k h = by (key_eq k e.0) refl (denial_removed m k h)
  where
    by : (b : Bool) → key_eq k e.0 ≡ b → other_owners (remove_entry (key_eq k) m) ≡ other_owners m → other_owners (cond b m (e ∷ remove_entry (key_eq k) m)) ≡ other_owners (e ∷ m)
    by true g ih =
        sym
        (ap (λ b. cond b (other_owners m) (once_before e.0.name (other_owners m)))
        (ap (λ (j : RrKey). is_denial_type j.record_type.0) (sym (key_same k e.0 g)) ∙ h))
    by false g ih = ap (λ ns. cond (is_denial_type e.0.record_type.0) ns (once_before e.0.name ns)) ih

module _ (p : RrKey → Bool) (k : RrKey) where
  -- a test that the key doesn't pass
  removed_any : (m : Sets) → p k ≡ false → list_any p (keys_of (remove_entry (key_eq k) m)) ≡ list_any p (keys_of m)
  removed_any [] h = refl
  removed_any (e ∷ m) h = by (key_eq k e.0) refl (removed_any m h)
    where
      by : (b : Bool) → key_eq k e.0 ≡ b → list_any p (keys_of (remove_entry (key_eq k) m)) ≡ list_any p (keys_of m)
          → list_any p (keys_of (cond b m (e ∷ remove_entry (key_eq k) m))) ≡ p e.0 || list_any p (keys_of m)
      by true g ih = ap (λ b. b || list_any p (keys_of m)) (sym (ap p (sym (key_same k e.0 g)) ∙ h))
      by false g ih = ap (λ r. p e.0 || r) ih

  -- what is left was there
  left_any : (m : Sets) → list_any p (keys_of (remove_entry (key_eq k) m)) ≡ true → list_any p (keys_of m) ≡ true
  left_any [] h = h
  left_any (e ∷ m) h = by (key_eq k e.0) h (left_any m)
    where
      more : (a b c : Bool) → (b ≡ true → c ≡ true) → a || b ≡ true → a || c ≡ true
      more true b c f h = refl
      more false b c f h = f h

      behind : (a c : Bool) → c ≡ true → a || c ≡ true
      behind true c h = refl
      behind false c h = h

      by : (b : Bool) → list_any p (keys_of (cond b m (e ∷ remove_entry (key_eq k) m))) ≡ true → (list_any p (keys_of (remove_entry (key_eq k) m)) ≡ true → list_any p (keys_of m) ≡ true)
          → p e.0 || list_any p (keys_of m) ≡ true
      by true h ih = behind (p e.0) (list_any p (keys_of m)) h
      by false h ih = more (p e.0) (list_any p (keys_of (remove_entry (key_eq k) m))) (list_any p (keys_of m)) ih h

-- whether a name owns such a set
same_test : (q n : Name) → is_here q n ≡ name_eq q n
same_test q n = by (is_here q n) refl (name_eq q n) refl
  where
    here : (o : Ordering) → name_cmp q n ≡ o → is_eq o ≡ true → q ≡ n
    here Less g h = absurd (true≢false (sym h))
    here Equal g h = name_order.exact q n g
    here Greater g h = absurd (true≢false (sym h))

    by : (b : Bool) → is_here q n ≡ b → (c : Bool) → name_eq q n ≡ c → b ≡ c
    by true g true h = refl
    by true g false h = absurd (true≢false (sym ((name_eq-Decides q n).1 (here (name_cmp q n) refl g)) ∙ h))
    by false g true h = absurd (true≢false (sym (ap (λ x. is_here q x) (sym ((name_eq-Decides q n).0 h)) ∙ ap is_eq (tied_itself name_order.total q)) ∙ g))
    by false g false h = refl

abbrev pub owns_one : Sets → Name → Bool
owns_one m n = list_any (λ t. not (is_denial_type t)) (types_at m n)

types_any : (q : Name) (m : Sets) → owns_one m q ≡ list_any (is_other (is_here q)) (keys_of m)
types_any q [] = refl
types_any q (e ∷ m) =
    by (name_eq q e.0.name) (not (is_denial_type e.0.record_type.0)) (types_any q m)
    ∙ ap (λ b. (not (is_denial_type e.0.record_type.0) && b) || list_any (is_other (is_here q)) (keys_of m)) (sym (same_test q e.0.name))
  where
    by : (b c : Bool) → owns_one m q ≡ list_any (is_other (is_here q)) (keys_of m)
        → list_any (λ t. not (is_denial_type t)) (cons_option (cond b (Some e.0.record_type.0) None) (types_at m q)) ≡ (not (is_denial_type e.0.record_type.0) && b) || list_any (is_other (is_here q)) (keys_of m)
    by true c ih = ap (λ r. not (is_denial_type e.0.record_type.0) || r) ih ∙ ap (λ b. b || list_any (is_other (is_here q)) (keys_of m)) (whole (not (is_denial_type e.0.record_type.0)))
      where
        whole : (b : Bool) → b ≡ b && true
        whole true = refl
        whole false = refl
    by false c ih = ih ∙ ap (λ b. b || list_any (is_other (is_here q)) (keys_of m)) (none (not (is_denial_type e.0.record_type.0)))
      where
        none : (b : Bool) → false ≡ b && false
        none true = refl
        none false = refl

module _ (m : Sets) (k : RrKey) (s : IsStrictlySortedBy key_cmp (keys_of m)) where
  rest : Sets
  rest = remove_entry (key_eq k) m

  rest_ascend : IsStrictlySortedBy name_cmp (other_owners (remove_entry (key_eq k) m))
  rest_ascend = others_ascend (keys_of (remove_entry (key_eq k) m)) (sorted_without k m s)

  -- of another name as many are left as there were
  apart : (q : Name) → is_here q k.name ≡ false → list_any (is_other (is_here q)) (keys_of (remove_entry (key_eq k) m)) ≡ list_any (is_other (is_here q)) (keys_of m)
  apart q h = removed_any (is_other (is_here q)) k m (ap (λ b. not (is_denial_type k.record_type.0) && b) h ∙ none (not (is_denial_type k.record_type.0)))
    where
      none : (b : Bool) → b && false ≡ false
      none true = refl
      none false = refl

  named : (q : Name) → is_here q k.name ≡ true → q ≡ k.name
  named q h = (name_eq-Decides q k.name).0 (sym (same_test q k.name) ∙ h)

  -- the name owns another such set
  pub kept : owns_one (remove_entry (key_eq k) m) k.name ≡ true → other_owners m ≡ other_owners (remove_entry (key_eq k) m)
  kept left =
      same_names (other_owners m) (other_owners (remove_entry (key_eq k) m)) (others_ascend (keys_of m) s) rest_ascend
      (λ q. others_any (is_here q) (keys_of m) ∙ by q (is_here q k.name) refl ∙ sym (others_any (is_here q) (keys_of (remove_entry (key_eq k) m))))
    where
      by : (q : Name) (b : Bool) → is_here q k.name ≡ b → list_any (is_other (is_here q)) (keys_of m) ≡ list_any (is_other (is_here q)) (keys_of (remove_entry (key_eq k) m))
      by q true h =
          let there : list_any (is_other (is_here q)) (keys_of (remove_entry (key_eq k) m)) ≡ true =
          sym (types_any q (remove_entry (key_eq k) m)) ∙ ap (owns_one (remove_entry (key_eq k) m)) (named q h) ∙ left in
          left_any (is_other (is_here q)) k m there ∙ sym there
      by q false h = sym (apart q h)

  -- it owns none any more
  pub gone : owns_one (remove_entry (key_eq k) m) k.name ≡ false → (names : List Name) → IsStrictlySortedBy name_cmp names
      → ((q : Name) → list_any (is_here q) names ≡ cond (is_here k.name q) false (list_any (is_here q) (other_owners m))) → names ≡ other_owners (remove_entry (key_eq k) m)
  gone left names ordered are =
      same_names names (other_owners (remove_entry (key_eq k) m)) ordered rest_ascend
      (λ q. are q ∙ by q (is_here k.name q) refl ∙ sym (others_any (is_here q) (keys_of (remove_entry (key_eq k) m))))
    where
      turned : (q : Name) → is_here q k.name ≡ is_here k.name q
      turned q = ap is_eq (name_order.total.antisymm q k.name) ∙ by (name_cmp k.name q)
        where
          by : (o : Ordering) → is_eq (ordering_reverse o) ≡ is_eq o
          by Less = refl
          by Equal = refl
          by Greater = refl

      by : (q : Name) (b : Bool) → is_here k.name q ≡ b → cond b false (list_any (is_here q) (other_owners m)) ≡ list_any (is_other (is_here q)) (keys_of (remove_entry (key_eq k) m))
      by q true h = sym (sym (types_any q (remove_entry (key_eq k) m)) ∙ ap (owns_one (remove_entry (key_eq k) m)) (named q (turned q ∙ h)) ∙ left)
      by q false h = others_any (is_here q) (keys_of m) ∙ sym (apart q (turned q ∙ h))

-- ---- all at once

-- a pass over the entries: the names so far, and those of the entries that are left
abbrev pub AreLeft : List Name → Sets → Sets → Type 0
AreLeft names es m = (q : Name) → list_any (is_here q) names || list_any (is_other (is_here q)) (keys_of es) ≡ list_any (is_other (is_here q)) (keys_of m)

module _ (names : List Name) (es fs m : Sets) (e : RrKey × RRset) (is : es ≡ e ∷ fs) (left : AreLeft names es m) where
  front : (q : Name) → list_any (is_here q) names || (is_other (is_here q) e.0 || list_any (is_other (is_here q)) (keys_of fs)) ≡ list_any (is_other (is_here q)) (keys_of m)
  front q = ap (λ (d : Sets). list_any (is_here q) names || list_any (is_other (is_here q)) (keys_of d)) (sym is) ∙ left q

  pub denial_left : is_denial_type e.0.record_type.0 ≡ true → AreLeft names fs m
  denial_left h = λ q.
      ap (λ b. list_any (is_here q) names || ((not b && is_here q e.0.name) || list_any (is_other (is_here q)) (keys_of fs))) (sym h) ∙ front q

  pub known_left : Contains names e.0.name → AreLeft names fs m
  known_left there = λ q. by q (is_here q e.0.name) refl ∙ front q
    where
      nothing : (a b c : Bool) → a || c ≡ a || ((b && false) || c)
      nothing a true c = refl
      nothing a false c = refl

      by : (q : Name) (b : Bool) → is_here q e.0.name ≡ b
          → list_any (is_here q) names || list_any (is_other (is_here q)) (keys_of fs) ≡ list_any (is_here q) names || (is_other (is_here q) e.0 || list_any (is_other (is_here q)) (keys_of fs))
      by q true h =
          let listed : list_any (is_here q) names ≡ true = any_from_In (is_here q) e.0.name names (Contains-In e.0.name names there) h in
          ap (λ b. b || list_any (is_other (is_here q)) (keys_of fs)) listed ∙ sym (ap (λ b. b || (is_other (is_here q) e.0 || list_any (is_other (is_here q)) (keys_of fs))) listed)
      by q false h =
          nothing (list_any (is_here q) names) (not (is_denial_type e.0.record_type.0)) (list_any (is_other (is_here q)) (keys_of fs))
          ∙ ap (λ b. list_any (is_here q) names || ((not (is_denial_type e.0.record_type.0) && b) || list_any (is_other (is_here q)) (keys_of fs))) (sym h)

  pub pushed_left : (more : List Name) → is_denial_type e.0.record_type.0 ≡ false → more ≡ names ++ e.0.name ∷ [] → AreLeft more fs m
  pushed_left more h pushed = λ q.
      ap (λ ns. list_any (is_here q) ns || list_any (is_other (is_here q)) (keys_of fs)) pushed
      ∙ ap (λ b. b || list_any (is_other (is_here q)) (keys_of fs)) (list_any-append (is_here q) names (e.0.name ∷ []))
      ∙ joined (list_any (is_here q) names) (is_here q e.0.name) (list_any (is_other (is_here q)) (keys_of fs))
      ∙ ap (λ b. list_any (is_here q) names || ((not b && is_here q e.0.name) || list_any (is_other (is_here q)) (keys_of fs))) (sym h)
      ∙ front q
    where
      joined : (a b c : Bool) → (a || (b || false)) || c ≡ a || (b || c)
      joined true b c = refl
      joined false true c = refl
      joined false false c = refl

pub all_left : (names : List Name) (es m : Sets) → AreLeft names es m → es ≡ [] → HasOwners names m
all_left names es m left is = λ q. behind (list_any (is_here q) names) ∙ ap (λ (d : Sets). list_any (is_here q) names || list_any (is_other (is_here q)) (keys_of d)) (sym is) ∙ left q
  where
    behind : (b : Bool) → b ≡ b || false
    behind true = refl
    behind false = refl

pub collected_others : (m : Sets) (names : List Name) (made : BTreeSet Name) → HasOwners names m → IsStrictlySortedBy key_cmp (keys_of m) → IsFromIterResult name_cmp names made → made.keys ≡ other_owners m
collected_others m names made has s from =
    same_names made.keys (other_owners m) from.1 (others_ascend (keys_of m) s) (λ q. from.0 q ∙ has q ∙ sym (others_any (is_here q) (keys_of m)))

-- ---- whether a name exists

any_same : {A : Type 0} (p q : A → Bool) (xs : List A) → ((x : A) → p x ≡ q x) → list_any p xs ≡ list_any q xs
any_same p q [] h = refl
any_same p q (x ∷ xs) h = λ i. h x i || any_same p q xs h i

swapped : (a b : Bool) → a && b ≡ b && a
swapped true true = refl
swapped true false = refl
swapped false true = refl
swapped false false = refl

pub exists_listed : (m : Sets) (n : Name) → list_any (is_at_or_above n) (other_owners m) ≡ exists m n
exists_listed m n =
    others_any (is_at_or_above n) (keys_of m)
    ∙ any_same (is_other (is_at_or_above n)) (λ (k : RrKey). is_at_or_above n k.name && not (is_denial_type k.record_type.0)) (keys_of m) (λ k. swapped (not (is_denial_type k.record_type.0)) (is_at_or_above n k.name))

-- What the first set from a key on, and the last one before a key, tell of the keys between: none has a set
use Rattle.std.proofs.Common.{◌≡◌, not, ◌&&◌, ◌++◌, Bool, true, false, cond, [], ◌∷◌, refl, sym, ap, ◌∙◌, true≢false, Ordering, Less, Equal, Greater}
use Rattle.std.specs.Prelude.{Some, None, is_some, filter}
use Rattle.std.specs.Ordering.{is_eq, is_gt, is_le, is_lt, ordering_reverse}
use Rattle.std.specs.List.{AllByRecursion}
use Rattle.std.specs.List.Sorted.{IsStrictlySortedBy}
use Rattle.std.specs.Map.{keys_of, lookup}
use Rattle.std.proofs.lemmas.Map.Entries.{lookup-filter-keys}
use Rattle.std.proofs.lemmas.Map.Keys.{sorted_head, sorted_tail}
use Rattle.zone_proto.specs.declared.rr_key.RrKey.{RrKey}
use Rattle.zone_proto.specs.Keys.{key_cmp, key_eq}
use Rattle.zone_proto.specs.Order.{is_upto, is_before}
use Rattle.zone_proto.specs.Sets.{RRset}
use Rattle.zone_proto.proofs.Ordering.KeyOrder.{key_same, key_itself}
use Rattle.zone_frozen.specs.Sets.{Sets, sets_from, sets_before}
use Rattle.zone_frozen.proofs.SetsFrom.{key_order}

module _ (k : RrKey) where
  -- the sets on either side of k are found there, and no others
  pub found_from : (m : Sets) (q : RrKey) → is_upto key_cmp k q ≡ true → lookup (key_eq q) (sets_from m k) ≡ lookup (key_eq q) m
  found_from m q h = lookup-filter-keys (key_eq q) (λ e. is_le (key_cmp k e) && true) true (λ e same. ap (λ j. is_le (key_cmp k j) && true) (sym (key_same q e same)) ∙ ap (λ b. b && true) h) m

  pub found_before : (m : Sets) (q : RrKey) → is_before key_cmp q k ≡ true → lookup (key_eq q) (sets_before m k) ≡ lookup (key_eq q) m
  found_before m q h = lookup-filter-keys (key_eq q) (λ e. not (is_le (key_cmp k e))) true (λ e same. ap (λ j. not (is_le (key_cmp k j))) (sym (key_same q e same)) ∙ by) m
    where
      by : not (is_le (key_cmp k q)) ≡ true
      by = ap (λ o. not (is_le o)) (key_order.total.antisymm k q) ∙ turned (key_cmp q k) h
        where
          turned : (o : Ordering) → is_lt o ≡ true → not (is_le (ordering_reverse o)) ≡ true
          turned Less g = refl
          turned Equal g = absurd (true≢false (sym g))
          turned Greater g = absurd (true≢false (sym g))

  -- without sets from k on, or before it, no key there has one
  pub none_from : (m : Sets) → sets_from m k ≡ [] → (q : RrKey) → is_upto key_cmp k q ≡ true → lookup (key_eq q) m ≡ None
  none_from m none q h = sym (found_from m q h) ∙ ap (lookup (key_eq q)) none

  pub none_before_key : (m : Sets) → sets_before m k ≡ [] → (q : RrKey) → is_before key_cmp q k ≡ true → lookup (key_eq q) m ≡ None
  none_before_key m none q h = sym (found_before m q h) ∙ ap (lookup (key_eq q)) none

  -- what is among the sets from k on isn't before k, and what is among those before it is
  upto_among : (e : RrKey × RRset) (m front rest : Sets) → sets_from m k ≡ front ++ e ∷ rest → is_upto key_cmp k e.0 ≡ true
  upto_among e [] [] rest is = absurd cc
  upto_among e [] (f ∷ front) rest is = absurd cc
  upto_among e (f ∷ m) front rest is = by (is_le (key_cmp k f.0)) refl front is (λ other h. upto_among e m other rest h)
    where
      by : (b : Bool) → is_le (key_cmp k f.0) ≡ b → (front : Sets) → cond (b && true) (f ∷ sets_from m k) (sets_from m k) ≡ front ++ e ∷ rest
          → ((other : Sets) → sets_from m k ≡ other ++ e ∷ rest → is_upto key_cmp k e.0 ≡ true) → is_upto key_cmp k e.0 ≡ true
      by true g [] h i = let same : f ≡ e = cc in ap (λ (x : RrKey × RRset). is_le (key_cmp k x.0)) (sym same) ∙ g
      by true g (x ∷ front) h i = let left : sets_from m k ≡ front ++ e ∷ rest = cc in i front left
      by false g front h i = i front h

  before_among : (e : RrKey × RRset) (m front rest : Sets) → sets_before m k ≡ front ++ e ∷ rest → is_le (key_cmp k e.0) ≡ false
  before_among e [] [] rest is = absurd cc
  before_among e [] (f ∷ front) rest is = absurd cc
  before_among e (f ∷ m) front rest is = by (is_le (key_cmp k f.0)) refl front is (λ other h. before_among e m other rest h)
    where
      by : (b : Bool) → is_le (key_cmp k f.0) ≡ b → (front : Sets) → cond (not b) (f ∷ sets_before m k) (sets_before m k) ≡ front ++ e ∷ rest
          → ((other : Sets) → sets_before m k ≡ other ++ e ∷ rest → is_le (key_cmp k e.0) ≡ false) → is_le (key_cmp k e.0) ≡ false
      by false g [] h i = let same : f ≡ e = cc in ap (λ (x : RrKey × RRset). is_le (key_cmp k x.0)) (sym same) ∙ g
      by false g (x ∷ front) h i = let left : sets_before m k ≡ front ++ e ∷ rest = cc in i front left
      by true g front h i = i front h

-- in sets in order, a key is that of one of them, or of none
among_above : (e q : RrKey) (es : Sets) → AllByRecursion (λ y. key_cmp e y ≡ Less) (keys_of es) → is_some (lookup (key_eq q) es) ≡ true → key_cmp e q ≡ Less
among_above e q [] a h = absurd cc
among_above e q (f ∷ es) a h = by (key_eq q f.0) refl h (among_above e q es a.1)
  where
    by : (b : Bool) → key_eq q f.0 ≡ b → is_some (cond b (Some f.1) (lookup (key_eq q) es)) ≡ true → (is_some (lookup (key_eq q) es) ≡ true → key_cmp e q ≡ Less) → key_cmp e q ≡ Less
    by true g h i = ap (key_cmp e) (key_same q f.0 g) ∙ a.0
    by false g h i = i h

-- the last of sets in order is behind the others
behind_front : (f : RrKey) (e : RrKey × RRset) (fs : Sets) → AllByRecursion (λ y. key_cmp f y ≡ Less) (keys_of (fs ++ e ∷ [])) → key_cmp f e.0 ≡ Less
behind_front f e [] a = a.0
behind_front f e (g ∷ fs) a = behind_front f e fs a.1

at_end : (e : RrKey × RRset) (front : Sets) → IsStrictlySortedBy key_cmp (keys_of (front ++ e ∷ [])) → lookup (key_eq e.0) (front ++ e ∷ []) ≡ Some e.1
at_end e [] sorted = ap (λ b. cond b (Some e.1) None) (key_itself e.0)
at_end e (f ∷ fs) sorted =
    let less : key_cmp f.0 e.0 ≡ Less = behind_front f.0 e fs (sorted_head key_cmp f.0 (keys_of (fs ++ e ∷ [])) sorted) in
    ap (λ o. cond (is_eq o) (Some f.1) (lookup (key_eq e.0) (fs ++ e ∷ []))) (key_order.total.antisymm e.0 f.0 ∙ ap ordering_reverse less)
    ∙ at_end e fs (sorted_tail key_cmp f.0 (keys_of (fs ++ e ∷ [])) sorted)

none_behind : (e : RrKey × RRset) (q : RrKey) (front : Sets) → IsStrictlySortedBy key_cmp (keys_of (front ++ e ∷ [])) → is_some (lookup (key_eq q) (front ++ e ∷ [])) ≡ true → is_lt (key_cmp e.0 q) ≡ false
none_behind e q [] sorted h = by (key_eq q e.0) refl h
  where
    equal : (o : Ordering) → is_eq o ≡ true → is_lt o ≡ false
    equal Less g = absurd (true≢false (sym g))
    equal Equal g = refl
    equal Greater g = refl

    by : (b : Bool) → key_eq q e.0 ≡ b → is_some (cond b (Some e.1) None) ≡ true → is_lt (key_cmp e.0 q) ≡ false
    by true g h = ap (λ x. is_lt (key_cmp e.0 x)) (key_same q e.0 g) ∙ equal (key_cmp e.0 e.0) (key_itself e.0)
    by false g h = absurd cc
none_behind e q (f ∷ fs) sorted h = by (key_eq q f.0) refl h (none_behind e q fs (sorted_tail key_cmp f.0 (keys_of (fs ++ e ∷ [])) sorted))
  where
    less : key_cmp f.0 e.0 ≡ Less
    less = behind_front f.0 e fs (sorted_head key_cmp f.0 (keys_of (fs ++ e ∷ [])) sorted)

    by : (b : Bool) → key_eq q f.0 ≡ b → is_some (cond b (Some f.1) (lookup (key_eq q) (fs ++ e ∷ []))) ≡ true
        → (is_some (lookup (key_eq q) (fs ++ e ∷ [])) ≡ true → is_lt (key_cmp e.0 q) ≡ false) → is_lt (key_cmp e.0 q) ≡ false
    by true g h i = ap (λ x. is_lt (key_cmp e.0 x)) (key_same q f.0 g) ∙ ap is_lt (key_order.total.antisymm e.0 f.0 ∙ ap ordering_reverse less)
    by false g h i = i h

-- a part of sets in order is in order
others_filtered : (P : RrKey → Type 0) (p : RrKey × RRset → Bool) (m : Sets) → AllByRecursion P (keys_of m) → AllByRecursion P (keys_of (filter p m))
others_filtered P p [] a = tt
others_filtered P p (e ∷ m) a = by (p e) (others_filtered P p m a.1)
  where
    by : (b : Bool) → AllByRecursion P (keys_of (filter p m)) → AllByRecursion P (keys_of (cond b (e ∷ filter p m) (filter p m)))
    by true i = (a.0, i)
    by false i = i

pub sorted_part : (p : RrKey × RRset → Bool) (m : Sets) → IsStrictlySortedBy key_cmp (keys_of m) → IsStrictlySortedBy key_cmp (keys_of (filter p m))
unfolding IsStrictlySortedBy
sorted_part p [] sorted = tt
sorted_part p (e ∷ m) sorted = by (p e) (sorted_part p m sorted.1)
  where
    by : (b : Bool) → IsStrictlySortedBy key_cmp (keys_of (filter p m)) → IsStrictlySortedBy key_cmp (keys_of (cond b (e ∷ filter p m) (filter p m)))
    by true i = (others_filtered (λ y. key_cmp e.0 y ≡ Less) p m sorted.0, i)
    by false i = i

pub sorted_from : (k : RrKey) (m : Sets) → IsStrictlySortedBy key_cmp (keys_of m) → IsStrictlySortedBy key_cmp (keys_of (sets_from m k))
sorted_from k m sorted = sorted_part _ m sorted

pub sorted_before : (k : RrKey) (m : Sets) → IsStrictlySortedBy key_cmp (keys_of m) → IsStrictlySortedBy key_cmp (keys_of (sets_before m k))
sorted_before k m sorted = sorted_part _ m sorted

-- the two words for an order that isn't strict
pub not_greater : (o : Ordering) → is_le o ≡ true → is_gt o ≡ false
not_greater Less h = refl
not_greater Equal h = refl
not_greater Greater h = absurd (true≢false (sym h))

pub upto_not_greater : (o : Ordering) → is_gt o ≡ false → is_le o ≡ true
upto_not_greater Less h = refl
upto_not_greater Equal h = refl
upto_not_greater Greater h = absurd (true≢false h)

module _ (k : RrKey) (m : Sets) (e : RrKey × RRset) where
  -- the first set from k on
  module _ (rest : Sets) (is : sets_from m k ≡ e ∷ rest) (ordered : IsStrictlySortedBy key_cmp (keys_of (e ∷ rest))) where
    pub first_upto_key : is_upto key_cmp k e.0 ≡ true
    first_upto_key = upto_among k e m [] rest is

    pub first_is_there : lookup (key_eq e.0) m ≡ Some e.1
    first_is_there =
        sym (found_from k m e.0 first_upto_key) ∙ ap (lookup (key_eq e.0)) is ∙ ap (λ b. cond b (Some e.1) (lookup (key_eq e.0) rest)) (key_itself e.0)

    pub first_is_least : (q : RrKey) → is_upto key_cmp k q ≡ true → is_some (lookup (key_eq q) m) ≡ true → is_upto key_cmp e.0 q ≡ true
    first_is_least q upto there = by (key_eq q e.0) refl (sym (ap is_some (sym (found_from k m q upto) ∙ ap (lookup (key_eq q)) is)) ∙ there)
      where
        by : (b : Bool) → key_eq q e.0 ≡ b → is_some (cond b (Some e.1) (lookup (key_eq q) rest)) ≡ true → is_upto key_cmp e.0 q ≡ true
        by true g h = ap is_le (ap (key_cmp e.0) (key_same q e.0 g)) ∙ itself e.0
          where
            itself : (x : RrKey) → is_le (key_cmp x x) ≡ true
            itself x = equal_upto (key_cmp x x) (key_itself x)
              where
                equal_upto : (o : Ordering) → is_eq o ≡ true → is_le o ≡ true
                equal_upto Less g = refl
                equal_upto Equal g = refl
                equal_upto Greater g = absurd (true≢false (sym g))
        by false g h = ap is_le (among_above e.0 q rest (sorted_head key_cmp e.0 (keys_of rest) ordered) h)

  -- the last set before k
  module _ (front : Sets) (is : sets_before m k ≡ front ++ e ∷ []) (ordered : IsStrictlySortedBy key_cmp (keys_of (front ++ e ∷ []))) where
    pub last_before_key : key_cmp e.0 k ≡ Less
    last_before_key = by (key_cmp k e.0) refl (before_among k e m front [] is)
      where
        by : (o : Ordering) → key_cmp k e.0 ≡ o → is_le o ≡ false → key_cmp e.0 k ≡ Less
        by Less g h = absurd (true≢false h)
        by Equal g h = absurd (true≢false h)
        by Greater g h = key_order.total.antisymm e.0 k ∙ ap ordering_reverse g

    pub last_is_there : lookup (key_eq e.0) m ≡ Some e.1
    last_is_there = sym (found_before k m e.0 (ap is_lt last_before_key)) ∙ ap (lookup (key_eq e.0)) is ∙ at_end e front ordered

    pub last_is_greatest : (q : RrKey) → is_before key_cmp q k ≡ true → is_some (lookup (key_eq q) m) ≡ true → is_lt (key_cmp e.0 q) ≡ false
    last_is_greatest q before there = none_behind e q front ordered (ap is_some (sym (ap (lookup (key_eq q)) is) ∙ found_before k m q before) ∙ there)

-- The last entry whose name isn't after a name, and which entries' names are at or above it
use Rattle.std.proofs.Common.{◌≡◌, ◌<◌, Bool, not, true, false, cond, List, [], ◌∷◌, ◌++◌, length, drop, map, refl, sym, ap, subst, ◌∙◌, arith, true≢false, ◌⊎◌, inl, inr, Ordering, Less, Equal, Greater}
use Rattle.std.specs.Prelude.{All, Option, Some, None, filter}
use Rattle.std.specs.BTreeMap.Range.{range_contains}
use Rattle.std.specs.List.{AllByRecursion}
use Rattle.std.specs.List.Sorted.{IsStrictlySortedBy}
use Rattle.std.specs.Ordering.{is_lt, is_le, ordering_reverse}
use Rattle.std.specs.declared.ops.Bound.TheVariants.{Included, Unbounded}
use Rattle.std.proofs.lemmas.List.{append_assoc, length-append}
use Rattle.std.proofs.lemmas.List.Elements.{All-nil, All-cons, All-head, All-tail}
use Rattle.std.proofs.lemmas.Map.Keys.{sorted_head, sorted_tail}
use Rattle.zone_proto.specs.Names.{Name, name_cmp, is_at_or_above, IsAbove, IsAtOrAbove}
use Rattle.zone_proto.specs.Order.{is_upto}
use Rattle.zone_proto.proofs.Names.NameTree.{above_is_less, is_at_or_above_sound, is_at_or_above_complete}
use Rattle.zone_proto.proofs.Names.Tree.{name_order, above_cases, together}
use Rattle.zone_proto.proofs.Ordering.Orders.{irrefl, asym, upto_before, upto_same, upto_cases}
use Rattle.zone_origins.specs.Nearest.{IsMeeting, IsNearest, IsNearestIfAny}
use Rattle.zone_origins.proofs.Meetings.{above_all}

-- ---- facts of each element

weaken : {X : Type 0} (P Q : X → Type 0) → ((x : X) → P x → Q x) → (xs : List X) → AllByRecursion P xs → AllByRecursion Q xs
weaken P Q f [] h = tt
weaken P Q f (x ∷ xs) h = (f x h.0, weaken P Q f xs h.1)

to_all : {X : Type 0} (P : X → Type 0) (xs : List X) → AllByRecursion P xs → All P xs
to_all P [] h = All-nil P
to_all P (x ∷ xs) h = All-cons P x xs h.0 (to_all P xs h.1)

-- what holds of each element is turned into something else at each
each : {X : Type 0} (P Q : X → Type 0) (xs : List X) → AllByRecursion (λ x. P x → Q x) xs → All P xs → All Q xs
each P Q [] h a = All-nil Q
each P Q (x ∷ xs) h a = All-cons Q x xs (h.0 (All-head P x xs a)) (each P Q xs h.1 (All-tail P x xs a))

in_front : {X : Type 0} (P : X → Type 0) (xs ys : List X) → AllByRecursion P (xs ++ ys) → AllByRecursion P xs
in_front P [] ys h = tt
in_front P (x ∷ xs) ys h = (h.0, in_front P xs ys h.1)

in_rest : {X : Type 0} (P : X → Type 0) (xs ys : List X) → AllByRecursion P (xs ++ ys) → AllByRecursion P ys
in_rest P [] ys h = h
in_rest P (x ∷ xs) ys h = in_rest P xs ys h.1

in_both : {X : Type 0} (P : X → Type 0) (xs ys : List X) → AllByRecursion P xs → AllByRecursion P ys → AllByRecursion P (xs ++ ys)
in_both P [] ys h k = k
in_both P (x ∷ xs) ys h k = (h.0, in_both P xs ys h.1 k)

-- ---- names

-- of two names at or above one name, one is at or above the other
nested : (a b f g : Name) → f ++ a ≡ g ++ b → IsAtOrAbove a b ⊎ IsAtOrAbove b a
nested a b [] g e = inr (g, e)
nested a b (l ∷ f) [] e = inl (l ∷ f, sym e)
nested a b (l ∷ f) (m ∷ g) e = nested a b f g (ap (drop 1) e)

-- and the one that comes before the other is the shorter
shorter : (a b x : Name) → name_cmp a b ≡ Less → IsAtOrAbove a x → IsAtOrAbove b x → length a < length b
shorter a b x less h k = by (nested a b h.0 k.0 (sym h.1 ∙ k.1))
  where
    long : (a ≡ b) ⊎ IsAbove a b → length a < length b
    long (inl e) = absurd (irrefl name_order a (ap (name_cmp a) e ∙ less))
    long (inr (l, front, e)) = omega (arith, ap length e, length-append (l ∷ front) a)

    not_before : (b ≡ a) ⊎ IsAbove b a → ⊥
    not_before (inl e) = irrefl name_order a (ap (name_cmp a) (sym e) ∙ less)
    not_before (inr r) = asym name_order a b less (above_is_less b a r)

    by : IsAtOrAbove a b ⊎ IsAtOrAbove b a → length a < length b
    by (inl below) = long (above_cases a b below)
    by (inr over) = absurd (not_before (above_cases b a over))

-- a name that is after another isn't above it
after_not_above : (y x : Name) → is_upto name_cmp y x ≡ false → is_at_or_above y x ≡ false
after_not_above y x h = by (is_at_or_above y x) refl
  where
    upto : (y ≡ x) ⊎ IsAbove y x → is_upto name_cmp y x ≡ true
    upto (inl e) = upto_same name_order y x e
    upto (inr r) = upto_before name_order y x (above_is_less y x r)

    by : (b : Bool) → is_at_or_above y x ≡ b → b ≡ false
    by true g = absurd (true≢false (sym (upto (above_cases y x (is_at_or_above_sound y x g))) ∙ h))
    by false g = refl

-- what precedes a name that isn't after another isn't either
before_upto : (a b c : Name) → name_cmp a b ≡ Less → is_upto name_cmp b c ≡ true → is_upto name_cmp a c ≡ true
before_upto a b c h k = by (upto_cases name_order b c k)
  where
    by : (b ≡ c) ⊎ (name_cmp b c ≡ Less) → is_upto name_cmp a c ≡ true
    by (inl e) = upto_before name_order a c (ap (name_cmp a) (sym e) ∙ h)
    by (inr l) = upto_before name_order a c (name_order.total.trans a b c h l)

-- tests that tell alike
alike : (b c : Bool) → (b ≡ true → c ≡ true) → (c ≡ true → b ≡ true) → b ≡ c
alike true c f g = sym (f refl)
alike false true f g = g refl
alike false false f g = refl

upto_bound : (x y : Name) → range_contains name_cmp Unbounded (Included x) y ≡ is_upto name_cmp y x
upto_bound x y = by (name_cmp x y) ∙ sym (ap is_le (name_order.total.antisymm y x))
  where
    by : (c : Ordering) → not (is_lt c) ≡ is_le (ordering_reverse c)
    by Less = refl
    by Equal = refl
    by Greater = refl

-- ---- entries in order

abbrev names : {V : Type 0} → List (Name × V) → List Name
names es = map (λ e. e.0) es

module _ {V : Type 0} (x : Name) where
  -- those whose names aren't after x
  abbrev upto : List (Name × V) → List (Name × V)
  upto es = filter (λ e. range_contains name_cmp Unbounded (Included x) e.0) es

  abbrev IsUpto : Name × V → Type 0
  IsUpto y = is_upto name_cmp y.0 x ≡ true

  abbrev IsAfter : Name × V → Type 0
  IsAfter y = is_upto name_cmp y.0 x ≡ false

  taken : (e : Name × V) (es : List (Name × V)) → IsUpto e → upto (e ∷ es) ≡ e ∷ upto es
  taken e es h = ap (λ b. cond b (e ∷ upto es) (upto es)) (upto_bound x e.0 ∙ h)

  left_out : (e : Name × V) (es : List (Name × V)) → IsAfter e → upto (e ∷ es) ≡ upto es
  left_out e es h = ap (λ b. cond b (e ∷ upto es) (upto es)) (upto_bound x e.0 ∙ h)

  all_left_out : (es : List (Name × V)) → AllByRecursion IsAfter es → upto es ≡ []
  all_left_out [] h = refl
  all_left_out (e ∷ es) h = left_out e es h.0 ∙ all_left_out es h.1

  -- behind one that is after x all are
  later : (e : Name) (es : List (Name × V)) → AllByRecursion (λ k. name_cmp e k ≡ Less) (names es) → is_upto name_cmp e x ≡ false → AllByRecursion IsAfter es
  later e [] s h = tt
  later e (y ∷ es) s h = (by (is_upto name_cmp y.0 x) refl, later e es s.1 h)
    where
      by : (b : Bool) → is_upto name_cmp y.0 x ≡ b → b ≡ false
      by true k = absurd (true≢false (sym (before_upto e y.0 x s.0 k) ∙ h))
      by false k = refl

  -- the entries are in two parts
  record IsCut (es : List (Name × V)) : Type 0 where
    pub beyond : List (Name × V)
    pub stands : es ≡ upto es ++ beyond
    pub behind : AllByRecursion IsAfter beyond

  cut : (es : List (Name × V)) → IsStrictlySortedBy name_cmp (names es) → IsCut es
  cut [] s = record { beyond = []; stands = refl; behind = tt }
  cut (e ∷ es) s = by (is_upto name_cmp e.0 x) refl (cut es (sorted_tail name_cmp e.0 (names es) s))
    where
      by : (b : Bool) → is_upto name_cmp e.0 x ≡ b → IsCut es → IsCut (e ∷ es)
      by true h c = record { beyond = c.beyond; stands = ap (λ zs. e ∷ zs) c.stands ∙ ap (λ zs. zs ++ c.beyond) (sym (taken e es h)); behind = c.behind }
      by false h c =
          let all = later e.0 es (sorted_head name_cmp e.0 (names es) s) h in
          record { beyond = e ∷ es; stands = ap (λ zs. zs ++ e ∷ es) (sym (left_out e es h ∙ all_left_out es all)); behind = (h, all) }

  -- those before one in order come before it
  before_it : (front rest : List (Name × V)) (p : Name × V) → IsStrictlySortedBy name_cmp (names (front ++ p ∷ rest)) → AllByRecursion (λ y. name_cmp y.0 p.0 ≡ Less) front
  before_it [] rest p s = tt
  before_it (y ∷ front) rest p s =
      (picked front (sorted_head name_cmp y.0 (names (front ++ p ∷ rest)) s), before_it front rest p (sorted_tail name_cmp y.0 (names (front ++ p ∷ rest)) s))
    where
      picked : (zs : List (Name × V)) → AllByRecursion (λ k. name_cmp y.0 k ≡ Less) (names (zs ++ p ∷ rest)) → name_cmp y.0 p.0 ≡ Less
      picked [] h = h.0
      picked (z ∷ zs) h = picked zs h.1

  all_taken : (es : List (Name × V)) → AllByRecursion IsUpto (upto es)
  all_taken [] = tt
  all_taken (e ∷ es) = by (is_upto name_cmp e.0 x) refl (all_taken es)
    where
      by : (b : Bool) → is_upto name_cmp e.0 x ≡ b → AllByRecursion IsUpto (upto es) → AllByRecursion IsUpto (upto (e ∷ es))
      by true h rest = subst (AllByRecursion IsUpto) (sym (taken e es h)) (h, rest)
      by false h rest = subst (AllByRecursion IsUpto) (sym (left_out e es h)) rest

  abbrev IsBeside : Name × V → Type 0
  IsBeside y = is_at_or_above y.0 x ≡ false

  beside : (es : List (Name × V)) → AllByRecursion IsAfter es → AllByRecursion IsBeside es
  beside = weaken IsAfter IsBeside (λ y h. after_not_above y.0 x h)

  -- where no name is at x or before it, none is above it
  pub none : (es read : List (Name × V)) → IsStrictlySortedBy name_cmp (names es) → read ≡ upto es → read ≡ [] → All IsBeside es
  none es read s is e =
      let c = cut es s in
      let whole : es ≡ c.beyond = c.stands ∙ ap (λ zs. zs ++ c.beyond) (sym is ∙ e) in
      to_all IsBeside es (subst (AllByRecursion IsBeside) (sym whole) (beside c.beyond c.behind))

  -- the last of those that aren't after x is p
  module _ (es read front : List (Name × V)) (p : Name × V) (s : IsStrictlySortedBy name_cmp (names es)) (is : read ≡ upto es) (last : read ≡ front ++ p ∷ []) where
    parts : IsCut es
    parts = cut es s

    stands : es ≡ front ++ p ∷ parts.beyond
    stands = parts.stands ∙ ap (λ zs. zs ++ parts.beyond) (sym is ∙ last) ∙ append_assoc front (p ∷ []) parts.beyond

    p_upto : IsUpto p
    p_upto = (in_rest IsUpto front (p ∷ []) (subst (AllByRecursion IsUpto) (sym is ∙ last) (all_taken es))).0

    less : AllByRecursion (λ y. name_cmp y.0 p.0 ≡ Less) front
    less = before_it front parts.beyond p (subst (λ zs. IsStrictlySortedBy name_cmp (names zs)) stands s)

    -- where it is above x, it is the nearest
    pub here : IsAtOrAbove p.0 x → IsNearest x es p
    here above = record {
      front = front;
      rest = parts.beyond;
      stands = stands;
      above = is_at_or_above_complete p.0 x above;
      before = to_all Shorter front (weaken (λ y. name_cmp y.0 p.0 ≡ Less) Shorter (λ y l h. shorter y.0 p.0 x l (is_at_or_above_sound y.0 x h) above) front less);
      behind = to_all IsBeside parts.beyond (beside parts.beyond parts.behind);
    }
      where
        Shorter : Name × V → Type 0
        Shorter y = is_at_or_above y.0 x ≡ true → length y.0 < length p.0

    -- else the nearest to x is the nearest to what both are below
    module _ (m : Name) (meeting : IsMeeting p.0 x m) where
      abbrev IsSame : Name × V → Type 0
      IsSame y = is_at_or_above y.0 m ≡ is_at_or_above y.0 x

      to_x : (y : Name) → is_at_or_above y m ≡ true → is_at_or_above y x ≡ true
      to_x y h = is_at_or_above_complete y x (above_all y m x (is_at_or_above_sound y m h) meeting.of_right)

      to_m : (y : Name) → is_upto name_cmp y p.0 ≡ true → is_at_or_above y x ≡ true → is_at_or_above y m ≡ true
      to_m y up h =
          let over = is_at_or_above_sound y x h in
          is_at_or_above_complete y m (meeting.longest y (together y p.0 x up p_upto over) over)

      same_upto : (y : Name × V) → is_upto name_cmp y.0 p.0 ≡ true → IsSame y
      same_upto y up = alike (is_at_or_above y.0 m) (is_at_or_above y.0 x) (to_x y.0) (to_m y.0 up)

      same_after : (y : Name × V) → IsAfter y → IsSame y
      same_after y h =
          let off = after_not_above y.0 x h in
          alike (is_at_or_above y.0 m) (is_at_or_above y.0 x) (to_x y.0) (λ t. absurd (true≢false (sym t ∙ off)))

      all_same : AllByRecursion IsSame es
      all_same = subst (AllByRecursion IsSame) (sym stands)
          (in_both IsSame front (p ∷ parts.beyond) (weaken (λ y. name_cmp y.0 p.0 ≡ Less) IsSame (λ y l. same_upto y (upto_before name_order y.0 p.0 l)) front less)
          (same_upto p (upto_same name_order p.0 p.0 refl), weaken IsAfter IsSame same_after parts.beyond parts.behind))

      pub goes_on : (found : Option (Name × V)) → IsNearestIfAny m es found → IsNearestIfAny x es found
      goes_on None h =
          each (λ y. is_at_or_above y.0 m ≡ false) IsBeside es (weaken IsSame (λ y. is_at_or_above y.0 m ≡ false → IsBeside y) (λ y e b. sym e ∙ b) es all_same) h
      goes_on (Some e) h =
          let parted = subst (AllByRecursion IsSame) h.stands all_same in
          let in_first = in_front IsSame h.front (e ∷ h.rest) parted in
          let in_last = in_rest IsSame h.front (e ∷ h.rest) parted in
          record {
            front = h.front;
            rest = h.rest;
            stands = h.stands;
            above = sym in_last.0 ∙ h.above;
            before = each (λ y. is_at_or_above y.0 m ≡ true → length y.0 < length e.0) (λ y. is_at_or_above y.0 x ≡ true → length y.0 < length e.0) h.front
                (weaken IsSame (λ y. (is_at_or_above y.0 m ≡ true → length y.0 < length e.0) → is_at_or_above y.0 x ≡ true → length y.0 < length e.0) (λ y same f t. f (same ∙ t)) h.front in_first) h.before;
            behind = each (λ y. is_at_or_above y.0 m ≡ false) IsBeside h.rest (weaken IsSame (λ y. is_at_or_above y.0 m ≡ false → IsBeside y) (λ y same b. sym same ∙ b) h.rest in_last.1) h.behind;
          }

      -- what both are below is shorter than x where p isn't above x
      pub smaller : (IsAtOrAbove p.0 x → ⊥) → length m < length x
      smaller not = by (above_cases m x meeting.of_right)
        where
          by : (m ≡ x) ⊎ IsAbove m x → length m < length x
          by (inl e) = absurd (same (above_cases m p.0 meeting.of_left))
            where
              same : (m ≡ p.0) ⊎ IsAbove m p.0 → ⊥
              same (inl f) = not ([], sym (sym f ∙ e))
              same (inr r) = before (upto_cases name_order p.0 x p_upto)
                where
                  first : name_cmp m p.0 ≡ Less
                  first = above_is_less m p.0 r

                  before : (p.0 ≡ x) ⊎ (name_cmp p.0 x ≡ Less) → ⊥
                  before (inl f) = not ([], sym f)
                  before (inr l) = asym name_order m p.0 first (ap (name_cmp p.0) e ∙ l)
          by (inr (l, front, e)) = omega (arith, ap length e, length-append (l ∷ front) m)

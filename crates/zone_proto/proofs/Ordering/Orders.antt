-- What a total order that tells all values apart gives: trichotomy, and what the greatest and the least of a list are
use Rattle.std.proofs.Common.{◌≡◌, ◌↔◌, Bool, true, false, cond, List, [], ◌∷◌, refl, sym, ap, ◌∙◌, subst, true≢false, ◌⊎◌, inl, inr, Ordering, Less, Equal, Greater, is_lt, is_le}
use Rattle.std.specs.Prelude.{Option, Some, None}
use Rattle.std.specs.Ordering.{ordering_reverse, flip_args, nat_cmp}
use Rattle.std.specs.Cmp.{IsTotalOrder}
use Rattle.std.proofs.lemmas.Cmp.{tied_itself, back_total, nat_cmp_total}
use Rattle.std.proofs.lemmas.Map.Lookups.{exact_unsigned}
use Rattle.zone_proto.specs.Order.{is_before, is_upto, greater, greatest, least, IsGreatest, IsLeast}
use Rattle.zone_proto.proofs.Members.{In, In-Contains, Contains-In}

pub less_test : (r : Ordering) → is_lt r ≡ true → r ≡ Less
less_test Less e = refl
less_test Equal e = absurd (true≢false (sym e))
less_test Greater e = absurd (true≢false (sym e))

-- one of three
pub data Side {K : Type 0} (R : K → K → Ordering) (x y : K) : Type 0 where
  before : R x y ≡ Less → Side R x y
  same : x ≡ y → Side R x y
  after : R y x ≡ Less → Side R x y

pub record IsOrder {K : Type 0} (R : K → K → Ordering) : Type 0 where
  pub total : IsTotalOrder R
  pub exact : (x y : K) → R x y ≡ Equal → x ≡ y

-- the order of numbers
pub number_order : IsOrder nat_cmp
number_order = record { total = nat_cmp_total; exact = exact_unsigned }

module _ {K : Type 0} {R : K → K → Ordering} (o : IsOrder R) where
  pub irrefl : (x : K) → R x x ≡ Less → ⊥
  irrefl x e = true≢false (sym (ap is_lt e) ∙ ap is_lt (tied_itself o.total x))

  pub asym : (x y : K) → R x y ≡ Less → R y x ≡ Less → ⊥
  asym x y h k = irrefl x (o.total.trans x y x h k)

  pub side : (x y : K) → Side R x y
  side x y = by (R x y) refl
    where
      by : (r : Ordering) → R x y ≡ r → Side R x y
      by Less e = before e
      by Equal e = same (o.exact x y e)
      by Greater e = after (o.total.antisymm y x ∙ ap ordering_reverse e)

  -- not after: the same, or before
  pub upto_cases : (x y : K) → is_upto R x y ≡ true → (x ≡ y) ⊎ (R x y ≡ Less)
  upto_cases x y h = by (R x y) refl h
    where
      by : (r : Ordering) → R x y ≡ r → is_le r ≡ true → (x ≡ y) ⊎ (R x y ≡ Less)
      by Less e h = inr e
      by Equal e h = inl (o.exact x y e)
      by Greater e h = absurd (true≢false (sym h))

  pub upto_before : (x y : K) → R x y ≡ Less → is_upto R x y ≡ true
  upto_before x y e = ap is_le e

  pub upto_same : (x y : K) → x ≡ y → is_upto R x y ≡ true
  upto_same x y e = ap is_le (ap (R x) (sym e) ∙ tied_itself o.total x)

  pub upto_from_not_before : (x y : K) → (R y x ≡ Less → ⊥) → is_upto R x y ≡ true
  upto_from_not_before x y h = by (side x y)
    where
      by : Side R x y → is_upto R x y ≡ true
      by (before e) = upto_before x y e
      by (same e) = upto_same x y e
      by (after e) = absurd (h e)

  pub before_from_upto : (x y z : K) → is_upto R x y ≡ true → R y z ≡ Less → R x z ≡ Less
  before_from_upto x y z h k = by (upto_cases x y h)
    where
      by : (x ≡ y) ⊎ (R x y ≡ Less) → R x z ≡ Less
      by (inl e) = ap (λ w. R w z) e ∙ k
      by (inr e) = o.total.trans x y z e k

  -- the same as `IsGreatest`, element by element
  pub record IsTop (xs : List K) (m : K) : Type 0 where
    pub among : In m xs
    pub none_greater : (y : K) → In y xs → R m y ≡ Less → ⊥

  -- what `greatest` answers
  abbrev GreatestOf : List K → Option K → Type 0
  GreatestOf xs None = (y : K) → In y xs → ⊥
  GreatestOf xs (Some m) = IsTop xs m

  step : (x : K) (xs : List K) (g : Option K) → GreatestOf xs g → IsTop (x ∷ xs) (greater R x g)
  step x xs None h = record { among = inl refl; none_greater = only }
    where
      only : (y : K) → In y (x ∷ xs) → R x y ≡ Less → ⊥
      only y (inl e) l = irrefl x (ap (R x) e ∙ l)
      only y (inr i) l = h y i
  step x xs (Some m) h = by (is_before R x m) refl
    where
      above : (is_before R x m ≡ true) → (y : K) → In y (x ∷ xs) → R m y ≡ Less → ⊥
      above e y (inl q) l = asym x m (less_test (R x m) e) (ap (R m) q ∙ l)
      above e y (inr i) l = h.none_greater y i l

      itself : (is_before R x m ≡ false) → (y : K) → In y (x ∷ xs) → R x y ≡ Less → ⊥
      itself e y (inl q) l = irrefl x (ap (R x) q ∙ l)
      itself e y (inr i) l = h.none_greater y i (before_from_upto m x y (upto_from_not_before m x (λ k. true≢false (sym (ap is_lt k) ∙ e))) l)

      by : (b : Bool) → is_before R x m ≡ b → IsTop (x ∷ xs) (cond b m x)
      by true e = record { among = inr h.among; none_greater = above e }
      by false e = record { among = inl refl; none_greater = itself e }

  greatest_of : (xs : List K) → GreatestOf xs (greatest R xs)
  greatest_of [] = λ y i. i
  greatest_of (x ∷ xs) = step x xs (greatest R xs) (greatest_of xs)

  pub greatest_is : (xs : List K) (m : K) → greatest R xs ≡ Some m → IsTop xs m
  greatest_is xs m e = subst (GreatestOf xs) e (greatest_of xs)

  pub greatest_none : (xs : List K) → greatest R xs ≡ None → (y : K) → In y xs → ⊥
  greatest_none xs e = subst (GreatestOf xs) e (greatest_of xs)

  -- there is one where there is an element
  pub has_greatest : (xs : List K) (x : K) → In x xs → (m : K) × (greatest R xs ≡ Some m) × IsTop xs m
  has_greatest xs x i = by (greatest R xs) refl
    where
      by : (g : Option K) → greatest R xs ≡ g → (m : K) × (greatest R xs ≡ Some m) × IsTop xs m
      by None e = absurd (greatest_none xs e x i)
      by (Some m) e = (m, e, greatest_is xs m e)

  -- only one
  pub greatest_from : (xs : List K) (m : K) → IsTop xs m → greatest R xs ≡ Some m
  greatest_from xs m h = by (has_greatest xs m h.among)
    where
      by : (p : (q : K) × (greatest R xs ≡ Some q) × IsTop xs q) → greatest R xs ≡ Some m
      by p = p.1 ∙ ap Some (even (side p.0 m))
        where
          even : Side R p.0 m → p.0 ≡ m
          even (before e) = absurd (p.2.none_greater m h.among e)
          even (same e) = e
          even (after e) = absurd (h.none_greater p.0 p.2.among e)

  -- lists with the same elements have the same greatest
  pub greatest_same : (xs ys : List K) → ((x : K) → In x xs → In x ys) → ((x : K) → In x ys → In x xs) → greatest R xs ≡ greatest R ys
  greatest_same xs ys f g = by (greatest R xs) refl (greatest R ys) refl
    where
      by : (p : Option K) → greatest R xs ≡ p → (q : Option K) → greatest R ys ≡ q → p ≡ q
      by None e None d = refl
      by None e (Some n) d = absurd (greatest_none xs e n (g n (greatest_is ys n d).among))
      by (Some m) e None d = absurd (greatest_none ys d m (f m (greatest_is xs m e).among))
      by (Some m) e (Some n) d = sym e ∙ greatest_from xs n (record { among = g n (greatest_is ys n d).among; none_greater = λ y i l. (greatest_is ys n d).none_greater y (f y i) l })

  not_before : (x y : K) → (R x y ≡ Less → ⊥) → is_before R x y ≡ false
  not_before x y h = by (is_before R x y) refl
    where
      by : (b : Bool) → is_before R x y ≡ b → is_before R x y ≡ false
      by true e = absurd (h (less_test (R x y) e))
      by false e = e

  top_is : (xs : List K) (m : K) → IsTop xs m → IsGreatest R xs m
  top_is xs m h = record { element = In-Contains m xs h.among; last = λ x i. not_before m x (h.none_greater x (Contains-In x xs i)) }

  top_from : (xs : List K) (m : K) → IsGreatest R xs m → IsTop xs m
  top_from xs m h = record { among = Contains-In m xs h.element; none_greater = λ x i e. true≢false (sym (ap is_lt e) ∙ h.last x (In-Contains x xs i)) }

  pub greatest_law : (xs : List K) (m : K) → (greatest R xs ≡ Some m) ↔ IsGreatest R xs m
  greatest_law xs m = (λ e. top_is xs m (greatest_is xs m e), λ h. greatest_from xs m (top_from xs m h))

pub greatest_there : {K : Type 0} (R : K → K → Ordering) (xs : List K) → (greatest R xs ≡ None) ↔ (xs ≡ [])
greatest_there R [] = (λ e. refl, λ e. refl)
greatest_there R (x ∷ xs) = (λ e. cc, λ e. cc)

-- ---- the least is the greatest of the order the other way round

pub least_law : {K : Type 0} {R : K → K → Ordering} → IsOrder R → (xs : List K) (m : K) → (least R xs ≡ Some m) ↔ IsLeast R xs m
least_law {R = R} o xs m =
    let back : IsOrder (flip_args R) = record { total = back_total o.total; exact = λ x y e. sym (o.exact y x e) } in
    let both : (least R xs ≡ Some m) ↔ IsGreatest (flip_args R) xs m = greatest_law back xs m in (
      λ e. let h = both.0 e in record { element = h.element; first = h.last },
      λ h. both.1 (record { element = h.element; last = h.first }),
    )

pub least_there : {K : Type 0} (R : K → K → Ordering) (xs : List K) → (least R xs ≡ None) ↔ (xs ≡ [])
least_there R xs = greatest_there (flip_args R) xs

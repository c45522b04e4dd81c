-- Ascending lists, and what is at their ends
use Rattle.std.proofs.Common.{◌≡◌, Bool, true, false, cond, List, [], ◌∷◌, ◌++◌, refl, sym, ap, ◌∙◌, subst, ◌⊎◌, inl, inr, Ordering, Less}
use Rattle.std.specs.Prelude.{filter}
use Rattle.std.specs.List.{AllByRecursion}
use Rattle.std.specs.List.Sorted.{IsStrictlySortedBy}
use Rattle.std.proofs.lemmas.Map.Keys.{sorted_head, sorted_tail}
use Rattle.zone_proto.proofs.Members.{In, In-from_filter, In-append_left, In-append_right, In-from_append}

-- each element is below those after it
abbrev pub Ascends : {K : Type 0} → (K → K → Ordering) → List K → Type 0
Ascends R [] = Unit {0}
Ascends {K} R (x ∷ xs) = ((y : K) → In y xs → R x y ≡ Less) × Ascends R xs

-- the end of an ascending list ascends
pub Ascends-end : {K : Type 0} (R : K → K → Ordering) (xs ys : List K) → Ascends R (xs ++ ys) → Ascends R ys
Ascends-end R [] ys a = a
Ascends-end R (x ∷ xs) ys a = Ascends-end R xs ys a.1

-- and so does its front
pub Ascends-front : {K : Type 0} (R : K → K → Ordering) (xs ys : List K) → Ascends R (xs ++ ys) → Ascends R xs
Ascends-front R [] ys a = tt
Ascends-front R (x ∷ xs) ys a = (λ y i. a.0 y (In-append_left y xs ys i), Ascends-front R xs ys a.1)

-- the elements of the end come after those of the front
pub Ascends-apart : {K : Type 0} (R : K → K → Ordering) (xs ys : List K) → Ascends R (xs ++ ys) → (x y : K) → In x xs → In y ys → R x y ≡ Less
Ascends-apart R [] ys a x y i j = absurd i
Ascends-apart R (w ∷ xs) ys a x y (inl e) j = ap (λ v. R v y) (sym e) ∙ a.0 y (In-append_right y xs ys j)
Ascends-apart R (w ∷ xs) ys a x y (inr i) j = Ascends-apart R xs ys a.1 x y i j

-- ---- as lists are sorted

pub in_all : {K : Type 0} (P : K → Type 0) (xs : List K) → AllByRecursion P xs → (x : K) → In x xs → P x
in_all P [] a x i = absurd i
in_all P (y ∷ xs) a x (inl e) = subst P e a.0
in_all P (y ∷ xs) a x (inr i) = in_all P xs a.1 x i

all_in : {K : Type 0} (P : K → Type 0) (xs : List K) → ((x : K) → In x xs → P x) → AllByRecursion P xs
all_in P [] h = tt
all_in P (x ∷ xs) h = (h x (inl refl), all_in P xs (λ y i. h y (inr i)))

pub Ascends-from_sorted : {K : Type 0} (R : K → K → Ordering) (xs : List K) → IsStrictlySortedBy R xs → Ascends R xs
Ascends-from_sorted R [] s = tt
Ascends-from_sorted R (x ∷ xs) s = (in_all (λ y. R x y ≡ Less) xs (sorted_head R x xs s), Ascends-from_sorted R xs (sorted_tail R x xs s))

pub sorted_from_Ascends : {K : Type 0} (R : K → K → Ordering) (xs : List K) → Ascends R xs → IsStrictlySortedBy R xs
unfolding IsStrictlySortedBy
sorted_from_Ascends R [] a = tt
sorted_from_Ascends R (x ∷ xs) a = (all_in (λ y. R x y ≡ Less) xs a.0, sorted_from_Ascends R xs a.1)

-- two ascending lists, one after the other
pub Ascends-joined : {K : Type 0} (R : K → K → Ordering) (xs ys : List K) → Ascends R xs → Ascends R ys → ((x y : K) → In x xs → In y ys → R x y ≡ Less) → Ascends R (xs ++ ys)
Ascends-joined R [] ys a b h = b
Ascends-joined R (x ∷ xs) ys a b h = (λ y i. later y (In-from_append y xs ys i), Ascends-joined R xs ys a.1 b (λ v w i j. h v w (inr i) j))
  where
    later : (y : _) → In y xs ⊎ In y ys → R x y ≡ Less
    later y (inl i) = a.0 y i
    later y (inr j) = h x y (inl refl) j

-- ---- a part of an ascending list

pub Ascends-filter : {K : Type 0} (R : K → K → Ordering) (p : K → Bool) (xs : List K) → Ascends R xs → Ascends R (filter p xs)
Ascends-filter R p [] a = tt
Ascends-filter R p (x ∷ xs) a = by (p x) (Ascends-filter R p xs a.1)
  where
    by : (b : Bool) → Ascends R (filter p xs) → Ascends R (cond b (x ∷ filter p xs) (filter p xs))
    by true later = (λ y i. a.0 y (In-from_filter p y xs i).0, later)
    by false later = later

-- The packing of names: it is read back, it keeps the order, and its fronts are the ancestors.
use Rattle.std.proofs.Common.{◌≡◌, ℕ, suc, ◌+◌, ◌<◌, List, [], ◌∷◌, ◌++◌, length, map, reverse, Bool, true, false, cond, refl, sym, ap, ◌∙◌, arith, subst}
use Rattle.std.proofs.lemmas.List.{append_assoc, append-nil, reverse-append, map-append}
use Rattle.std.proofs.lemmas.Bool.Decides.{nat_tests}
use Rattle.std.specs.declared.cmp.Ordering.TheVariants.{Less, Equal, Greater}
use Rattle.std.specs.Ordering.{nat_cmp, ordering_then}
use Rattle.std.specs.Cmp.{nat_cmp_is}
use Rattle.std.specs.Cmp.Lexicographic.{slice_cmp}
use Rattle.std.specs.Char.{to_ascii_lowercase}
use Rattle.std.specs.List.{AllByRecursion}
use Rattle.std.specs.Prelude.{◌==◌}
use Rattle.zone_proto.specs.Names.{Name, Label, name_cmp, lower, IsAtOrAbove}
use Rattle.zone_proto.specs.Packing.{IsInner, IsPackable, packing, read_on, name_of, IsPacking}
use Rattle.zone_proto.proofs.Names.Faults.{AllByRecursion-push}
use Rattle.zone_proto.proofs.Ordering.FromLeft.{then_assoc}

-- no label has an octet 0, which would end it
abbrev pub IsClear : Name → Type 0
IsClear = AllByRecursion (AllByRecursion (λ b. 0 < b))

clear_label : (l : Label) → AllByRecursion IsInner l → AllByRecursion (λ b. 0 < b) l
clear_label [] h = tt
clear_label (b ∷ l) h = (omega (arith, h.0), clear_label l h.1)

pub packable_clear : (n : Name) → IsPackable n → IsClear n
packable_clear [] h = tt
packable_clear (l ∷ n) h = (clear_label l h.0, packable_clear n h.1)

-- ---- what is packed is read back

is_inner : (b : ℕ) → 0 < b → (b == 0) ≡ false
is_inner b h = grind (arith, nat_tests)

read_label : (n : Name) (l k : Label) (s : List ℕ) → AllByRecursion (λ b. 0 < b) k → read_on n l (k ++ s) ≡ read_on n (l ++ k) s
read_label n l [] s h = ap (λ z. read_on n z s) (sym (append-nil l))
read_label n l (b ∷ k) s h =
    ap (λ t. cond t (read_on (l ∷ n) [] (k ++ s)) (read_on n (l ++ b ∷ []) (k ++ s))) (is_inner b h.0)
    ∙ read_label n (l ++ b ∷ []) k s h.1
    ∙ ap (λ z. read_on n z s) (append_assoc l (b ∷ []) k)

pub read_packing : (m n : Name) (s : List ℕ) → IsClear m → read_on n [] (packing m ++ s) ≡ read_on (m ++ n) [] s
read_packing [] n s h = refl
read_packing (l ∷ m) n s h =
    ap (read_on n []) (append_assoc (packing m) (l ++ 0 ∷ []) s ∙ ap (λ z. packing m ++ z) (append_assoc l (0 ∷ []) s))
    ∙ read_packing m n (l ++ 0 ∷ s) h.1
    ∙ read_label (m ++ n) [] l (0 ∷ s) h.0

pub name_of_packing : (m : Name) → IsClear m → name_of (packing m) ≡ m
name_of_packing m h = ap name_of (sym (append-nil (packing m))) ∙ read_packing m [] [] h ∙ append-nil m

-- octets that are a packing are the packing of their name
pub is_name_of : (s : List ℕ) (n : Name) → IsPackable n → s ≡ packing n → name_of s ≡ n
is_name_of s n h e = ap name_of e ∙ name_of_packing n (packable_clear n h)

pub is_packing : (s : List ℕ) (n : Name) → IsPackable n → s ≡ packing n → IsPacking s (name_of s)
is_packing s n h e =
    let same : n ≡ name_of s = sym (is_name_of s n h e) in
    record { packable = subst IsPackable same h; octets = e ∙ ap packing same }

-- ---- the order of the octets is the order of the names

abbrev pub from_root : List Label → List ℕ
from_root [] = []
from_root (l ∷ ls) = l ++ 0 ∷ from_root ls

from_root-push : (ls : List Label) (l : Label) → from_root (ls ++ l ∷ []) ≡ from_root ls ++ (l ++ 0 ∷ [])
from_root-push [] l = refl
from_root-push (k ∷ ls) l = ap (λ z. k ++ 0 ∷ z) (from_root-push ls l) ∙ sym (append_assoc k (0 ∷ from_root ls) (l ++ 0 ∷ []))

pub packing_from_root : (n : Name) → packing n ≡ from_root (reverse n)
packing_from_root [] = refl
packing_from_root (l ∷ n) =
    ap (λ z. z ++ (l ++ 0 ∷ [])) (packing_from_root n) ∙ sym (from_root-push (reverse n) l) ∙ ap from_root (sym (reverse-append (l ∷ []) n))

clear_reverse : (n : Name) → IsClear n → IsClear (reverse n)
clear_reverse [] h = tt
clear_reverse (l ∷ n) h =
    subst IsClear (sym (reverse-append (l ∷ []) n)) (AllByRecursion-push (AllByRecursion (λ b. 0 < b)) (reverse n) l (clear_reverse n h.1) h.0)

-- a label that ends is compared before what follows
label_first : (x y s t : List ℕ) → AllByRecursion (λ b. 0 < b) x → AllByRecursion (λ b. 0 < b) y
    → slice_cmp nat_cmp (x ++ 0 ∷ s) (y ++ 0 ∷ t) ≡ ordering_then (slice_cmp nat_cmp x y) (slice_cmp nat_cmp s t)
label_first [] [] s t h g = ap (λ r. ordering_then r (slice_cmp nat_cmp s t)) (sym (nat_cmp_is 0 0 Equal refl))
label_first [] (b ∷ y) s t h g = ap (λ r. ordering_then r (slice_cmp nat_cmp s (y ++ 0 ∷ t))) (sym (nat_cmp_is 0 b Less g.0))
label_first (a ∷ x) [] s t h g = ap (λ r. ordering_then r (slice_cmp nat_cmp (x ++ 0 ∷ s) t)) (sym (nat_cmp_is a 0 Greater h.0))
label_first (a ∷ x) (b ∷ y) s t h g =
    ap (ordering_then (nat_cmp a b)) (label_first x y s t h.1 g.1) ∙ then_assoc (nat_cmp a b) (slice_cmp nat_cmp x y) (slice_cmp nat_cmp s t)

none_first : (y t : List ℕ) → slice_cmp nat_cmp [] (y ++ 0 ∷ t) ≡ Less
none_first [] t = refl
none_first (b ∷ y) t = refl

some_first : (x s : List ℕ) → slice_cmp nat_cmp (x ++ 0 ∷ s) [] ≡ Greater
some_first [] s = refl
some_first (a ∷ x) s = refl

from_root_cmp : (xs ys : List Label) → IsClear xs → IsClear ys
    → slice_cmp nat_cmp (from_root xs) (from_root ys) ≡ slice_cmp (slice_cmp nat_cmp) xs ys
from_root_cmp [] [] h g = refl
from_root_cmp [] (y ∷ ys) h g = none_first y (from_root ys)
from_root_cmp (x ∷ xs) [] h g = some_first x (from_root xs)
from_root_cmp (x ∷ xs) (y ∷ ys) h g =
    label_first x y (from_root xs) (from_root ys) h.0 g.0 ∙ ap (ordering_then (slice_cmp nat_cmp x y)) (from_root_cmp xs ys h.1 g.1)

pub packing_cmp : (n m : Name) → IsClear n → IsClear m → slice_cmp nat_cmp (packing n) (packing m) ≡ name_cmp n m
packing_cmp n m h g =
    (λ i. slice_cmp nat_cmp (packing_from_root n i) (packing_from_root m i))
    ∙ from_root_cmp (reverse n) (reverse m) (clear_reverse n h) (clear_reverse m g)

-- ---- lower case

inner_lower : (b : ℕ) → 1 < b → 1 < to_ascii_lowercase b
inner_lower b h = grind (arith, nat_tests)

label_lower : (l : Label) → AllByRecursion IsInner l → AllByRecursion IsInner (map to_ascii_lowercase l)
label_lower [] h = tt
label_lower (b ∷ l) h = (inner_lower b h.0, label_lower l h.1)

pub packable_lower : (n : Name) → IsPackable n → IsPackable (lower n)
packable_lower [] h = tt
packable_lower (l ∷ n) h = (label_lower l h.0, packable_lower n h.1)

pub packing_lower : (n : Name) → map to_ascii_lowercase (packing n) ≡ packing (lower n)
packing_lower [] = refl
packing_lower (l ∷ n) =
    map-append to_ascii_lowercase (packing n) (l ++ 0 ∷ [])
    ∙ λ i. packing_lower n i ++ map-append to_ascii_lowercase l (0 ∷ []) i

-- ---- a front is an ancestor

goes_on : (n : Name) (l : Label) (s : List ℕ) → IsAtOrAbove n (read_on n l s)
goes_on n l [] = ([], refl)
goes_on n l (b ∷ s) = by (b == 0) (goes_on (l ∷ n) [] s) (goes_on n (l ++ b ∷ []) s)
  where
    by : (t : Bool) → IsAtOrAbove (l ∷ n) (read_on (l ∷ n) [] s) → IsAtOrAbove n (read_on n (l ++ b ∷ []) s)
        → IsAtOrAbove n (cond t (read_on (l ∷ n) [] s) (read_on n (l ++ b ∷ []) s))
    by true up on = (up.0 ++ l ∷ [], up.1 ∙ sym (append_assoc up.0 (l ∷ []) n))
    by false up on = on

pub above_from_front : (a n : Name) (t : List ℕ) → IsClear a → IsClear n → packing n ≡ packing a ++ t → IsAtOrAbove a n
above_from_front a n t h g e =
    subst (IsAtOrAbove a)
    (ap (λ z. read_on z [] t) (sym (append-nil a)) ∙ sym (read_packing a [] t h) ∙ ap name_of (sym e) ∙ name_of_packing n g)
    (goes_on a [] t)

pub front_from_above : (a f : Name) → (t : List ℕ) × (packing (f ++ a) ≡ packing a ++ t)
front_from_above a [] = ([], sym (append-nil (packing a)))
front_from_above a (l ∷ f) =
    let up : (t : List ℕ) × (packing (f ++ a) ≡ packing a ++ t) = front_from_above a f in
    (up.0 ++ (l ++ 0 ∷ []), ap (λ z. z ++ (l ++ 0 ∷ [])) up.1 ∙ append_assoc (packing a) up.0 (l ++ 0 ∷ []))

-- ---- the count of labels

-- how many octets are 0
abbrev pub ends : List ℕ → ℕ
ends [] = 0
ends (b ∷ s) = cond (b == 0) (suc (ends s)) (ends s)

counted : (n : Name) (l : Label) (s : List ℕ) → length (read_on n l s) ≡ length n + ends s
counted n l [] = omega arith
counted n l (b ∷ s) = by (b == 0) (counted (l ∷ n) [] s) (counted n (l ++ b ∷ []) s)
  where
    by : (t : Bool) → length (read_on (l ∷ n) [] s) ≡ suc (length n) + ends s → length (read_on n (l ++ b ∷ []) s) ≡ length n + ends s
        → length (cond t (read_on (l ∷ n) [] s) (read_on n (l ++ b ∷ []) s)) ≡ length n + cond t (suc (ends s)) (ends s)
    by true up on = omega (arith, up)
    by false up on = on

pub count_of : (s : List ℕ) → length (name_of s) ≡ ends s
count_of s = omega (arith, counted [] [] s)

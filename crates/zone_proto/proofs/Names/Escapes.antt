-- The octets by which names are ordered: 0 and 1 are pairs there, and the order, the case and the tree of the names stay.
use Rattle.std.proofs.Common.{◌≡◌, ℕ, ◌+◌, ◌<◌, add-one, List, [], ◌∷◌, ◌++◌, length, map, take, drop, set, reverse, Bool, true, false, cond, refl, sym, ap, ◌∙◌, arith}
use Rattle.std.proofs.lemmas.List.{reverse-append, length-append, map-append, take-append-drop}
use Rattle.std.proofs.Math.Seq.{drop-append_seam}
use Rattle.std.proofs.lemmas.Cmp.{tied_itself}
use Rattle.std.proofs.lemmas.Map.Lookups.{exact_bytes}
use Rattle.std.proofs.lemmas.Bool.Decides.{nat_tests}
use Rattle.std.specs.Prelude.{nat_lt}
use Rattle.std.specs.declared.cmp.Ordering.{Ordering}
use Rattle.std.specs.declared.cmp.Ordering.TheVariants.{Less, Equal, Greater}
use Rattle.std.specs.Ordering.{nat_cmp, ordering_then}
use Rattle.std.specs.Cmp.{nat_cmp_is}
use Rattle.std.specs.Cmp.Lexicographic.{slice_cmp, nat_list_cmp_total}
use Rattle.std.specs.Char.{to_ascii_lowercase}
use Rattle.std.specs.List.{AllByRecursion, drop-map}
use Rattle.zone_proto.specs.Names.{Name, Label, name_cmp, caseless_cmp, lower, IsAtOrAbove, IsName, wildcard_of}
use Rattle.zone_proto.specs.NameLaws.{exact_names}
use Rattle.zone_proto.specs.Packing.{IsInner, IsPackable, packing, escaped, order_octets}
use Rattle.zone_proto.proofs.Names.FirstLabels.{starred}
use Rattle.zone_proto.proofs.Names.Packings.{IsClear, packing_cmp, packing_lower, above_from_front, front_from_above}
use Rattle.zone_proto.proofs.Ordering.FromFront.{suc_cmp}

-- ---- no octet 0

clear_step : (b : ℕ) (s : List ℕ) (t : Bool) → nat_lt 1 b ≡ t → AllByRecursion (λ b. 0 < b) s → AllByRecursion (λ b. 0 < b) (cond t (b ∷ s) (1 ∷ (b + 1) ∷ s))
clear_step b s true e h = (grind (arith, nat_tests, e), h)
clear_step b s false e h = (omega arith, (omega arith, h))

pub escaped_clear : (l : Label) → AllByRecursion (λ b. 0 < b) (escaped l)
escaped_clear [] = tt
escaped_clear (b ∷ l) = clear_step b (escaped l) (nat_lt 1 b) refl (escaped_clear l)

pub map_clear : (n : Name) → IsClear (map escaped n)
map_clear [] = tt
map_clear (l ∷ n) = (escaped_clear l, map_clear n)

-- ---- labels without 0 and 1 are themselves

inner_test : (b : ℕ) → 1 < b → nat_lt 1 b ≡ true
inner_test b h = grind (arith, nat_tests)

escaped_inner : (l : Label) → AllByRecursion IsInner l → escaped l ≡ l
escaped_inner [] h = refl
escaped_inner (b ∷ l) h =
    ap (λ t. cond t (b ∷ escaped l) (1 ∷ (b + 1) ∷ escaped l)) (inner_test b h.0) ∙ ap (λ z. b ∷ z) (escaped_inner l h.1)

map_packable : (n : Name) → IsPackable n → map escaped n ≡ n
map_packable [] h = refl
map_packable (l ∷ n) h = λ i. escaped_inner l h.0 i ∷ map_packable n h.1 i

pub order_packable : (n : Name) → IsPackable n → packing n ≡ order_octets n
order_packable n h = ap packing (sym (map_packable n h))

-- ---- the order stays

one_cmp : nat_cmp 1 1 ≡ Equal
one_cmp = nat_cmp_is 1 1 Equal refl

cmp_step : (a b : ℕ) (s t : List ℕ) (o : Ordering) (x y : Bool) → nat_lt 1 a ≡ x → nat_lt 1 b ≡ y → slice_cmp nat_cmp s t ≡ o
    → slice_cmp nat_cmp (cond x (a ∷ s) (1 ∷ (a + 1) ∷ s)) (cond y (b ∷ t) (1 ∷ (b + 1) ∷ t)) ≡ ordering_then (nat_cmp a b) o
cmp_step a b s t o true true e f h = ap (ordering_then (nat_cmp a b)) h
cmp_step a b s t o true false e f h =
    ap (λ r. ordering_then r (slice_cmp nat_cmp s ((b + 1) ∷ t))) (sym (nat_cmp_is a 1 Greater (grind (arith, nat_tests, e))))
    ∙ ap (λ r. ordering_then r o) (nat_cmp_is a b Greater (grind (arith, nat_tests, e, f)))
cmp_step a b s t o false true e f h =
    ap (λ r. ordering_then r (slice_cmp nat_cmp ((a + 1) ∷ s) t)) (sym (nat_cmp_is 1 b Less (grind (arith, nat_tests, f))))
    ∙ ap (λ r. ordering_then r o) (nat_cmp_is a b Less (grind (arith, nat_tests, e, f)))
cmp_step a b s t o false false e f h =
    ap (λ r. ordering_then r (ordering_then (nat_cmp (a + 1) (b + 1)) (slice_cmp nat_cmp s t))) (sym one_cmp)
    ∙ (λ i. ordering_then (nat_cmp (add-one a i) (add-one b i)) (slice_cmp nat_cmp s t))
    ∙ (λ i. ordering_then (sym (suc_cmp a b) i) (h i))

first_none : (b : ℕ) (s : List ℕ) (t : Bool) → slice_cmp nat_cmp [] (cond t (b ∷ s) (1 ∷ (b + 1) ∷ s)) ≡ Less
first_none b s true = refl
first_none b s false = refl

first_some : (a : ℕ) (s : List ℕ) (t : Bool) → slice_cmp nat_cmp (cond t (a ∷ s) (1 ∷ (a + 1) ∷ s)) [] ≡ Greater
first_some a s true = refl
first_some a s false = refl

escaped_cmp : (k l : Label) → slice_cmp nat_cmp (escaped k) (escaped l) ≡ slice_cmp nat_cmp k l
escaped_cmp [] [] = refl
escaped_cmp [] (b ∷ l) = first_none b (escaped l) (nat_lt 1 b)
escaped_cmp (a ∷ k) [] = first_some a (escaped k) (nat_lt 1 a)
escaped_cmp (a ∷ k) (b ∷ l) =
    cmp_step a b (escaped k) (escaped l) (slice_cmp nat_cmp k l) (nat_lt 1 a) (nat_lt 1 b) refl refl (escaped_cmp k l)

labels_cmp : (xs ys : List Label) → slice_cmp (slice_cmp nat_cmp) (map escaped xs) (map escaped ys) ≡ slice_cmp (slice_cmp nat_cmp) xs ys
labels_cmp [] [] = refl
labels_cmp [] (y ∷ ys) = refl
labels_cmp (x ∷ xs) [] = refl
labels_cmp (x ∷ xs) (y ∷ ys) = λ i. ordering_then (escaped_cmp x y i) (labels_cmp xs ys i)

pub reverse_map : {A B : Type 0} (f : A → B) (xs : List A) → reverse (map f xs) ≡ map f (reverse xs)
reverse_map f [] = refl
reverse_map f (x ∷ xs) =
    reverse-append (f x ∷ []) (map f xs) ∙ ap (λ z. z ++ f x ∷ []) (reverse_map f xs)
    ∙ sym (map-append f (reverse xs) (x ∷ [])) ∙ ap (map f) (sym (reverse-append (x ∷ []) xs))

map_cmp : (n m : Name) → name_cmp (map escaped n) (map escaped m) ≡ name_cmp n m
map_cmp n m =
    (λ i. slice_cmp (slice_cmp nat_cmp) (reverse_map escaped n i) (reverse_map escaped m i)) ∙ labels_cmp (reverse n) (reverse m)

pub order_cmp : (n m : Name) → slice_cmp nat_cmp (order_octets n) (order_octets m) ≡ name_cmp n m
order_cmp n m = packing_cmp (map escaped n) (map escaped m) (map_clear n) (map_clear m) ∙ map_cmp n m

-- ---- names of the same octets are the same

pub order_exact : (n m : Name) → order_octets n ≡ order_octets m → n ≡ m
order_exact n m e =
    exact_names n m (sym (order_cmp n m) ∙ ap (λ z. slice_cmp nat_cmp z (order_octets m)) e ∙ tied_itself nat_list_cmp_total (order_octets m))

pub label_exact : (k l : Label) → escaped k ≡ escaped l → k ≡ l
label_exact k l e =
    exact_bytes k l (sym (escaped_cmp k l) ∙ ap (λ z. slice_cmp nat_cmp z (escaped l)) e ∙ tied_itself nat_list_cmp_total (escaped l))

-- ---- lower case

lower_step : (b : ℕ) (s : List ℕ) (t : Bool) → nat_lt 1 b ≡ t
    → map to_ascii_lowercase (cond t (b ∷ s) (1 ∷ (b + 1) ∷ s))
    ≡ cond (nat_lt 1 (to_ascii_lowercase b)) (to_ascii_lowercase b ∷ map to_ascii_lowercase s) (1 ∷ (to_ascii_lowercase b + 1) ∷ map to_ascii_lowercase s)
lower_step b s true e =
    let big : nat_lt 1 (to_ascii_lowercase b) ≡ true = grind (arith, nat_tests, e) in
    sym (ap (λ t. cond t (to_ascii_lowercase b ∷ map to_ascii_lowercase s) (1 ∷ (to_ascii_lowercase b + 1) ∷ map to_ascii_lowercase s)) big)
lower_step b s false e =
    let small : nat_lt 1 (to_ascii_lowercase b) ≡ false = grind (arith, nat_tests, e) in
    let one : to_ascii_lowercase 1 ≡ 1 = grind (arith, nat_tests) in
    let more : to_ascii_lowercase (b + 1) ≡ to_ascii_lowercase b + 1 = grind (arith, nat_tests, e) in
    (λ i. one i ∷ more i ∷ map to_ascii_lowercase s)
    ∙ sym (ap (λ t. cond t (to_ascii_lowercase b ∷ map to_ascii_lowercase s) (1 ∷ (to_ascii_lowercase b + 1) ∷ map to_ascii_lowercase s)) small)

escaped_lower : (l : Label) → map to_ascii_lowercase (escaped l) ≡ escaped (map to_ascii_lowercase l)
escaped_lower [] = refl
escaped_lower (b ∷ l) =
    lower_step b (escaped l) (nat_lt 1 b) refl
    ∙ ap (λ z. cond (nat_lt 1 (to_ascii_lowercase b)) (to_ascii_lowercase b ∷ z) (1 ∷ (to_ascii_lowercase b + 1) ∷ z)) (escaped_lower l)

map_lower : (n : Name) → lower (map escaped n) ≡ map escaped (lower n)
map_lower [] = refl
map_lower (l ∷ n) = λ i. escaped_lower l i ∷ map_lower n i

pub order_lower : (n : Name) → map to_ascii_lowercase (order_octets n) ≡ order_octets (lower n)
order_lower n = packing_lower (map escaped n) ∙ ap packing (map_lower n)

pub order_caseless : (n m : Name)
    → slice_cmp nat_cmp (map to_ascii_lowercase (order_octets n)) (map to_ascii_lowercase (order_octets m)) ≡ caseless_cmp n m
order_caseless n m = (λ i. slice_cmp nat_cmp (order_lower n i) (order_lower m i)) ∙ order_cmp (lower n) (lower m)

-- ---- fronts are ancestors

map_exact : (xs ys : Name) → map escaped xs ≡ map escaped ys → xs ≡ ys
map_exact [] [] e = refl
map_exact [] (y ∷ ys) e = cc
map_exact (x ∷ xs) [] e = cc
map_exact (x ∷ xs) (y ∷ ys) e =
    let first : escaped x ≡ escaped y = cc in
    let rest : map escaped xs ≡ map escaped ys = cc in
    λ i. label_exact x y first i ∷ map_exact xs ys rest i

pub order_above : (a n : Name) (t : List ℕ) → order_octets n ≡ order_octets a ++ t → IsAtOrAbove a n
order_above a n t e =
    let up : IsAtOrAbove (map escaped a) (map escaped n) = above_from_front (map escaped a) (map escaped n) t (map_clear a) (map_clear n) e in
    let k : ℕ = length up.0 in
    let last : drop k n ≡ a =
    map_exact (drop k n) a (sym (drop-map escaped k n) ∙ ap (drop k) up.1 ∙ drop-append_seam up.0 (map escaped a)) in
    (take k n, sym (take-append-drop k n) ∙ ap (λ z. take k n ++ z) last)

pub order_front : (a n : Name) → IsAtOrAbove a n → (t : List ℕ) × (order_octets n ≡ order_octets a ++ t)
order_front a n w =
    let up = front_from_above (map escaped a) (map escaped w.0) in
    (up.0, ap order_octets w.1 ∙ ap packing (map-append escaped w.0 a) ∙ up.1)

-- ---- the first label

some_escaped : (l : Label) → 0 < length l → 0 < length (escaped l)
some_escaped [] h = absurd (omega arith)
some_escaped (b ∷ l) h = by (nat_lt 1 b)
  where
    by : (t : Bool) → 0 < length (cond t (b ∷ escaped l) (1 ∷ (b + 1) ∷ escaped l))
    by true = omega arith
    by false = omega arith

-- it fits into the octets, with its end
pub first_fits : (n : Name) (s : List ℕ) (start : ℕ) → IsName n → (n ≡ [] → ⊥) → s ≡ order_octets n → start ≡ length (order_octets (drop 1 n)) → start + 1 < length s
first_fits [] s start v some e h = absurd (some refl)
first_fits (l ∷ n) s start v some e h =
    omega (
      arith,
      h,
      some_escaped l v.labels.0.some,
      ap length e,
      length-append (packing (map escaped n)) (escaped l ++ 0 ∷ []),
      length-append (escaped l) (0 ∷ []),
    )

-- and is written over by `*`
pub order_starred : (n : Name) (s : List ℕ) (start : ℕ) → IsName n → (n ≡ [] → ⊥) → s ≡ order_octets n → start ≡ length (order_octets (drop 1 n))
    → take (start + 2) (set (set s start 42) (start + 1) 0) ≡ order_octets (wildcard_of n)
order_starred [] s start v some e h = absurd (some refl)
order_starred (l ∷ n) s start v some e h = starred s (escaped l) (map escaped n) start e h (some_escaped l v.labels.0.some)

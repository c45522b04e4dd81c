-- Lists of numbers that begin alike: what follows decides their order.
use Rattle.std.proofs.Common.{◌≡◌, ℕ, ◌+◌, ◌-◌, ◌<◌, ◌≤◌, List, [], ◌∷◌, ◌++◌, length, map, take, drop, Bool, true, false, refl, sym, ap, ◌∙◌, arith, min}
use Rattle.std.proofs.lemmas.List.{take-append-drop, take-take, length-take, length-drop, drop-take, take_all, take_at, map-append, length-append, length-map}
use Rattle.std.proofs.lemmas.Cmp.{tied_itself}
use Rattle.std.specs.Char.{to_ascii_lowercase}
use Rattle.std.specs.List.{take-map}
use Rattle.std.proofs.lemmas.Map.Lookups.{exact_bytes}
use Rattle.std.specs.declared.cmp.Ordering.{Ordering}
use Rattle.std.specs.declared.cmp.Ordering.TheVariants.{Less, Equal, Greater}
use Rattle.std.specs.Ordering.{nat_cmp, ordering_then, is_ne, is_eq}
use Rattle.std.specs.Cmp.{nat_cmp_is}
use Rattle.std.specs.Cmp.Lexicographic.{slice_cmp, nat_list_cmp_total}
use Rattle.zone_proto.proofs.Ordering.FromLeft.{cmp_append, cmp_end}

after_front : (p s t : List ℕ) → slice_cmp nat_cmp (p ++ s) (p ++ t) ≡ slice_cmp nat_cmp s t
after_front [] s t = refl
after_front (x ∷ p) s t =
    ap (λ o. ordering_then o (slice_cmp nat_cmp (p ++ s) (p ++ t))) (sym (nat_cmp_is x x Equal refl)) ∙ after_front p s t

pub after_same : (s t : List ℕ) (k : ℕ) → take k s ≡ take k t → slice_cmp nat_cmp (drop k s) (drop k t) ≡ slice_cmp nat_cmp s t
after_same s t k e =
    sym (after_front (take k s) (drop k s) (drop k t))
    ∙ λ i. slice_cmp nat_cmp (take-append-drop k s i) ((ap (λ p. p ++ drop k t) e ∙ take-append-drop k t) i)

take_sum : (s : List ℕ) (k j : ℕ) → take (k + j) s ≡ take k s ++ take j (drop k s)
take_sum s k j = sym (take-append-drop k (take (k + j) s)) ∙ λ i. take-take k (k + j) s (omega arith) i ++ drop-take k j s i

-- a slice from a place on
pub taken : (s : List ℕ) (k : ℕ) → take (length s - k) (drop k s) ≡ drop k s
taken s k = take_all (length s - k) (drop k s) (omega (arith, length-drop k s))

pub equal_if : (o : Ordering) (r : Bool) → r ≡ is_ne o → r ≡ false → o ≡ Equal
equal_if Less r e h = cc
equal_if Equal r e h = refl
equal_if Greater r e h = cc

-- so many more that are in order as equals are the same
pub more_same : (s t : List ℕ) (k j : ℕ) → take k s ≡ take k t → slice_cmp nat_cmp (take j (drop k s)) (take j (drop k t)) ≡ Equal
    → take (k + j) s ≡ take (k + j) t
more_same s t k j e more =
    take_sum s k j ∙ (λ i. e i ++ exact_bytes (take j (drop k s)) (take j (drop k t)) more i) ∙ sym (take_sum t k j)

pub decided : (o p : Ordering) → (o ≡ Equal → ⊥) → ordering_then o p ≡ o
decided Less p h = refl
decided Equal p h = absurd (h refl)
decided Greater p h = refl

-- so many more that differ decide
pub more_differ : (s t : List ℕ) (k j : ℕ) (o : Ordering) → take k s ≡ take k t → k + j ≤ length s → k + j ≤ length t
    → o ≡ slice_cmp nat_cmp (take j (drop k s)) (take j (drop k t)) → (o ≡ Equal → ⊥) → o ≡ slice_cmp nat_cmp s t
more_differ s t k j o e in_s in_t is differ =
    let x : List ℕ = drop k s in
    let y : List ℕ = drop k t in
    let as_many : length (take j x) ≡ length (take j y) =
    omega (arith, length-take j x, length-take j y, length-drop k s, length-drop k t) in
    sym (decided o (slice_cmp nat_cmp (drop j x) (drop j y)) differ)
    ∙ ap (λ r. ordering_then r (slice_cmp nat_cmp (drop j x) (drop j y))) is
    ∙ sym (cmp_append nat_cmp (take j x) (take j y) (drop j x) (drop j y) as_many)
    ∙ (λ i. slice_cmp nat_cmp (take-append-drop j x i) (take-append-drop j y i))
    ∙ after_same s t k e

-- as many of both are compared, and then the lengths
pub shared_first : (s t : List ℕ) (k : ℕ) → k ≡ min (length s) (length t)
    → ordering_then (slice_cmp nat_cmp (take k s) (take k t)) (nat_cmp (length s) (length t)) ≡ slice_cmp nat_cmp s t
shared_first s t k least =
    let in_s : length (take k s) ≡ k = omega (arith, length-take k s, least) in
    let in_t : length (take k t) ≡ k = omega (arith, length-take k t, least) in
    ap (ordering_then (slice_cmp nat_cmp (take k s) (take k t)))
    (sym (cmp_end nat_cmp (drop k s) (drop k t) (length s) (length t) k (omega (arith, length-drop k s, least)) (omega (arith, length-drop k t, least))
    (λ x y. omega (arith, x, y, length-drop k s, length-drop k t, least))))
    ∙ sym (cmp_append nat_cmp (take k s) (take k t) (drop k s) (drop k t) (in_s ∙ sym in_t))
    ∙ λ i. slice_cmp nat_cmp (take-append-drop k s i) (take-append-drop k t i)

-- ---- the case of letters ignored

pub equal_from : (o : Ordering) → is_eq o ≡ true → o ≡ Equal
equal_from Less e = cc
equal_from Equal e = refl
equal_from Greater e = cc

-- of octets that are equal, those in lower case are
pub equal_lowered : (s t : List ℕ) (r : Bool) → r ≡ true → r ≡ is_eq (slice_cmp nat_cmp s t)
    → r ≡ is_eq (slice_cmp nat_cmp (map to_ascii_lowercase s) (map to_ascii_lowercase t))
equal_lowered s t r y e =
    let same : s ≡ t = exact_bytes _ _ (equal_from _ (sym e ∙ y)) in
    y ∙ sym (
    ap (λ z. is_eq (slice_cmp nat_cmp (map to_ascii_lowercase s) (map to_ascii_lowercase z))) (sym same)
    ∙ ap is_eq (tied_itself nat_list_cmp_total (map to_ascii_lowercase s)))

-- the first octets of a list are others, or the list doesn't begin with these
pub front_test : (s t : List ℕ) (r : Bool) → length s ≤ length t
    → r ≡ is_eq (slice_cmp nat_cmp (map to_ascii_lowercase s) (map to_ascii_lowercase (take (length s) t)))
    → (r ≡ true → (u : List ℕ) × (map to_ascii_lowercase t ≡ map to_ascii_lowercase s ++ u))
    × ((u : List ℕ) × (map to_ascii_lowercase t ≡ map to_ascii_lowercase s ++ u) → r ≡ true)
front_test s t r short e = (
  λ y. let same : map to_ascii_lowercase s ≡ map to_ascii_lowercase (take (length s) t) = exact_bytes _ _ (equal_from _ (sym e ∙ y)) in (
    map to_ascii_lowercase (drop (length s) t),
    ap (map to_ascii_lowercase) (sym (take-append-drop (length s) t))
        ∙ map-append to_ascii_lowercase (take (length s) t) (drop (length s) t)
        ∙ ap (λ z. z ++ map to_ascii_lowercase (drop (length s) t)) (sym same),
  ),
  λ w. let same : map to_ascii_lowercase (take (length s) t) ≡ map to_ascii_lowercase s =
      sym (take-map to_ascii_lowercase (length s) t) ∙ ap (take (length s)) w.1 ∙ take_at (map to_ascii_lowercase s) w.0 (length s) (length-map s to_ascii_lowercase) in
      e ∙ ap (λ z. is_eq (slice_cmp nat_cmp (map to_ascii_lowercase s) z)) same ∙ ap is_eq (tied_itself nat_list_cmp_total (map to_ascii_lowercase s)),
)

-- a longer list is no front
pub no_front : (s t u : List ℕ) → length t < length s → map to_ascii_lowercase t ≡ map to_ascii_lowercase s ++ u → ⊥
no_front s t u long e =
    omega (arith, long, ap length e, length-append (map to_ascii_lowercase s) u, length-map s to_ascii_lowercase, length-map t to_ascii_lowercase)

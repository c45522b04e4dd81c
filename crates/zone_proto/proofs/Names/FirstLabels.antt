-- Where the first label is in the packing of a name.
use Rattle.std.proofs.Common.{◌≡◌, ℕ, zero, suc, ◌+◌, ◌-◌, ◌<◌, ◌≤◌, List, [], ◌∷◌, ◌++◌, length, take, drop, set, refl, sym, ap, ◌∙◌, arith, get_or, ◌⊎◌, inl, inr, Ordering, Less, Equal, Greater}
use Rattle.std.proofs.lemmas.List.{append_assoc, length-append, get_or-append_right}
use Rattle.std.proofs.Math.Seq.{take-append_seam, drop-append_seam, get_or-append_seam, set-append_seam}
use Rattle.std.specs.Ordering.{nat_cmp, MatchOrdering}
use Rattle.std.specs.Cmp.{ranked}
use Rattle.std.specs.List.{AllByRecursion}
use Rattle.zone_proto.specs.Names.{Name, Label, wildcard_of, IsName}
use Rattle.zone_proto.specs.Packing.{IsInner, IsPackable, packing, name_of, IsPacking}
use Rattle.zone_proto.proofs.Names.Packings.{is_packing, is_name_of}

-- how many octets come before the first label
abbrev pub before_first : Name → ℕ
before_first n = length (packing (drop 1 n))

-- the octet before the first label ends a label
pub ended_before : (s : List ℕ) (n : Name) (d : ℕ) → s ≡ packing n → 0 < before_first n → get_or s (before_first n - 1) d ≡ 0
ended_before s [] d e h = absurd (omega arith)
ended_before s (l ∷ []) d e h = absurd (omega arith)
ended_before s (l ∷ k ∷ n) d e h =
    let front : List ℕ = packing n ++ k in
    let whole : packing (k ∷ n) ≡ front ++ 0 ∷ [] = sym (append_assoc (packing n) k (0 ∷ [])) in
    let here : length (packing (k ∷ n)) - 1 ≡ length front = omega (arith, ap length whole, length-append front (0 ∷ [])) in
    (λ i. get_or (e i) (here i) d)
    ∙ (λ i. get_or (whole i ++ (l ++ 0 ∷ [])) (length front) d)
    ∙ ap (λ z. get_or z (length front) d) (append_assoc front (0 ∷ []) (l ++ 0 ∷ []))
    ∙ get_or-append_seam front 0 (l ++ 0 ∷ []) d

inner_at : (l : Label) (i d : ℕ) → AllByRecursion IsInner l → i < length l → get_or (l ++ 0 ∷ []) i d ≡ 0 → ⊥
inner_at [] i d h lt e = absurd (omega arith)
inner_at (b ∷ l) zero d h lt e = omega (arith, h.0, e)
inner_at (b ∷ l) (suc i) d h lt e = inner_at l i d h.1 (omega arith) e

-- no octet of the first label ends one
pub inner_after : (s : List ℕ) (n : Name) (i d : ℕ) → s ≡ packing n → IsPackable n → before_first n ≤ i → i + 1 < length s → get_or s i d ≡ 0 → ⊥
inner_after s [] i d e h le lt z = omega (arith, ap length e)
inner_after s (l ∷ n) i d e h le lt z =
    inner_at l (i - length (packing n)) d h.0
    (omega (arith, ap length e, length-append (packing n) (l ++ 0 ∷ []), length-append l (0 ∷ [])))
    (sym (ap (λ t. get_or t i d) e ∙ get_or-append_right (packing n) (l ++ 0 ∷ []) (length (packing n)) i d refl le) ∙ z)

-- a walk from the back to the octet that ends the label before the first
pub le_cases : (p i : ℕ) → p ≤ i → (p ≡ i) ⊎ (p < i)
le_cases p i h = by (nat_cmp p i) (ranked p i (nat_cmp p i) refl)
  where
    by : (o : Ordering) → MatchOrdering o (p < i) (p ≡ i) (i < p) → (p ≡ i) ⊎ (p < i)
    by Less l = inr l
    by Equal e = inl e
    by Greater g = absurd (omega (arith, h, g))

pub step_back : (s : List ℕ) (n : Name) (i d : ℕ) → s ≡ packing n → before_first n ≤ i → 0 < i → (get_or s (i - 1) d ≡ 0 → ⊥) → before_first n ≤ i - 1
step_back s n i d e le some on = by (le_cases (before_first n) i le)
  where
    by : (before_first n ≡ i) ⊎ (before_first n < i) → before_first n ≤ i - 1
    by (inl same) = absurd (on (ap (λ k. get_or s (k - 1) d) (sym same) ∙ ended_before s n d e (omega (arith, same, some))))
    by (inr less) = omega (arith, less)

pub stopped : (s : List ℕ) (n : Name) (i d : ℕ) → s ≡ packing n → IsPackable n → before_first n ≤ i → i ≤ length s - 1
    → (0 < i → get_or s (i - 1) d ≡ 0) → i ≡ before_first n
stopped s n i d e h le within ended = by (le_cases (before_first n) i le)
  where
    by : (before_first n ≡ i) ⊎ (before_first n < i) → i ≡ before_first n
    by (inl same) = sym same
    by (inr less) = absurd (inner_after s n (i - 1) d e h (omega (arith, less)) (omega (arith, less, within)) (ended (omega (arith, less))))

-- what precedes the first label is the packing of the labels after it
pub base_packing : (s : List ℕ) (n : Name) → s ≡ packing n → take (before_first n) s ≡ packing (drop 1 n)
base_packing s [] e = refl
base_packing s (l ∷ n) e = ap (take (length (packing n))) e ∙ take-append_seam (packing n) (l ++ 0 ∷ [])

pub base_packable : (n : Name) → IsPackable n → IsPackable (drop 1 n)
base_packable [] h = tt
base_packable (l ∷ n) h = h.1

pub base_is_packing : (s : List ℕ) → IsPacking s (name_of s) → IsPacking (take (before_first (name_of s)) s) (name_of (take (before_first (name_of s)) s))
base_is_packing s h = is_packing _ (drop 1 (name_of s)) (base_packable (name_of s) h.packable) (base_packing s (name_of s) h.octets)

pub base_name_of : (s : List ℕ) → IsPacking s (name_of s) → name_of (take (before_first (name_of s)) s) ≡ drop 1 (name_of s)
base_name_of s h = is_name_of _ (drop 1 (name_of s)) (base_packable (name_of s) h.packable) (base_packing s (name_of s) h.octets)

pub first_bounds : (s : List ℕ) (n : Name) → s ≡ packing n → before_first n ≤ length s - 1
first_bounds s [] e = omega arith
first_bounds s (l ∷ n) e = omega (arith, ap length e, length-append (packing n) (l ++ 0 ∷ []), length-append l (0 ∷ []))

-- the octets of the first label
pub first_octets : (s : List ℕ) (l : Label) (n : Name) (at : ℕ) → s ≡ packing (l ∷ n) → at ≡ length (packing n) → take (length s - 1 - at) (drop at s) ≡ l
first_octets s l n at e h =
    let count : length s - 1 - at ≡ length l = omega (arith, ap length e, length-append (packing n) (l ++ 0 ∷ []), length-append l (0 ∷ []), h) in
    (λ i. take (count i) (drop (h i) (e i)))
    ∙ ap (take (length l)) (drop-append_seam (packing n) (l ++ 0 ∷ []))
    ∙ take-append_seam l (0 ∷ [])

-- the first label is written over in place, by a label of one octet
overwritten : (p t : List ℕ) (b c : ℕ) → take (length p + 2) (set (set (p ++ b ∷ c ∷ t) (length p) 42) (length p + 1) 0) ≡ p ++ 42 ∷ 0 ∷ []
overwritten p t b c =
    let front : List ℕ = p ++ 42 ∷ [] in
    let long : length p + 1 ≡ length front = sym (length-append p (42 ∷ [])) in
    let all : length p + 2 ≡ length (p ++ 42 ∷ 0 ∷ []) = sym (length-append p (42 ∷ 0 ∷ [])) in
    (λ i. take (length p + 2) (set ((set-append_seam p b (c ∷ t) 42 ∙ sym (append_assoc p (42 ∷ []) (c ∷ t))) i) (long i) 0))
    ∙ ap (take (length p + 2)) (set-append_seam front c t 0 ∙ append_assoc p (42 ∷ []) (0 ∷ t) ∙ sym (append_assoc p (42 ∷ 0 ∷ []) t))
    ∙ (λ i. take (all i) ((p ++ 42 ∷ 0 ∷ []) ++ t))
    ∙ take-append_seam (p ++ 42 ∷ 0 ∷ []) t

two_octets : (b : ℕ) (l : Label) → (c : ℕ) × (t : List ℕ) × ((b ∷ l) ++ 0 ∷ [] ≡ b ∷ c ∷ t)
two_octets b [] = (0, [], refl)
two_octets b (c ∷ l) = (c, l ++ 0 ∷ [], refl)

pub starred : (s : List ℕ) (l : Label) (n : Name) (at : ℕ) → s ≡ packing (l ∷ n) → at ≡ length (packing n) → 0 < length l
    → take (at + 2) (set (set s at 42) (at + 1) 0) ≡ packing ((42 ∷ []) ∷ n)
starred s [] n at e h some = absurd (omega arith)
starred s (b ∷ l) n at e h some =
    let two = two_octets b l in
    (λ i. take (h i + 2) (set (set ((e ∙ ap (λ z. packing n ++ z) two.2) i) (h i) 42) (h i + 1) 0))
    ∙ overwritten (packing n) two.1 b two.0

pub starred_name : (s : List ℕ) (n : Name) → IsName n → IsPacking s n → (s ≡ [] → ⊥)
    → IsPackable (wildcard_of n) × (take (before_first n + 2) (set (set s (before_first n) 42) (before_first n + 1) 0) ≡ packing (wildcard_of n))
starred_name s [] v h some = absurd (some h.octets)
starred_name s (l ∷ n) v h some = (((omega arith, tt), h.packable.1), starred s l n (length (packing n)) h.octets refl v.labels.0.some)

pub split_gives : (s : List ℕ) (at : ℕ) → IsPacking s (name_of s) → (s ≡ [] → ⊥) → at ≡ before_first (name_of s)
    → name_of s ≡ take (length s - 1 - at) (drop at s) ∷ name_of (take at s)
split_gives s at h some e = by (name_of s) refl h.octets
  where
    by : (n : Name) → name_of s ≡ n → s ≡ packing n → name_of s ≡ take (length s - 1 - at) (drop at s) ∷ name_of (take at s)
    by [] same octets = absurd (some octets)
    by (l ∷ n) same octets =
        let here : at ≡ length (packing n) = e ∙ ap before_first same in
        let base : name_of (take at s) ≡ n = ap (λ k. name_of (take k s)) e ∙ base_name_of s h ∙ ap (drop 1) same in
        same ∙ λ i. sym (first_octets s l n at octets here) i ∷ sym base i

pub wildcard_fits : (s : List ℕ) (n : Name) (at : ℕ) → s ≡ packing n → IsName n → (s ≡ [] → ⊥) → at ≡ before_first n → at + 1 < length s
wildcard_fits s [] at e v some h = absurd (some e)
wildcard_fits s (l ∷ n) at e v some h =
    omega (arith, v.labels.0.some, h, ap length e, length-append (packing n) (l ++ 0 ∷ []), length-append l (0 ∷ []))

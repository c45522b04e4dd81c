-- Names whose labels come after their lengths: they are read back, in lower case too, and the first label is found at
-- the front.
use Rattle.std.proofs.Common.{◌≡◌, ℕ, zero, suc, ◌+◌, ◌-◌, ◌<◌, ◌≤◌, List, [], ◌∷◌, ◌++◌, length, map, take, drop, get_or, set, refl, sym, ap, ◌∙◌, arith, subst}
use Rattle.std.proofs.lemmas.List.{length-append, length-map, map-append}
use Rattle.std.proofs.Math.Seq.{take-append_seam, drop-append_seam}
use Rattle.std.proofs.lemmas.Bool.Decides.{nat_tests}
use Rattle.std.specs.Char.{to_ascii_lowercase}
use Rattle.std.specs.List.{AllByRecursion}
use Rattle.zone_proto.specs.Names.{Name, Label, lower, wildcard_of, IsLabel}
use Rattle.zone_proto.specs.Counting.{counting, labels_within, counted_name, IsCounting}

-- ---- what is written is read back

read_counting : (most : ℕ) (n : Name) → length n ≤ most → labels_within most (counting n) ≡ n
read_counting zero [] h = refl
read_counting zero (l ∷ n) h = absurd (omega arith)
read_counting (suc most) [] h = refl
read_counting (suc most) (l ∷ n) h =
    λ i. take-append_seam l (counting n) i ∷ (ap (labels_within most) (drop-append_seam l (counting n)) ∙ read_counting most n (omega arith)) i

labels_fit : (n : Name) → length n ≤ length (counting n)
labels_fit [] = omega arith
labels_fit (l ∷ n) = omega (arith, length-append l (counting n), labels_fit n)

pub is_counted_name : (s : List ℕ) (n : Name) → s ≡ counting n → counted_name s ≡ n
is_counted_name s n e = ap counted_name e ∙ read_counting (length (counting n)) n (labels_fit n)

pub is_counting : (s : List ℕ) (n : Name) → AllByRecursion IsLabel n → s ≡ counting n → IsCounting s (counted_name s)
is_counting s n h e =
    let same : n ≡ counted_name s = sym (is_counted_name s n e) in
    record { labels = subst (AllByRecursion IsLabel) same h; octets = e ∙ ap counting same }

-- a label takes two octets at least
pub two_a_label : (n : Name) → AllByRecursion IsLabel n → length n + length n ≤ length (counting n)
two_a_label [] h = omega arith
two_a_label (l ∷ n) h = omega (arith, h.0.some, length-append l (counting n), two_a_label n h.1)

-- ---- the first label

pub record IsSplit (count : ℕ) (s : List ℕ) : Type 0 where
  pub within : count ≤ length s
  pub short : count ≤ 63
  pub some : 0 < count
  pub name : counted_name (count ∷ s) ≡ take count s ∷ counted_name (drop count s)
  pub base : IsCounting (drop count s) (counted_name (drop count s))

pub split : (count : ℕ) (s : List ℕ) → IsCounting (count ∷ s) (counted_name (count ∷ s)) → IsSplit count s
split count s h = by (counted_name (count ∷ s)) refl h.labels h.octets
  where
    by : (n : Name) → counted_name (count ∷ s) ≡ n → AllByRecursion IsLabel n → count ∷ s ≡ counting n → IsSplit count s
    by [] same valid octets = absurd (omega (arith, ap length octets))
    by (l ∷ n) same valid octets =
        let size : count ≡ length l = cc in
        let rest : s ≡ l ++ counting n = cc in
        let label : take count s ≡ l = (λ i. take (size i) (rest i)) ∙ take-append_seam l (counting n) in
        let after : drop count s ≡ counting n = (λ i. drop (size i) (rest i)) ∙ drop-append_seam l (counting n) in
        record {
          within = omega (arith, size, ap length rest, length-append l (counting n));
          short = omega (arith, size, valid.0.short);
          some = omega (arith, size, valid.0.some);
          name = same ∙ λ i. sym label i ∷ sym (is_counted_name (drop count s) n after) i;
          base = is_counting (drop count s) n valid.1 after;
        }

-- ---- lower case: lengths are no letters

length_lower : (k : ℕ) → k ≤ 63 → to_ascii_lowercase k ≡ k
length_lower k h = grind (arith, nat_tests)

pub counting_lower : (n : Name) → AllByRecursion IsLabel n → map to_ascii_lowercase (counting n) ≡ counting (lower n)
counting_lower [] h = refl
counting_lower (l ∷ n) h =
    λ i. (length_lower (length l) h.0.short ∙ sym (length-map l to_ascii_lowercase)) i
    ∷ (map-append to_ascii_lowercase l (counting n) ∙ ap (λ z. map to_ascii_lowercase l ++ z) (counting_lower n h.1)) i

-- ---- the first label is taken away, or written over by a label of one octet

pub record IsOf (t : List ℕ) (n : Name) : Type 0 where
  pub counting : IsCounting t (counted_name t)
  pub name : counted_name t ≡ n

is_of : (t : List ℕ) (n : Name) → AllByRecursion IsLabel n → t ≡ counting n → IsOf t n
is_of t n h e = record { counting = is_counting t n h e; name = is_counted_name t n e }

pub cut : (s t : List ℕ) (count : ℕ) → IsCounting s (counted_name s) → (s ≡ [] → ⊥) → count ≡ get_or s 0 0 → t ≡ drop (count + 1) s → IsOf t (drop 1 (counted_name s))
cut s t count h some e cutting = by s (counted_name s) some e cutting h.labels h.octets
  where
    by : (s : List ℕ) (n : Name) → (s ≡ [] → ⊥) → count ≡ get_or s 0 0 → t ≡ drop (count + 1) s → AllByRecursion IsLabel n → s ≡ counting n → IsOf t (drop 1 n)
    by s [] some e cutting valid octets = absurd (some octets)
    by s (l ∷ n) some e cutting valid octets =
        let size : count + 1 ≡ suc (length l) = omega (arith, e, ap (λ z. get_or z 0 0) octets) in
        is_of t n valid.1 (cutting ∙ (λ i. drop (size i) (octets i)) ∙ drop-append_seam l (counting n))

two_left : (k b : ℕ) (l : Label) (s : List ℕ) → (x : ℕ) × (y : ℕ) × (drop (length l) (k ∷ b ∷ (l ++ s)) ≡ x ∷ y ∷ s)
two_left k b [] s = (k, b, refl)
two_left k b (c ∷ l) s = two_left b c l s

wildcard_valid : IsLabel (42 ∷ [])
wildcard_valid = record { some = omega arith; short = omega arith; octets = (omega arith, tt) }

pub starred_front : (s t : List ℕ) (count : ℕ) → IsCounting s (counted_name s) → (s ≡ [] → ⊥) → count ≡ get_or s 0 0
    → t ≡ set (set (drop (count - 1) s) 0 1) 1 42 → IsOf t (wildcard_of (counted_name s))
starred_front s t count h some e starring = by s (counted_name s) some e starring h.labels h.octets
  where
    by : (s : List ℕ) (n : Name) → (s ≡ [] → ⊥) → count ≡ get_or s 0 0 → t ≡ set (set (drop (count - 1) s) 0 1) 1 42
        → AllByRecursion IsLabel n → s ≡ counting n → IsOf t (wildcard_of n)
    by s [] some e starring valid octets = absurd (some octets)
    by s ([] ∷ n) some e starring valid octets = absurd (omega (arith, valid.0.some))
    by s ((b ∷ l) ∷ n) some e starring valid octets =
        let size : count - 1 ≡ length l = omega (arith, e, ap (λ z. get_or z 0 0) octets) in
        let left = two_left (suc (length l)) b l (counting n) in
        is_of t ((42 ∷ []) ∷ n) (wildcard_valid, valid.1)
        (starring ∙ (λ i. set (set (drop (size i) (octets i)) 0 1) 1 42) ∙ ap (λ z. set (set z 0 1) 1 42) left.2)

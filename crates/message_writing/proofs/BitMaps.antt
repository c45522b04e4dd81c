-- Bits of octets: what is set for types is read as these types
use Rattle.std.proofs.lemmas.List.{append-nil}
use Rattle.std.proofs.Common.{leb, ◌&&◌, Some, ◌≡◌, ℕ, zero, suc, ◌+◌, ◌-◌, ◌*◌, ◌/◌, ◌%◌, ◌^◌, ◌<◌, ◌≤◌, Bool, true, false, eqb, not, slice_index, if◌then◌else◌, List, [], ◌∷◌, ◌++◌, length, refl, sym, ap, subst, ◌∙◌, append_assoc, arith, inl, inr}
use Rattle.std.proofs.Math.Nat.{mul-add-div_right, div-eq_of_lt}
use Rattle.std.proofs.lemmas.Nat.{div-mul-add, pow_pos}
use Rattle.std.proofs.lemmas.Bool.{cases_eq, eq-eqb, ne_eqb, le-leb, and_from}
use Rattle.message_reading.specs.Headers.{has_bit}
use Rattle.message_reading.specs.Octets.{octets_of}
use Rattle.message_reading.specs.TypeMaps.{weights, set_bits, bits_from, bit_of, is_passed_over, ends_in_bits, block_of, types_within}
use Rattle.message_writing.specs.TypeMapText.{bit_taken, bits_taken, octets_taken, window_front, window_rest, last_of, count_for, block, map_text, IsAscendingFrom}
use Rattle.message_writing.proofs.Steps.{octets_back}
use Rattle.std.specs.List.{AllByRecursion}

-- the weights of so many bits
abbrev pub weights_of : ℕ → List ℕ
weights_of zero = []
weights_of (suc k) = (2 ^ k) ∷ weights_of k

eight : weights_of 8 ≡ weights
eight = refl

double : (k : ℕ) → 2 ^ suc k ≡ 2 * 2 ^ k
double k = grind arith

some : (k : ℕ) → 0 < 2 ^ k
some k = pow_pos k

-- what is above so many bits doesn't tell of them
low_bits : (k q c n : ℕ) → set_bits (weights_of k) n (q * 2 ^ k + c) ≡ set_bits (weights_of k) n c
low_bits zero q c n = refl
low_bits (suc k) q c n =
    let w = 2 ^ k in
    let same : q * 2 ^ suc k + c ≡ (2 * q) * w + c = regroup (2 ^ suc k) w q c (double k) in
    let above : ((2 * q) * w + c) / w ≡ 2 * q + c / w = mul-add-div_right (some k) (2 * q) c in
    let bit : has_bit w ((2 * q) * w + c) ≡ has_bit w c = ap (λ x. eqb (x % 2) 1) above ∙ ap (λ x. eqb x 1) (pairs q (c / w)) in
    ap (set_bits (weights_of (suc k)) n) same
    ∙ (λ i. bit_of n (bit i) ++ low_bits k (2 * q) c (n + 1) i)
  where
    regroup : (d w q c : ℕ) → d ≡ 2 * w → q * d + c ≡ (2 * q) * w + c
    regroup d w q c e = rw e (grind arith)

    pairs : (q x : ℕ) → (2 * q + x) % 2 ≡ x % 2
    pairs q x = omega arith

-- a bit is taken, or it is not
bit_is : (w n t : ℕ) (ts : List ℕ) → t ≡ n → bit_taken w n (t ∷ ts) ≡ (w, ts)
bit_is w n t ts e = rw (eq-eqb t n e) refl

bit_not : (w n t : ℕ) (ts : List ℕ) → (t ≡ n → ⊥) → bit_taken w n (t ∷ ts) ≡ (0, t ∷ ts)
bit_not w n t ts d = rw (ne_eqb t n d) refl

-- the octet of a first bit and of those after it, and the types that are left
abbrev with_bit : List ℕ → ℕ → ℕ × List ℕ → ℕ × List ℕ
with_bit ws n bit = (bit.0 + (bits_taken ws (n + 1) bit.1).0, (bits_taken ws (n + 1) bit.1).1)

taken_with : (k n : ℕ) (ts : List ℕ) (bit : ℕ × List ℕ) → bit_taken (2 ^ k) n ts ≡ bit
    → bits_taken (weights_of (suc k)) n ts ≡ with_bit (weights_of k) n bit
taken_with k n ts bit e = ap (with_bit (weights_of k) n) e

taken_below : (k n : ℕ) (ts : List ℕ) → (bits_taken (weights_of k) n ts).0 < 2 ^ k
taken_below zero n ts = omega arith
taken_below (suc k) n [] = omega (arith, double k, taken_below k (n + 1) [])
taken_below (suc k) n (t ∷ ts) =
    elim (cases_eq t n) [
      | inl e ↦ omega (arith, double k, taken_below k (n + 1) ts, ap (λ (x : ℕ × List ℕ). x.0) (taken_with k n (t ∷ ts) (2 ^ k, ts) (bit_is (2 ^ k) n t ts e)))
      | inr d ↦ omega (arith, double k, taken_below k (n + 1) (t ∷ ts), ap (λ (x : ℕ × List ℕ). x.0) (taken_with k n (t ∷ ts) (0, t ∷ ts) (bit_not (2 ^ k) n t ts d)))
    ]

not_set : (k c : ℕ) → c < 2 ^ k → has_bit (2 ^ k) c ≡ false
not_set k c below = let none : c / 2 ^ k ≡ 0 = div-eq_of_lt below in rw none refl

is_set : (k c : ℕ) → c < 2 ^ k → has_bit (2 ^ k) (2 ^ k + c) ≡ true
is_set k c below =
    let e : 1 * 2 ^ k + c ≡ 2 ^ k + c = omega arith in
    let one : (2 ^ k + c) / 2 ^ k ≡ 1 = ap (λ x. x / 2 ^ k) (sym e) ∙ div-mul-add 1 (2 ^ k) c below in
    rw one refl

-- the type of a bit is kept where the map is read
abbrev pub AreKept : List ℕ → Type 0
AreKept = AllByRecursion (λ t. is_passed_over t ≡ false)

kept_bit : (n : ℕ) → is_passed_over n ≡ false → bit_of n true ≡ n ∷ []
kept_bit n h = by (is_passed_over n) h
  where
    by : (p : Bool) → p ≡ false → (if true && not p then n ∷ [] else []) ≡ n ∷ []
    by true e = absurd cc
    by false e = refl

-- reading the octet that was taken gives what was taken, and then what is left
abbrev Back : ℕ → ℕ → ℕ × List ℕ → List ℕ → Type 0
Back k n taken ts = set_bits (weights_of k) n taken.0 ++ taken.1 ≡ ts

pub taken_back : (k n : ℕ) (ts : List ℕ) → AreKept ts → Back k n (bits_taken (weights_of k) n ts) ts
taken_back zero n ts h = refl
taken_back (suc k) n [] h =
    let c = (bits_taken (weights_of k) (n + 1) []).0 in
    let left = (bits_taken (weights_of k) (n + 1) []).1 in
    let zero_more : 0 + c ≡ c = omega arith in
    subst (λ x. Back (suc k) n (x, left) []) (sym zero_more)
    ((λ i. (bit_of n (not_set k c (taken_below k (n + 1) []) i) ++ set_bits (weights_of k) (n + 1) c) ++ left) ∙ taken_back k (n + 1) [] tt)
taken_back (suc k) n (t ∷ ts) h =
    elim (cases_eq t n) [
      | inl e ↦
          let c = (bits_taken (weights_of k) (n + 1) ts).0 in
          let left = (bits_taken (weights_of k) (n + 1) ts).1 in
          let below = taken_below k (n + 1) ts in
          let one : 2 ^ k + c ≡ 1 * 2 ^ k + c = omega arith in
          let low : set_bits (weights_of k) (n + 1) (2 ^ k + c) ≡ set_bits (weights_of k) (n + 1) c = ap (set_bits (weights_of k) (n + 1)) one ∙ low_bits k 1 c (n + 1) in
          let kept : is_passed_over n ≡ false = subst (λ x. is_passed_over x ≡ false) e h.0 in
          let bit : bit_of n (has_bit (2 ^ k) (2 ^ k + c)) ≡ n ∷ [] = ap (bit_of n) (is_set k c below) ∙ kept_bit n kept in
          let back : Back (suc k) n (2 ^ k + c, left) (t ∷ ts) =
          (λ i. (bit i ++ low i) ++ left) ∙ (λ i. sym e i ∷ taken_back k (n + 1) ts h.1 i) in
          subst (λ x. Back (suc k) n x (t ∷ ts)) (sym (taken_with k n (t ∷ ts) (2 ^ k, ts) (bit_is (2 ^ k) n t ts e))) back
      | inr d ↦
          let c = (bits_taken (weights_of k) (n + 1) (t ∷ ts)).0 in
          let left = (bits_taken (weights_of k) (n + 1) (t ∷ ts)).1 in
          let zero_more : 0 + c ≡ c = omega arith in
          let back : Back (suc k) n (0 + c, left) (t ∷ ts) =
          subst (λ x. Back (suc k) n (x, left) (t ∷ ts)) (sym zero_more)
          ((λ i. (bit_of n (not_set k c (taken_below k (n + 1) (t ∷ ts)) i) ++ set_bits (weights_of k) (n + 1) c) ++ left) ∙ taken_back k (n + 1) (t ∷ ts) h) in
          subst (λ x. Back (suc k) n x (t ∷ ts)) (sym (taken_with k n (t ∷ ts) (0, t ∷ ts) (bit_not (2 ^ k) n t ts d))) back
    ]

-- ---- what holds of all types holds of those that are left

bit_all : (P : ℕ → Type 0) (w n : ℕ) (ts : List ℕ) → AllByRecursion P ts → AllByRecursion P (bit_taken w n ts).1
bit_all P w n [] h = tt
bit_all P w n (t ∷ ts) h =
    elim (cases_eq t n) [
      | inl e ↦ subst (λ (x : ℕ × List ℕ). AllByRecursion P x.1) (sym (bit_is w n t ts e)) h.1
      | inr d ↦ subst (λ (x : ℕ × List ℕ). AllByRecursion P x.1) (sym (bit_not w n t ts d)) h
    ]

bits_all : (P : ℕ → Type 0) (k n : ℕ) (ts : List ℕ) → AllByRecursion P ts → AllByRecursion P (bits_taken (weights_of k) n ts).1
bits_all P zero n ts h = h
bits_all P (suc k) n ts h = bits_all P k (n + 1) (bit_taken (2 ^ k) n ts).1 (bit_all P (2 ^ k) n ts h)

octets_all : (P : ℕ → Type 0) (count n : ℕ) (ts : List ℕ) → AllByRecursion P ts → AllByRecursion P (octets_taken count n ts).1
octets_all P zero n ts h = h
octets_all P (suc count) n ts h = octets_all P count (n + 8) (bits_taken weights n ts).1 (bits_all P 8 n ts h)

pub octets_taken_back : (count n : ℕ) (ts : List ℕ) → AreKept ts → bits_from n (octets_taken count n ts).0 ++ (octets_taken count n ts).1 ≡ ts
octets_taken_back zero n ts h = refl
octets_taken_back (suc count) n ts h =
    let t = bits_taken weights n ts in
    append_assoc (set_bits weights n t.0) (bits_from (n + 8) (octets_taken count (n + 8) t.1).0) (octets_taken count (n + 8) t.1).1
    ∙ ap (λ s. set_bits weights n t.0 ++ s) (octets_taken_back count (n + 8) t.1 (bits_all (λ x. is_passed_over x ≡ false) 8 n ts h))
    ∙ taken_back 8 n ts h

-- ---- nothing is left of a window's types

bit_left : (w n : ℕ) (ts : List ℕ) → IsAscendingFrom n ts → IsAscendingFrom (n + 1) (bit_taken w n ts).1
bit_left w n [] h = tt
bit_left w n (t ∷ ts) h =
    elim (cases_eq t n) [
      | inl e ↦ subst (λ (x : ℕ × List ℕ). IsAscendingFrom (n + 1) x.1) (sym (bit_is w n t ts e)) (subst (λ x. IsAscendingFrom (x + 1) ts) e h.1)
      | inr d ↦ subst (λ (x : ℕ × List ℕ). IsAscendingFrom (n + 1) x.1) (sym (bit_not w n t ts d)) (after n t d h.0, h.1)
    ]
  where
    after : (n t : ℕ) → (t ≡ n → ⊥) → n ≤ t → n + 1 ≤ t
    after n t other h = omega (arith, other)

bits_left : (k n : ℕ) (ts : List ℕ) → IsAscendingFrom n ts → IsAscendingFrom (n + k) (bits_taken (weights_of k) n ts).1
bits_left zero n ts h = let e : n ≡ n + 0 = omega arith in subst (λ x. IsAscendingFrom x ts) e h
bits_left (suc k) n ts h =
    let e : n + 1 + k ≡ n + suc k = omega arith in
    let left = (bit_taken (2 ^ k) n ts).1 in
    subst (λ x. IsAscendingFrom x (bits_taken (weights_of k) (n + 1) left).1) e (bits_left k (n + 1) left (bit_left (2 ^ k) n ts h))

octets_left : (count n : ℕ) (ts : List ℕ) → IsAscendingFrom n ts → IsAscendingFrom (n + 8 * count) (octets_taken count n ts).1
octets_left zero n ts h = let e : n ≡ n + 8 * 0 = omega arith in subst (λ x. IsAscendingFrom x ts) e h
octets_left (suc count) n ts h =
    let e : n + 8 + 8 * count ≡ n + 8 * suc count = omega arith in
    let left = (bits_taken weights n ts).1 in
    subst (λ x. IsAscendingFrom x (octets_taken count (n + 8) left).1) e (octets_left count (n + 8) left (bits_left 8 n ts h))

none_between : (n : ℕ) (ts : List ℕ) → IsAscendingFrom n ts → AllByRecursion (λ x. x < n) ts → ts ≡ []
none_between n [] h b = refl
none_between n (t ∷ ts) h b = absurd (omega (arith, h.0, b.0))

octets_count : (count n : ℕ) (ts : List ℕ) → length (octets_taken count n ts).0 ≡ count
octets_count zero n ts = refl
octets_count (suc count) n ts = omega (arith, octets_count count (n + 8) (bits_taken weights n ts).1)

-- ---- the windows

front_rest : (w : ℕ) (ts : List ℕ) → window_front w ts ++ window_rest w ts ≡ ts
front_rest w [] = refl
front_rest w (t ∷ ts) =
    elim (cases_eq (t / 256) w) [
      | inl same ↦ rw (eq-eqb (t / 256) w same) (ap (λ s. t ∷ s) (front_rest w ts))
      | inr other ↦ rw (ne_eqb (t / 256) w other) refl
    ]

front_ascends : (w n : ℕ) (ts : List ℕ) → IsAscendingFrom n ts → IsAscendingFrom n (window_front w ts)
front_ascends w n [] h = tt
front_ascends w n (t ∷ ts) h =
    elim (cases_eq (t / 256) w) [
      | inl same ↦ rw (eq-eqb (t / 256) w same) (h.0, front_ascends w (t + 1) ts h.1)
      | inr other ↦ rw (ne_eqb (t / 256) w other) tt
    ]

front_within : (w : ℕ) (ts : List ℕ) → AllByRecursion (λ x. x / 256 ≡ w) (window_front w ts)
front_within w [] = tt
front_within w (t ∷ ts) =
    elim (cases_eq (t / 256) w) [
      | inl same ↦ rw (eq-eqb (t / 256) w same) (same, front_within w ts)
      | inr other ↦ rw (ne_eqb (t / 256) w other) tt
    ]

rest_ascends : (w n : ℕ) (ts : List ℕ) → w * 256 ≤ n → IsAscendingFrom n ts → IsAscendingFrom ((w + 1) * 256) (window_rest w ts)
rest_ascends w n [] low h = tt
rest_ascends w n (t ∷ ts) low h =
    elim (cases_eq (t / 256) w) [
      | inl same ↦ rw (eq-eqb (t / 256) w same) (rest_ascends w (t + 1) ts (omega (arith, h.0)) h.1)
      | inr other ↦ rw (ne_eqb (t / 256) w other) (after w t other (omega (arith, h.0)), h.1)
    ]
  where
    after : (w t : ℕ) → (t / 256 ≡ w → ⊥) → w * 256 ≤ t → (w + 1) * 256 ≤ t
    after w t other h = omega (arith, other)

rest_all : (P : ℕ → Type 0) (w : ℕ) (ts : List ℕ) → AllByRecursion P ts → AllByRecursion P (window_rest w ts)
rest_all P w [] h = tt
rest_all P w (t ∷ ts) h =
    elim (cases_eq (t / 256) w) [
      | inl same ↦ rw (eq-eqb (t / 256) w same) (rest_all P w ts h.1)
      | inr other ↦ rw (ne_eqb (t / 256) w other) h
    ]

front_all : (P : ℕ → Type 0) (w : ℕ) (ts : List ℕ) → AllByRecursion P ts → AllByRecursion P (window_front w ts)
front_all P w [] h = tt
front_all P w (t ∷ ts) h =
    elim (cases_eq (t / 256) w) [
      | inl same ↦ rw (eq-eqb (t / 256) w same) (h.0, front_all P w ts h.1)
      | inr other ↦ rw (ne_eqb (t / 256) w other) tt
    ]

last_within : (w t : ℕ) (ts : List ℕ) → t / 256 ≡ w → AllByRecursion (λ x. x / 256 ≡ w) ts → last_of t ts / 256 ≡ w
last_within w t [] same h = same
last_within w t (u ∷ us) same h = last_within w u us h.0 h.1

upto_last : (t : ℕ) (ts : List ℕ) → IsAscendingFrom (t + 1) ts → t ≤ last_of t ts
upto_last t [] h = omega arith
upto_last t (u ∷ us) h = omega (arith, h.0, upto_last u us h.1)

below_bound : (b t : ℕ) (ts : List ℕ) → IsAscendingFrom (t + 1) ts → last_of t ts < b → AllByRecursion (λ x. x < b) (t ∷ ts)
below_bound b t [] h l = (l, tt)
below_bound b t (u ∷ us) h l =
    let rest = below_bound b u us h.1 l in
    (omega (arith, h.0, rest.0), rest)

-- ---- the last octet of a block has a bit

both_all : (P : ℕ → Type 0) (xs ys : List ℕ) → AllByRecursion P xs → AllByRecursion P ys → AllByRecursion P (xs ++ ys)
both_all P [] ys h k = k
both_all P (x ∷ xs) ys h k = (h.0, both_all P xs ys h.1 k)

bit_below : (b n : ℕ) (set : Bool) → n < b → AllByRecursion (λ x. x < b) (bit_of n set)
bit_below b n set lt = by (set && not (is_passed_over n))
  where
    by : (c : Bool) → AllByRecursion (λ x. x < b) (if c then n ∷ [] else [])
    by true = (lt, tt)
    by false = tt

set_below : (b k n octet : ℕ) → n + k ≤ b → AllByRecursion (λ x. x < b) (set_bits (weights_of k) n octet)
set_below b zero n octet le = tt
set_below b (suc k) n octet le =
    both_all (λ x. x < b) (bit_of n (has_bit (2 ^ k) octet)) (set_bits (weights_of k) (n + 1) octet)
    (bit_below b n (has_bit (2 ^ k) octet) (omega arith)) (set_below b k (n + 1) octet (omega arith))

last_below : (b t : ℕ) (ts : List ℕ) → AllByRecursion (λ x. x < b) (t ∷ ts) → last_of t ts < b
last_below b t [] h = h.0
last_below b t (u ∷ us) h = last_below b u us h.1

abbrev NotAllBelow : ℕ → List ℕ → Type 0
NotAllBelow b ts = AllByRecursion (λ x. x < b) ts → ⊥

last_octet : (c n : ℕ) (ts : List ℕ) → AreKept ts → IsAscendingFrom n ts → AllByRecursion (λ x. x < n + 8 * suc c) ts → NotAllBelow (n + 8 * c) ts
    → slice_index (octets_taken (suc c) n ts).0 c ≡ 0 → ⊥
last_octet zero n ts kept ascends below some e =
    let left = (bits_taken weights n ts).1 in
    let none : set_bits weights n (bits_taken weights n ts).0 ≡ [] = ap (set_bits weights n) e in
    let same : left ≡ ts = ap (λ s. s ++ left) (sym none) ∙ taken_back 8 n ts kept in
    let under : n + 8 * 1 ≡ n + 8 = omega arith in
    let low : AllByRecursion (λ x. x < n + 8) ts = subst (λ b. AllByRecursion (λ x. x < b) ts) under below in
    let nothing : left ≡ [] = none_between (n + 8) left (bits_left 8 n ts ascends) (subst (AllByRecursion (λ x. x < n + 8)) (sym same) low) in
    some (subst (AllByRecursion (λ x. x < n + 8 * 0)) (sym nothing ∙ same) tt)
last_octet (suc c) n ts kept ascends below some e =
    let octet = (bits_taken weights n ts).0 in
    let left = (bits_taken weights n ts).1 in
    let e₁ : n + 8 * suc (suc c) ≡ n + 8 + 8 * suc c = omega arith in
    let e₂ : n + 8 * suc c ≡ n + 8 + 8 * c = omega arith in
    let rest : AllByRecursion (λ x. x < n + 8 + 8 * suc c) left =
    bits_all (λ x. x < n + 8 + 8 * suc c) 8 n ts (subst (λ b. AllByRecursion (λ x. x < b) ts) e₁ below) in
    last_octet c (n + 8) left (bits_all (λ x. is_passed_over x ≡ false) 8 n ts kept) (bits_left 8 n ts ascends) rest
    (λ all. some (subst (AllByRecursion (λ x. x < n + 8 * suc c)) (taken_back 8 n ts kept)
    (both_all (λ x. x < n + 8 * suc c) (set_bits weights n octet) left (set_below (n + 8 * suc c) 8 n octet (omega arith))
    (subst (λ b. AllByRecursion (λ x. x < b) left) (sym e₂) all)))) e

ends : (octets : List ℕ) (c : ℕ) → length octets ≡ suc c → (slice_index octets c ≡ 0 → ⊥) → ends_in_bits octets ≡ true
ends octets c size some =
    let at : length octets - 1 ≡ c = omega (arith, size) in
    let not_zero : eqb (slice_index octets (length octets - 1)) 0 ≡ false = ne_eqb _ 0 (λ z. some (ap (slice_index octets) (sym at) ∙ z)) in
    rw not_zero refl

-- ---- a type map is read back

block_is : (count : ℕ) (octets after : List ℕ) → length octets ≡ count → count ≤ 32 → ends_in_bits octets ≡ true
    → block_of (count ∷ (octets ++ after)) ≡ Some (octets, after)
block_is count octets after size few bits =
    let front : octets_of count (octets ++ after) ≡ Some (octets, after) =
    subst (λ n. octets_of n (octets ++ after) ≡ Some (octets, after)) size (octets_back octets after) in
    let tests = and_from (leb count 32) (ends_in_bits octets) (le-leb count 32 few) bits in
    rw (front, tests) refl

block_step : (k low w : ℕ) (rest after bits more : List ℕ) → leb low w ≡ true → block_of rest ≡ Some (bits, after)
    → types_within k (w + 1) after ≡ Some more → types_within (suc k) low (w ∷ rest) ≡ Some (bits_from (w * 256) bits ++ more)
unfolding types_within
block_step k low w rest after bits more lowest block e = rw (lowest, block, e) refl

block_back : (k low t : ℕ) (ts after more : List ℕ) → low ≤ t / 256 → IsAscendingFrom (t + 1) ts → AllByRecursion (λ x. x / 256 ≡ t / 256) ts
    → AreKept (t ∷ ts) → types_within k (t / 256 + 1) after ≡ Some more → types_within (suc k) low (block t ts ++ after) ≡ Some ((t ∷ ts) ++ more)
block_back k low t ts after more lowest ascends within kept e =
    let w = t / 256 in
    let last = last_of t ts in
    let c = last % 256 / 8 in
    let count = count_for last in
    let next : count ≡ suc c = omega arith in
    let window : last / 256 ≡ w = last_within w t ts refl within in
    let end : last < w * 256 + 8 * count = omega arith in
    let octets = (octets_taken count (w * 256) (t ∷ ts)).0 in
    let left = (octets_taken count (w * 256) (t ∷ ts)).1 in
    let from : IsAscendingFrom (w * 256) (t ∷ ts) = (omega arith, ascends) in
    let below = below_bound (w * 256 + 8 * count) t ts ascends end in
    let nothing : left ≡ [] = none_between (w * 256 + 8 * count) left (octets_left count (w * 256) (t ∷ ts) from)
    (octets_all (λ x. x < w * 256 + 8 * count) count (w * 256) (t ∷ ts) below) in
    let back : bits_from (w * 256) octets ≡ t ∷ ts =
    sym (append-nil (bits_from (w * 256) octets)) ∙ ap (λ s. bits_from (w * 256) octets ++ s) (sym nothing) ∙ octets_taken_back count (w * 256) (t ∷ ts) kept in
    let size = octets_count count (w * 256) (t ∷ ts) in
    let some : NotAllBelow (w * 256 + 8 * c) (t ∷ ts) = λ all. omega (arith, last_below (w * 256 + 8 * c) t ts all, window) in
    let bits : slice_index octets c ≡ 0 → ⊥ =
    subst (λ n. slice_index (octets_taken n (w * 256) (t ∷ ts)).0 c ≡ 0 → ⊥) (sym next)
    (last_octet c (w * 256) (t ∷ ts) kept from (subst (λ n. AllByRecursion (λ x. x < w * 256 + 8 * n) (t ∷ ts)) next below) some) in
    block_step k low w (count ∷ (octets ++ after)) after octets more (le-leb low w lowest)
    (block_is count octets after size (omega arith) (ends octets c (size ∙ next) bits)) e
    ∙ ap (λ s. Some (s ++ more)) back

pub map_back : (k low : ℕ) (ts : List ℕ) → 256 ≤ low + k → IsAscendingFrom (low * 256) ts → AllByRecursion (λ x. x < 65536) ts → AreKept ts
    → types_within (suc k) low (map_text k ts) ≡ Some ts
unfolding types_within
map_back zero low [] enough ascends below kept = refl
map_back zero low (t ∷ ts) enough ascends below kept = absurd (omega (arith, ascends.0, below.0))
map_back (suc k) low [] enough ascends below kept = refl
map_back (suc k) low (t ∷ ts) enough ascends below kept =
    let w = t / 256 in
    let front = window_front w ts in
    let rest = window_rest w ts in
    let others = map_back k (w + 1) rest (omega (arith, ascends.0)) (rest_ascends w (t + 1) ts (omega arith) ascends.1)
    (rest_all (λ x. x < 65536) w ts below.1) (rest_all (λ x. is_passed_over x ≡ false) w ts kept.1) in
    block_back (suc k) low t front (map_text k rest) rest (omega (arith, ascends.0)) (front_ascends w (t + 1) ts ascends.1) (front_within w ts)
    (kept.0, front_all (λ x. is_passed_over x ≡ false) w ts kept.1) others
    ∙ ap (λ s. Some (t ∷ s)) (front_rest w ts)

-- Texts in base32hex of digests of one length sort as the digests, and so do the owners that they are of
use Rattle.std.proofs.Common.{◌≡◌, ℕ, zero, suc, ◌+◌, ◌*◌, ◌/◌, ◌%◌, ◌^◌, ◌-◌, ◌<◌, ◌≤◌, List, [], ◌∷◌, ◌++◌, length, map, reverse, refl, sym, ap, ◌∙◌, Ordering, Less, Equal, Greater, nat_cmp, slice_index, arith}
use Rattle.std.specs.Char.{digit_char}
use Rattle.std.specs.List.{AllByRecursion, range_with_len}
use Rattle.std.specs.Ordering.{ordering_then, MatchOrdering}
use Rattle.std.specs.Cmp.Lexicographic.{slice_cmp, nat_list_cmp_total}
use Rattle.std.proofs.lemmas.Cmp.{ranked, tied_itself}
use Rattle.std.proofs.lemmas.Bool.Decides.{nat_tests}
use Rattle.std.proofs.Math.Nat.{mul-le-mul_left}
use Rattle.std.proofs.lemmas.List.{reverse-append}
use Rattle.zone_proto.specs.Base32.{base32_count, base32_text, five_bits}
use Rattle.zone_proto.specs.HashedOwners.{hashed_owner}
use Rattle.zone_proto.specs.Names.{Name, name_cmp, octets_cmp}
use Rattle.zone_proto.specs.Ranges.{IsOctet}

-- ---- numbers

cmp_less : (x y : ℕ) → x < y → nat_cmp x y ≡ Less
cmp_less x y h = grind (arith, nat_tests)

cmp_greater : (x y : ℕ) → y < x → nat_cmp x y ≡ Greater
cmp_greater x y h = grind (arith, nat_tests)

cmp_equal : (x y : ℕ) → x ≡ y → nat_cmp x y ≡ Equal
cmp_equal x y h = grind (arith, nat_tests)

under_then : (r : Ordering) {p q : Ordering} → p ≡ q → ordering_then r p ≡ ordering_then r q
under_then r e = ap (ordering_then r) e

then_assoc : (p q r : Ordering) → ordering_then (ordering_then p q) r ≡ ordering_then p (ordering_then q r)
then_assoc Less q r = refl
then_assoc Equal q r = refl
then_assoc Greater q r = refl

last_then : (r : Ordering) → ordering_then r Equal ≡ r
last_then Less = refl
last_then Equal = refl
last_then Greater = refl

-- a number of two digits in base b is ordered by the first, then by the second
pub weighed : (b x r y s : ℕ) → r < b → s < b → nat_cmp (b * x + r) (b * y + s) ≡ ordering_then (nat_cmp x y) (nat_cmp r s)
weighed b x r y s h k = by (nat_cmp x y) refl (ranked x y (nat_cmp x y) refl)
  where
    by : (o : Ordering) → nat_cmp x y ≡ o → MatchOrdering o (x < y) (x ≡ y) (y < x) → nat_cmp (b * x + r) (b * y + s) ≡ ordering_then o (nat_cmp r s)
    by Less e l = let m : b * suc x ≤ b * y = mul-le-mul_left b l in cmp_less (b * x + r) (b * y + s) (omega arith)
    by Greater e l = let m : b * suc y ≤ b * x = mul-le-mul_left b l in cmp_greater (b * x + r) (b * y + s) (omega arith)
    by Equal e l = ap (λ w. nat_cmp (b * w + r) (b * y + s)) l ∙ shifted (b * y)
      where
        shifted : (n : ℕ) → nat_cmp (n + r) (n + s) ≡ nat_cmp r s
        shifted n = go (nat_cmp r s) refl (ranked r s (nat_cmp r s) refl)
          where
            go : (o : Ordering) → nat_cmp r s ≡ o → MatchOrdering o (r < s) (r ≡ s) (s < r) → nat_cmp (n + r) (n + s) ≡ o
            go Less e l = cmp_less (n + r) (n + s) (omega arith)
            go Equal e l = cmp_equal (n + r) (n + s) (omega arith)
            go Greater e l = cmp_greater (n + r) (n + s) (omega arith)

-- characters are ordered as what they stand for
character_cmp : (v w : ℕ) → nat_cmp (digit_char v) (digit_char w) ≡ nat_cmp v w
character_cmp v w = go (nat_cmp v w) refl (ranked v w (nat_cmp v w) refl)
  where
    go : (o : Ordering) → nat_cmp v w ≡ o → MatchOrdering o (v < w) (v ≡ w) (w < v) → nat_cmp (digit_char v) (digit_char w) ≡ o
    go Less e l = cmp_less (digit_char v) (digit_char w) (grind (arith, nat_tests))
    go Equal e l = cmp_equal (digit_char v) (digit_char w) (ap digit_char l)
    go Greater e l = cmp_greater (digit_char v) (digit_char w) (grind (arith, nat_tests))

-- two parts of a number, the second below the base
parted : (b m n x r y s : ℕ) → m ≡ b * x + r → n ≡ b * y + s → r < b → s < b → nat_cmp m n ≡ ordering_then (nat_cmp x y) (nat_cmp r s)
parted b m n x r y s e f h k = (λ i. nat_cmp (e i) (f i)) ∙ weighed b x r y s h k

parted_character : (b m n x r y s : ℕ) → m ≡ b * x + r → n ≡ b * y + s → r < b → s < b → nat_cmp (digit_char m) (digit_char n) ≡ ordering_then (nat_cmp x y) (nat_cmp r s)
parted_character b m n x r y s e f h k = character_cmp m n ∙ parted b m n x r y s e f h k

whole_character : (m n x y : ℕ) → m ≡ x → n ≡ y → nat_cmp (digit_char m) (digit_char n) ≡ nat_cmp x y
whole_character m n x y e f = character_cmp m n ∙ (λ i. nat_cmp (e i) (f i))

-- ---- five octets and their eight characters

regrouped : (a b c d e f g h i j k l rest : Ordering)
    → ordering_then a (ordering_then (ordering_then b c) (ordering_then d (ordering_then (ordering_then e f) (ordering_then (ordering_then g h) (ordering_then i (ordering_then (ordering_then j k) (ordering_then l rest)))))))
    ≡ ordering_then (ordering_then a b) (ordering_then (ordering_then c (ordering_then d e)) (ordering_then (ordering_then f g) (ordering_then (ordering_then h (ordering_then i j)) (ordering_then (ordering_then k l) rest))))
regrouped a b c d e f g h i j k l rest = simp then_assoc refl

-- the eight characters of five octets, and of the octet that follows them, are ordered as these octets
eight : (a b c d e f v w x y z u : ℕ) (rest : Ordering) → a < 256 → b < 256 → c < 256 → d < 256 → e < 256 → f < 256 → v < 256 → w < 256 → x < 256 → y < 256 → z < 256 → u < 256
    → ordering_then (nat_cmp (digit_char ((a * 256 + b) / 2048 % 32)) (digit_char ((v * 256 + w) / 2048 % 32))) (ordering_then (nat_cmp (digit_char ((a * 256 + b) / 64 % 32)) (digit_char ((v * 256 + w) / 64 % 32))) (ordering_then (nat_cmp (digit_char ((b * 256 + c) / 512 % 32)) (digit_char ((w * 256 + x) / 512 % 32))) (ordering_then (nat_cmp (digit_char ((b * 256 + c) / 16 % 32)) (digit_char ((w * 256 + x) / 16 % 32))) (ordering_then (nat_cmp (digit_char ((c * 256 + d) / 128 % 32)) (digit_char ((x * 256 + y) / 128 % 32))) (ordering_then (nat_cmp (digit_char ((d * 256 + e) / 1024 % 32)) (digit_char ((y * 256 + z) / 1024 % 32))) (ordering_then (nat_cmp (digit_char ((d * 256 + e) / 32 % 32)) (digit_char ((y * 256 + z) / 32 % 32))) (ordering_then (nat_cmp (digit_char ((e * 256 + f) / 256 % 32)) (digit_char ((z * 256 + u) / 256 % 32))) rest)))))))
    ≡ ordering_then (nat_cmp a v) (ordering_then (nat_cmp b w) (ordering_then (nat_cmp c x) (ordering_then (nat_cmp d y) (ordering_then (nat_cmp e z) rest))))
eight a b c d e f v w x y z u rest ha hb hc hd he hf hv hw hx hy hz hu =
    let k0 : nat_cmp (digit_char ((a * 256 + b) / 2048 % 32)) (digit_char ((v * 256 + w) / 2048 % 32)) ≡ nat_cmp (a / 8) (v / 8) =
    whole_character ((a * 256 + b) / 2048 % 32) ((v * 256 + w) / 2048 % 32) (a / 8) (v / 8) (omega arith) (omega arith) in
    let k1 : nat_cmp (digit_char ((a * 256 + b) / 64 % 32)) (digit_char ((v * 256 + w) / 64 % 32)) ≡ ordering_then (nat_cmp (a % 8) (v % 8)) (nat_cmp (b / 64) (w / 64)) =
    parted_character 4 ((a * 256 + b) / 64 % 32) ((v * 256 + w) / 64 % 32) (a % 8) (b / 64) (v % 8) (w / 64) (omega arith) (omega arith) (omega arith) (omega arith) in
    let k2 : nat_cmp (digit_char ((b * 256 + c) / 512 % 32)) (digit_char ((w * 256 + x) / 512 % 32)) ≡ nat_cmp (b / 2 % 32) (w / 2 % 32) =
    whole_character ((b * 256 + c) / 512 % 32) ((w * 256 + x) / 512 % 32) (b / 2 % 32) (w / 2 % 32) (omega arith) (omega arith) in
    let k3 : nat_cmp (digit_char ((b * 256 + c) / 16 % 32)) (digit_char ((w * 256 + x) / 16 % 32)) ≡ ordering_then (nat_cmp (b % 2) (w % 2)) (nat_cmp (c / 16) (x / 16)) =
    parted_character 16 ((b * 256 + c) / 16 % 32) ((w * 256 + x) / 16 % 32) (b % 2) (c / 16) (w % 2) (x / 16) (omega arith) (omega arith) (omega arith) (omega arith) in
    let k4 : nat_cmp (digit_char ((c * 256 + d) / 128 % 32)) (digit_char ((x * 256 + y) / 128 % 32)) ≡ ordering_then (nat_cmp (c % 16) (x % 16)) (nat_cmp (d / 128) (y / 128)) =
    parted_character 2 ((c * 256 + d) / 128 % 32) ((x * 256 + y) / 128 % 32) (c % 16) (d / 128) (x % 16) (y / 128) (omega arith) (omega arith) (omega arith) (omega arith) in
    let k5 : nat_cmp (digit_char ((d * 256 + e) / 1024 % 32)) (digit_char ((y * 256 + z) / 1024 % 32)) ≡ nat_cmp (d / 4 % 32) (y / 4 % 32) =
    whole_character ((d * 256 + e) / 1024 % 32) ((y * 256 + z) / 1024 % 32) (d / 4 % 32) (y / 4 % 32) (omega arith) (omega arith) in
    let k6 : nat_cmp (digit_char ((d * 256 + e) / 32 % 32)) (digit_char ((y * 256 + z) / 32 % 32)) ≡ ordering_then (nat_cmp (d % 4) (y % 4)) (nat_cmp (e / 32) (z / 32)) =
    parted_character 8 ((d * 256 + e) / 32 % 32) ((y * 256 + z) / 32 % 32) (d % 4) (e / 32) (y % 4) (z / 32) (omega arith) (omega arith) (omega arith) (omega arith) in
    let k7 : nat_cmp (digit_char ((e * 256 + f) / 256 % 32)) (digit_char ((z * 256 + u) / 256 % 32)) ≡ nat_cmp (e % 32) (z % 32) =
    whole_character ((e * 256 + f) / 256 % 32) ((z * 256 + u) / 256 % 32) (e % 32) (z % 32) (omega arith) (omega arith) in
    let h0 : nat_cmp a v ≡ ordering_then (nat_cmp (a / 8) (v / 8)) (nat_cmp (a % 8) (v % 8)) =
    parted 8 a v (a / 8) (a % 8) (v / 8) (v % 8) (omega arith) (omega arith) (omega arith) (omega arith) in
    let h1 : nat_cmp b w ≡ ordering_then (nat_cmp (b / 64) (w / 64)) (ordering_then (nat_cmp (b / 2 % 32) (w / 2 % 32)) (nat_cmp (b % 2) (w % 2))) =
    parted 64 b w (b / 64) (b % 64) (w / 64) (w % 64) (omega arith) (omega arith) (omega arith) (omega arith)
    ∙ under_then _ (parted 2 (b % 64) (w % 64) (b / 2 % 32) (b % 2) (w / 2 % 32) (w % 2) (omega arith) (omega arith) (omega arith) (omega arith)) in
    let h2 : nat_cmp c x ≡ ordering_then (nat_cmp (c / 16) (x / 16)) (nat_cmp (c % 16) (x % 16)) =
    parted 16 c x (c / 16) (c % 16) (x / 16) (x % 16) (omega arith) (omega arith) (omega arith) (omega arith) in
    let h3 : nat_cmp d y ≡ ordering_then (nat_cmp (d / 128) (y / 128)) (ordering_then (nat_cmp (d / 4 % 32) (y / 4 % 32)) (nat_cmp (d % 4) (y % 4))) =
    parted 128 d y (d / 128) (d % 128) (y / 128) (y % 128) (omega arith) (omega arith) (omega arith) (omega arith)
    ∙ under_then _ (parted 4 (d % 128) (y % 128) (d / 4 % 32) (d % 4) (y / 4 % 32) (y % 4) (omega arith) (omega arith) (omega arith) (omega arith)) in
    let h4 : nat_cmp e z ≡ ordering_then (nat_cmp (e / 32) (z / 32)) (nat_cmp (e % 32) (z % 32)) =
    parted 32 e z (e / 32) (e % 32) (z / 32) (z % 32) (omega arith) (omega arith) (omega arith) (omega arith) in
    (λ i. ordering_then (k0 i) (ordering_then (k1 i) (ordering_then (k2 i) (ordering_then (k3 i) (ordering_then (k4 i) (ordering_then (k5 i) (ordering_then (k6 i) (ordering_then (k7 i) rest))))))))
    ∙ regrouped (nat_cmp (a / 8) (v / 8)) (nat_cmp (a % 8) (v % 8)) (nat_cmp (b / 64) (w / 64)) (nat_cmp (b / 2 % 32) (w / 2 % 32)) (nat_cmp (b % 2) (w % 2)) (nat_cmp (c / 16) (x / 16)) (nat_cmp (c % 16) (x % 16)) (nat_cmp (d / 128) (y / 128)) (nat_cmp (d / 4 % 32) (y / 4 % 32)) (nat_cmp (d % 4) (y % 4)) (nat_cmp (e / 32) (z / 32)) (nat_cmp (e % 32) (z % 32)) rest
    ∙ sym (λ i. ordering_then (h0 i) (ordering_then (h1 i) (ordering_then (h2 i) (ordering_then (h3 i) (ordering_then (h4 i) rest)))))

-- ---- texts, five octets after the other

moved : (f g : ℕ → ℕ) → ((i : ℕ) → f (i + 8) ≡ g i) → (n a b : ℕ) → b ≡ a + 8 → map f (range_with_len b n) ≡ map g (range_with_len a n)
moved f g h zero a b e = refl
moved f g h (suc n) a b e = λ i. (ap f e ∙ h a) i ∷ moved f g h n (a + 1) (b + 1) (omega arith) i

later_bits : (a b c d e : ℕ) (rest : List ℕ) (i : ℕ) → five_bits (a ∷ b ∷ c ∷ d ∷ e ∷ rest) ((i + 8) * 5) ≡ five_bits rest (i * 5)
later_bits a b c d e rest i =
    let all : List ℕ = a ∷ b ∷ c ∷ d ∷ e ∷ rest in
    let at : (i + 8) * 5 / 8 ≡ suc (suc (suc (suc (suc (i * 5 / 8))))) = omega arith in
    let after : (i + 8) * 5 / 8 + 1 ≡ suc (suc (suc (suc (suc (i * 5 / 8 + 1))))) = omega arith in
    let place : (i + 8) * 5 % 8 ≡ i * 5 % 8 = omega arith in
    λ j. (slice_index all (at j) * 256 + slice_index all (after j)) / 2 ^ (11 - place j) % 32

text_of_five : (a b c d e : ℕ) (rest : List ℕ) → base32_text (a ∷ b ∷ c ∷ d ∷ e ∷ rest)
    ≡ digit_char ((a * 256 + b) / 2048 % 32) ∷ digit_char ((a * 256 + b) / 64 % 32) ∷ digit_char ((b * 256 + c) / 512 % 32) ∷ digit_char ((b * 256 + c) / 16 % 32) ∷ digit_char ((c * 256 + d) / 128 % 32) ∷ digit_char ((d * 256 + e) / 1024 % 32) ∷ digit_char ((d * 256 + e) / 32 % 32) ∷ digit_char ((e * 256 + slice_index rest 0) / 256 % 32) ∷ base32_text rest
text_of_five a b c d e rest =
    let all : List ℕ = a ∷ b ∷ c ∷ d ∷ e ∷ rest in
    let f : ℕ → ℕ = λ i. digit_char (five_bits all (i * 5)) in
    let g : ℕ → ℕ = λ i. digit_char (five_bits rest (i * 5)) in
    let count : base32_count (length all) ≡ suc (suc (suc (suc (suc (suc (suc (suc (base32_count (length rest))))))))) = omega arith in
    ap (λ n. map f (range_with_len 0 n)) count
    ∙ ap (λ (t : List ℕ). f 0 ∷ f 1 ∷ f 2 ∷ f 3 ∷ f 4 ∷ f 5 ∷ f 6 ∷ f 7 ∷ t) (moved f g (λ i. ap digit_char (later_bits a b c d e rest i)) (base32_count (length rest)) 0 8 refl)

first_octet : (xs : List ℕ) → AllByRecursion IsOctet xs → slice_index xs 0 < 256
first_octet [] h = omega arith
first_octet (x ∷ xs) h = h.0

pub texts_sort : (d e : List ℕ) → length d ≡ length e → AllByRecursion IsOctet d → AllByRecursion IsOctet e → octets_cmp (base32_text d) (base32_text e) ≡ octets_cmp d e
texts_sort [] [] q h k = refl
texts_sort (a ∷ []) (v ∷ []) q h k =
    eight a 0 0 0 0 0 v 0 0 0 0 0 Equal h.0 (omega arith) (omega arith) (omega arith) (omega arith) (omega arith) k.0 (omega arith) (omega arith) (omega arith) (omega arith) (omega arith)
texts_sort (a ∷ b ∷ []) (v ∷ w ∷ []) q h k =
    eight a b 0 0 0 0 v w 0 0 0 0 Equal h.0 h.1.0 (omega arith) (omega arith) (omega arith) (omega arith) k.0 k.1.0 (omega arith) (omega arith) (omega arith) (omega arith)
texts_sort (a ∷ b ∷ c ∷ []) (v ∷ w ∷ x ∷ []) q h k =
    eight a b c 0 0 0 v w x 0 0 0 Equal h.0 h.1.0 h.1.1.0 (omega arith) (omega arith) (omega arith) k.0 k.1.0 k.1.1.0 (omega arith) (omega arith) (omega arith)
texts_sort (a ∷ b ∷ c ∷ d ∷ []) (v ∷ w ∷ x ∷ y ∷ []) q h k =
    eight a b c d 0 0 v w x y 0 0 Equal h.0 h.1.0 h.1.1.0 h.1.1.1.0 (omega arith) (omega arith) k.0 k.1.0 k.1.1.0 k.1.1.1.0 (omega arith) (omega arith)
texts_sort (a ∷ b ∷ c ∷ d ∷ e ∷ s) (v ∷ w ∷ x ∷ y ∷ z ∷ t) q h k =
    (λ i. octets_cmp (text_of_five a b c d e s i) (text_of_five v w x y z t i))
    ∙ eight a b c d e (slice_index s 0) v w x y z (slice_index t 0) (octets_cmp (base32_text s) (base32_text t)) h.0 h.1.0 h.1.1.0 h.1.1.1.0 h.1.1.1.1.0 (first_octet s h.1.1.1.1.1) k.0 k.1.0 k.1.1.0 k.1.1.1.0 k.1.1.1.1.0 (first_octet t k.1.1.1.1.1)
    ∙ ap (λ r. ordering_then (nat_cmp a v) (ordering_then (nat_cmp b w) (ordering_then (nat_cmp c x) (ordering_then (nat_cmp d y) (ordering_then (nat_cmp e z) r))))) (texts_sort s t (omega arith) h.1.1.1.1.1 k.1.1.1.1.1)
texts_sort d e q h k = absurd (omega arith)

-- ---- owners

same_front : (ls : Name) (k l : List ℕ) → slice_cmp octets_cmp (ls ++ k ∷ []) (ls ++ l ∷ []) ≡ octets_cmp k l
same_front [] k l = last_then (octets_cmp k l)
same_front (x ∷ ls) k l = ap (λ r. ordering_then r (slice_cmp octets_cmp (ls ++ k ∷ []) (ls ++ l ∷ []))) (tied_itself nat_list_cmp_total x) ∙ same_front ls k l

pub owners_sort : (zone : Name) (d e : List ℕ) → length d ≡ length e → AllByRecursion IsOctet d → AllByRecursion IsOctet e
    → name_cmp (hashed_owner zone d) (hashed_owner zone e) ≡ octets_cmp d e
owners_sort zone d e q h k =
    (λ i. slice_cmp octets_cmp (reverse-append (base32_text d ∷ []) zone i) (reverse-append (base32_text e ∷ []) zone i))
    ∙ same_front (reverse zone) (base32_text d) (base32_text e)
    ∙ texts_sort d e q h k

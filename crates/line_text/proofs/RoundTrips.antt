-- What is printed of numbers, octets and addresses is read as them.
use Rattle.std.proofs.Common.{◌≡◌, ◌≤◌, ◌<◌, ◌^◌, ℕ, ◌+◌, ◌*◌, ◌/◌, ◌%◌, ◌-◌, List, [], ◌∷◌, ◌++◌, map, Bool, true, false, cond, nat_lt, ◌==◌, length, refl, ap, ◌∙◌, arith, Some}
use Rattle.std.specs.Char.{digit_char, digit_value, is_digit}
use Rattle.std.specs.Fmt.{decimal}
use Rattle.std.specs.List.{list_all, flat_map, All, AllByRecursion}
use Rattle.std.specs.Str.Parse.{AllDigits, digits_value}
use Rattle.std.proofs.lemmas.Bool.Decides.{leb_tells, nat_tests}
use Rattle.std.proofs.lemmas.Fmt.{decimal_is_IsNumeral}
use Rattle.std.proofs.lemmas.List.Elements.{All-cons}
use Rattle.std.proofs.lemmas.List.Splits.{slice_split_at, slice_split_none}
use Rattle.line_text.specs.Numbers.{digit_of, is_numeral, number_within}
use Rattle.line_text.specs.Hex.{hex_octet, hex_octets, hex_of_octet, hex_text, hex_word}
use Rattle.line_text.specs.Parts.{parts, octets_of_parts}
use Rattle.line_text.specs.Addresses.{octet_of_text, ipv4_of_text, ipv4_text, octets_of_group, ipv6_of_text, groups, ipv6_text}
use Rattle.line_text.proofs.Digits.{within_most}

less_true : (a b : ℕ) → a < b → nat_lt a b ≡ true
less_true a b h = grind (arith, leb_tells)

-- ---- decimal numbers

all_digits : (base : ℕ) (ds : List ℕ) → AllDigits base ds → list_all (λ c. is_digit c base) ds ≡ true
all_digits base [] h = refl
all_digits base (c ∷ cs) h = rw (less_true (digit_value c) base h.0, all_digits base cs h.1) refl

pub decimal_read : (most n : ℕ) → n ≤ most → n < 2 ^ 64 → number_within 10 most (decimal n) ≡ Some n
decimal_read most n h small =
    let written = decimal_is_IsNumeral n small in
    let all : list_all (λ c. is_digit c 10) (decimal n) ≡ true = all_digits 10 (decimal n) written.0.1 in
    let some : nat_lt 0 (length (decimal n)) ≡ true = less_true 0 (length (decimal n)) written.0.0 in
    rw (some, all, written.1) (within_most most n h)

-- ---- hex

low_value : (d : ℕ) → d < 10 → digit_value (48 + d) ≡ d
low_value d h = grind (arith, nat_tests, leb_tells)

high_value : (d : ℕ) → 10 ≤ d → d < 36 → digit_value (87 + d) ≡ d
high_value d h g = grind (arith, nat_tests, leb_tells)

pub char_value : (d : ℕ) → d < 36 → digit_value (digit_char d) ≡ d
char_value d h = by (nat_lt d 10) refl
  where
    by : (b : Bool) → nat_lt d 10 ≡ b → digit_value (cond b (48 + d) (87 + d)) ≡ d
    by true e = low_value d (grind (arith, leb_tells))
    by false e = high_value d (grind (arith, leb_tells)) h

hex_digit_read : (d : ℕ) → d < 16 → digit_of 16 (digit_char d) ≡ Some d
hex_digit_read d h = rw (char_value d (omega arith), less_true d 16 h) refl

high_digit : (b : ℕ) → b < 256 → b / 16 < 16
high_digit b h = omega arith

low_digit : (b : ℕ) → b % 16 < 16
low_digit b = omega arith

two_digits : (b : ℕ) → b / 16 * 16 + b % 16 ≡ b
two_digits b = omega arith

hex_octet_read : (b : ℕ) → b < 256 → hex_octet (digit_char (b / 16)) (digit_char (b % 16)) ≡ Some b
hex_octet_read b h = rw (hex_digit_read (b / 16) (high_digit b h), hex_digit_read (b % 16) (low_digit b)) (ap (λ (n : ℕ). Some n) (two_digits b))

hex_octets_read : (bs : List ℕ) → AllByRecursion (λ b. b < 256) bs → hex_octets (flat_map hex_of_octet bs) ≡ Some bs
hex_octets_read [] h = refl
hex_octets_read (b ∷ bs) h = rw (hex_octet_read b h.0, hex_octets_read bs h.1) refl

pub hex_read : (bs : List ℕ) → AllByRecursion (λ b. b < 256) bs → hex_word (hex_text bs) ≡ Some bs
hex_read [] h = refl
hex_read (b ∷ bs) h = hex_octets_read (b ∷ bs) h

-- ---- IPv4

abbrev lacks : ℕ → List ℕ → Type 0
lacks separator s = All (λ b. (b == separator) ≡ false) s

digit_no_dot : (c : ℕ) → digit_value c < 10 → (c == 46) ≡ false
digit_no_dot c h = grind (arith, nat_tests, leb_tells)

digits_lack_dot : (ds : List ℕ) → AllDigits 10 ds → lacks 46 ds
digits_lack_dot [] h = λ k d m. absurd (omega arith)
digits_lack_dot (c ∷ cs) h = All-cons (λ b. (b == 46) ≡ false) c cs (digit_no_dot c h.0) (digits_lack_dot cs h.1)

decimal_lacks_dot : (n : ℕ) → n < 256 → lacks 46 (decimal n)
decimal_lacks_dot n h = digits_lack_dot (decimal n) (decimal_is_IsNumeral n (omega arith)).0.1

ipv4_parts : (b : ℕ) (bs : List ℕ) → AllByRecursion (λ b. b < 256) (b ∷ bs) → parts 46 (ipv4_text (b ∷ bs)) ≡ map decimal (b ∷ bs)
ipv4_parts b [] h = slice_split_none (λ x. x == 46) (decimal b) (decimal_lacks_dot b h.0)
ipv4_parts b (c ∷ bs) h = slice_split_at (λ x. x == 46) (decimal b) 46 (ipv4_text (c ∷ bs)) (decimal_lacks_dot b h.0) refl ∙ ap (λ ps. decimal b ∷ ps) (ipv4_parts c bs h.1)

octet_read : (b : ℕ) → b < 256 → octet_of_text (decimal b) ≡ Some (b ∷ [])
octet_read b h = rw (decimal_read 255 b (omega arith) (omega arith)) refl

octets_read : (bs : List ℕ) → AllByRecursion (λ b. b < 256) bs → octets_of_parts octet_of_text (map decimal bs) ≡ Some bs
octets_read [] h = refl
octets_read (b ∷ bs) h = rw (octet_read b h.0, octets_read bs h.1) refl

pub ipv4_read : (bs : List ℕ) → length bs ≡ 4 → AllByRecursion (λ b. b < 256) bs → ipv4_of_text (ipv4_text bs) ≡ Some bs
ipv4_read [] l h = absurd (omega arith)
ipv4_read (b ∷ []) l h = absurd (omega arith)
ipv4_read (b ∷ c ∷ []) l h = absurd (omega arith)
ipv4_read (b ∷ c ∷ d ∷ []) l h = absurd (omega arith)
ipv4_read (b ∷ c ∷ d ∷ e ∷ []) l h = rw (ipv4_parts b (c ∷ d ∷ e ∷ []) h) (octets_read (b ∷ c ∷ d ∷ e ∷ []) h)
ipv4_read (b ∷ c ∷ d ∷ e ∷ f ∷ bs) l h = absurd (omega arith)

-- ---- IPv6

digit_no_colon : (d : ℕ) → d < 16 → (digit_char d == 58) ≡ false
digit_no_colon d h = grind (arith, nat_tests, leb_tells)

abbrev group_text : ℕ → ℕ → List ℕ
group_text b c = hex_of_octet b ++ hex_of_octet c

group_lacks_colon : (b c : ℕ) → b < 256 → c < 256 → lacks 58 (group_text b c)
group_lacks_colon b c h g =
    let P : ℕ → Type 0 = λ x. (x == 58) ≡ false in
    let w : ℕ = digit_char (b / 16) in
    let x : ℕ = digit_char (b % 16) in
    let y : ℕ = digit_char (c / 16) in
    let z : ℕ = digit_char (c % 16) in
    All-cons P w (x ∷ y ∷ z ∷ []) (digit_no_colon (b / 16) (high_digit b h)) (
    All-cons P x (y ∷ z ∷ []) (digit_no_colon (b % 16) (low_digit b)) (
    All-cons P y (z ∷ []) (digit_no_colon (c / 16) (high_digit c g)) (
    All-cons P z [] (digit_no_colon (c % 16) (low_digit c)) (λ k d m. absurd (omega arith)))))

group_value : (b c : ℕ) → b < 256 → c < 256 → digits_value 16 (group_text b c) ≡ b * 256 + c
group_value b c h g =
    rw (char_value (b / 16) (omega arith), char_value (b % 16) (omega arith), char_value (c / 16) (omega arith), char_value (c % 16) (omega arith))
    (omega (arith, two_digits b, two_digits c))

group_digits : (b c : ℕ) → b < 256 → c < 256 → is_numeral 16 (group_text b c) ≡ true
group_digits b c h g =
    rw (
      char_value (b / 16) (omega arith),
      char_value (b % 16) (omega arith),
      char_value (c / 16) (omega arith),
      char_value (c % 16) (omega arith),
      less_true (b / 16) 16 (high_digit b h),
      less_true (b % 16) 16 (low_digit b),
      less_true (c / 16) 16 (high_digit c g),
      less_true (c % 16) 16 (low_digit c),
    )
    refl

group_number : (b c : ℕ) → b < 256 → c < 256 → number_within 16 65535 (group_text b c) ≡ Some (b * 256 + c)
group_number b c h g = rw (group_digits b c h g, group_value b c h g) (within_most 65535 (b * 256 + c) (omega arith))

group_read : (b c : ℕ) → b < 256 → c < 256 → octets_of_group (group_text b c) ≡ Some (b ∷ c ∷ [])
group_read b c h g =
    let first : (b * 256 + c) / 256 ≡ b = omega arith in
    let second : (b * 256 + c) % 256 ≡ c = omega arith in
    rw (group_number b c h g, first, second) refl

ipv6_parts : (b c : ℕ) (bs : List ℕ) → length bs % 2 ≡ 0 → AllByRecursion (λ b. b < 256) (b ∷ c ∷ bs) → parts 58 (ipv6_text (b ∷ c ∷ bs)) ≡ groups (b ∷ c ∷ bs)
ipv6_parts b c [] l h = slice_split_none (λ x. x == 58) (group_text b c) (group_lacks_colon b c h.0 h.1.0)
ipv6_parts b c (d ∷ []) l h = absurd (omega arith)
ipv6_parts b c (d ∷ e ∷ bs) l h =
    slice_split_at (λ x. x == 58) (group_text b c) 58 (ipv6_text (d ∷ e ∷ bs)) (group_lacks_colon b c h.0 h.1.0) refl
    ∙ ap (λ ps. group_text b c ∷ ps) (ipv6_parts d e bs (omega arith) h.1.1)

groups_read : (bs : List ℕ) → length bs % 2 ≡ 0 → AllByRecursion (λ b. b < 256) bs → octets_of_parts octets_of_group (groups bs) ≡ Some bs
groups_read [] l h = refl
groups_read (b ∷ []) l h = absurd (omega arith)
groups_read (b ∷ c ∷ bs) l h = rw (group_read b c h.0 h.1.0, groups_read bs (omega arith) h.1.1) refl

count_groups : (bs : List ℕ) (n : ℕ) → length bs ≡ 2 * n → length (groups bs) ≡ n
count_groups [] n l = omega arith
count_groups (b ∷ []) n l = absurd (omega arith)
count_groups (b ∷ c ∷ bs) n l = omega (arith, count_groups bs (n - 1) (omega arith))

eight : (n : ℕ) → n ≡ 8 → (n == 8) ≡ true
eight n e = grind (arith, nat_tests)

pub ipv6_read : (bs : List ℕ) → length bs ≡ 16 → AllByRecursion (λ b. b < 256) bs → ipv6_of_text (ipv6_text bs) ≡ Some bs
ipv6_read [] l h = absurd (omega arith)
ipv6_read (b ∷ []) l h = absurd (omega arith)
ipv6_read (b ∷ c ∷ bs) l h =
    rw (ipv6_parts b c bs (omega arith) h, eight (length (groups (b ∷ c ∷ bs))) (count_groups (b ∷ c ∷ bs) 8 l)) (groups_read (b ∷ c ∷ bs) (omega arith) h)

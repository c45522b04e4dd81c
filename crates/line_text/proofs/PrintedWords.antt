-- The words of printed texts: each printed part is one word, and words with spaces between them are these words.
use Rattle.std.proofs.Common.{◌≡◌, ◌<◌, ◌^◌, ℕ, ◌+◌, ◌/◌, ◌%◌, List, [], ◌∷◌, ◌++◌, map, Bool, true, false, cond, not, ◌&&◌, nat_lt, length, refl, ap, ◌∙◌, arith}
use Rattle.std.specs.Char.{digit_char, digit_value}
use Rattle.std.specs.Fmt.{decimal}
use Rattle.std.specs.List.{slice_split, filter, list_all, flat_map, All, AllByRecursion}
use Rattle.std.specs.Str.Parse.{AllDigits}
use Rattle.std.proofs.lemmas.Bool.Decides.{leb_tells, nat_tests}
use Rattle.std.proofs.lemmas.Fmt.{decimal_is_IsNumeral}
use Rattle.std.proofs.lemmas.List.Elements.{All-cons}
use Rattle.std.proofs.lemmas.List.Splits.{slice_split_at, slice_split_none}
use Rattle.line_text.specs.Words.{is_blank, words, has_octets}
use Rattle.line_text.proofs.WordFacts.{has_some}
use Rattle.line_text.specs.Hex.{hex_of_octet, hex_text}
use Rattle.line_text.specs.Parts.{joined}
use Rattle.line_text.specs.Addresses.{groups, ipv4_text, ipv6_text}

-- octets without a blank
abbrev pub is_solid : List ℕ → Bool
is_solid = list_all (λ b. not (is_blank b))

abbrev pub IsWord : List ℕ → Type 0
IsWord w = (has_octets w ≡ true) × (is_solid w ≡ true)

pub and_both : (a b : Bool) → (a && b) ≡ true → (a ≡ true) × (b ≡ true)
and_both true b h = (refl, h)
and_both false b h = absurd (grind arith)

not_blank : (b : ℕ) → not (is_blank b) ≡ true → is_blank b ≡ false
not_blank b h = by (is_blank b) refl h
  where
    by : (p : Bool) → is_blank b ≡ p → not p ≡ true → is_blank b ≡ false
    by true e g = absurd (grind arith)
    by false e g = e

solid_lacks : (w : List ℕ) → is_solid w ≡ true → All (λ b. is_blank b ≡ false) w
solid_lacks [] h = λ k d m. absurd (omega arith)
solid_lacks (b ∷ w) h =
    let parts = and_both (not (is_blank b)) (is_solid w) h in
    All-cons (λ c. is_blank c ≡ false) b w (not_blank b parts.0) (solid_lacks w parts.1)

one_kept : (w : List ℕ) (ws : List (List ℕ)) → has_octets w ≡ true → filter has_octets (w ∷ ws) ≡ w ∷ filter has_octets ws
one_kept w ws h = ap (λ b. cond b (w ∷ filter has_octets ws) (filter has_octets ws)) h

pub word_and_more : (w rest : List ℕ) → IsWord w → words (w ++ 32 ∷ rest) ≡ w ∷ words rest
word_and_more w rest h = ap (filter has_octets) (slice_split_at is_blank w 32 rest (solid_lacks w h.1) refl) ∙ one_kept w (slice_split is_blank rest) h.0

pub word_alone : (w : List ℕ) → IsWord w → words w ≡ w ∷ []
word_alone w h = ap (filter has_octets) (slice_split_none is_blank w (solid_lacks w h.1)) ∙ one_kept w [] h.0

-- ---- the parts

pub solid_append : (v w : List ℕ) → is_solid v ≡ true → is_solid w ≡ true → is_solid (v ++ w) ≡ true
solid_append [] w h g = g
solid_append (b ∷ v) w h g =
    let parts = and_both (not (is_blank b)) (is_solid v) h in
    rw (parts.0, solid_append v w parts.1 g) refl

some_append : (v w : List ℕ) → has_octets v ≡ true → has_octets (v ++ w) ≡ true
some_append [] w h = absurd (grind arith)
some_append (b ∷ v) w h = refl

pub word_append : (v w : List ℕ) → IsWord v → is_solid w ≡ true → IsWord (v ++ w)
word_append v w h g = (some_append v w h.0, solid_append v w h.1 g)

digit_solid : (c : ℕ) → digit_value c < 10 → not (is_blank c) ≡ true
digit_solid c h = grind (arith, nat_tests, leb_tells)

digits_solid : (ds : List ℕ) → AllDigits 10 ds → is_solid ds ≡ true
digits_solid [] h = refl
digits_solid (c ∷ cs) h = rw (digit_solid c h.0, digits_solid cs h.1) refl

pub decimal_word : (n : ℕ) → n < 2 ^ 64 → IsWord (decimal n)
decimal_word n h = let written = decimal_is_IsNumeral n h in (has_some (decimal n) written.0.0, digits_solid (decimal n) written.0.1)

above_space : (b : ℕ) → 32 < b → not (is_blank b) ≡ true
above_space b h = grind (arith, nat_tests)

char_above : (d : ℕ) → 32 < digit_char d
char_above d = by (nat_lt d 10)
  where
    by : (b : Bool) → 32 < cond b (48 + d) (87 + d)
    by true = omega arith
    by false = omega arith

hex_solid : (b : ℕ) → is_solid (hex_of_octet b) ≡ true
hex_solid b = rw (above_space (digit_char (b / 16)) (char_above (b / 16)), above_space (digit_char (b % 16)) (char_above (b % 16))) refl

hex_all_solid : (bs : List ℕ) → is_solid (flat_map hex_of_octet bs) ≡ true
hex_all_solid [] = refl
hex_all_solid (b ∷ bs) = solid_append (hex_of_octet b) (flat_map hex_of_octet bs) (hex_solid b) (hex_all_solid bs)

pub hex_word_text : (bs : List ℕ) → IsWord (hex_text bs)
hex_word_text [] = (refl, refl)
hex_word_text (b ∷ bs) = (refl, hex_all_solid (b ∷ bs))

-- parts of a word, with something other than a blank between them
abbrev AllSolid : List (List ℕ) → Type 0
AllSolid = AllByRecursion (λ p. is_solid p ≡ true)

joined_solid : (s : ℕ) (ps : List (List ℕ)) → not (is_blank s) ≡ true → AllSolid ps → is_solid (joined s ps) ≡ true
joined_solid s [] b h = refl
joined_solid s (p ∷ []) b h = h.0
joined_solid s (p ∷ q ∷ ps) b h = solid_append p (s ∷ joined s (q ∷ ps)) h.0 (rw (b, joined_solid s (q ∷ ps) b h.1) refl)

joined_word : (s : ℕ) (p : List ℕ) (ps : List (List ℕ)) → not (is_blank s) ≡ true → has_octets p ≡ true → AllSolid (p ∷ ps) → IsWord (joined s (p ∷ ps))
joined_word s p [] b some h = (some, h.0)
joined_word s p (q ∷ ps) b some h = (some_append p (s ∷ joined s (q ∷ ps)) some, joined_solid s (p ∷ q ∷ ps) b h)

decimals_solid : (bs : List ℕ) → AllByRecursion (λ b. b < 256) bs → AllSolid (map decimal bs)
decimals_solid [] h = tt
decimals_solid (b ∷ bs) h = ((decimal_word b (omega (arith, h.0))).1, decimals_solid bs h.1)

pub ipv4_word : (b : ℕ) (bs : List ℕ) → AllByRecursion (λ c. c < 256) (b ∷ bs) → IsWord (ipv4_text (b ∷ bs))
ipv4_word b bs h = joined_word 46 (decimal b) (map decimal bs) refl (decimal_word b (omega (arith, h.0))).0 (decimals_solid (b ∷ bs) h)

groups_solid : (bs : List ℕ) → AllSolid (groups bs)
groups_solid [] = tt
groups_solid (b ∷ []) = tt
groups_solid (b ∷ c ∷ bs) = (solid_append (hex_of_octet b) (hex_of_octet c) (hex_solid b) (hex_solid c), groups_solid bs)

pub ipv6_word : (b c : ℕ) (bs : List ℕ) → IsWord (ipv6_text (b ∷ c ∷ bs))
ipv6_word b c bs = joined_word 58 (hex_of_octet b ++ hex_of_octet c) (groups bs) refl refl (groups_solid (b ∷ c ∷ bs))

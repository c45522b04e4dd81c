use Rattle.std.proofs.Common.{◌≡◌, ◌==◌, ℕ, ◌<◌, ◌^◌, List, [], ◌∷◌, length, ◌++◌, refl, sym, ap, ◌∙◌, Bool, true, false, true≢false, ◌&&◌, nat_lt, if◌then◌else◌, arith, rules, Option, unwrap_or, codes, Some, None, Result, Ok, Err}
use Rattle.std.specs.Char.{is_ascii_digit}
use Rattle.std.specs.List.{list_all}
use Rattle.std.specs.Result.{OkIff, result_ok}
use Rattle.std.specs.Str.Parse.{digits_value, ParsesUnsigned}
use Rattle.std.specs.Fmt.{decimal}
use Rattle.std.proofs.lemmas.Bool.{eqb-true}
use Rattle.std.proofs.lemmas.Bool.Decides.{leb_tells}
use Rattle.std.proofs.lemmas.Fmt.{decimal_nonempty, digits_decimal, digits_value-decimal}
use Rattle.std.proofs.lemmas.Str.Parse.{IsNumeralModel, numerals_by_value, parse_digits}
use Rattle.zone_proto.specs.TypeText.{Word, type_words, word_of, short_number, type_text, type_of_text}
use Rattle.zone_proto.proofs.Members.{and_left, and_right}

-- texts of digits alone
digits : IsNumeralModel (λ ds. list_all is_ascii_digit ds ≡ true) (digits_value 10)
digits = numerals_by_value _ (search rules)

-- what is a value exactly where two tests hold is the choice by these tests
chosen : {E : Type 0} (n v k : ℕ) (d : Bool) (r : Result ℕ E)
    → d ≡ true
    → OkIff r ((0 < n) × (v < k)) v
    → result_ok r ≡ (if nat_lt 0 n && (d && nat_lt v k) then Some v else None)
chosen n v k d (Ok x) e h = grind (arith, leb_tells)
chosen n v k d (Err x) e h = grind (arith, leb_tells)

-- a text of digits alone is read as the definition says
pub short_from_parse : {E : Type 0} (ds : List ℕ) (r : Result ℕ E)
    → ParsesUnsigned 16 10 ds r
    → list_all is_ascii_digit ds ≡ true
    → result_ok r ≡ short_number ds
short_from_parse ds r h d = chosen (length ds) (digits_value 10 ds) 65536 _ r d (parse_digits digits 16 ds r h d)

test_true : (a b : ℕ) → a < b → nat_lt a b ≡ true
test_true a b h = grind (arith, leb_tells)

-- decimal digits of a short number are read as it
short_decimal : (t : ℕ) → t < 65536 → short_number (decimal t) ≡ Some t
short_decimal t lt =
    let small : t < 2 ^ 64 = omega arith in
    let some : nat_lt 0 (length (decimal t)) ≡ true = test_true 0 (length (decimal t)) (decimal_nonempty t small) in
    let short : nat_lt t 65536 ≡ true = test_true t 65536 lt in
    rw (some, digits_decimal digits t small, digits_value-decimal digits t small, short) refl

numbered_read : (t : ℕ) → t < 65536 → type_of_text (codes "TYPE" ++ decimal t) ≡ Some t
numbered_read t lt = short_decimal t lt

-- whether a word is read as its number
abbrev is_read : Word → Bool
is_read w = elim (type_of_text w.text) [ Some n ↦ n == w.number | None ↦ false ]

read_so : (o : Option ℕ) (n : ℕ) → elim o [ Some m ↦ m == n | None ↦ false ] ≡ true → o ≡ Some n
read_so (Some m) n e = ap (λ (k : ℕ). Some k) (eqb-true m n e)
read_so None n e = absurd (true≢false (sym e))

-- the type is the first word's, or is read by those after it
word_read : (b : Bool) (t : ℕ) (w : Word) (rest : Option (List ℕ)) (other : List ℕ)
    → (t == w.number) ≡ b
    → type_of_text w.text ≡ Some w.number
    → type_of_text (unwrap_or rest other) ≡ Some t
    → type_of_text (unwrap_or (if b then Some w.text else rest) other) ≡ Some t
word_read true t w rest other e h k = h ∙ ap (λ (m : ℕ). Some m) (sym (eqb-true t w.number e))
word_read false t w rest other e h k = k

words_read : (t : ℕ) (ws : List Word) → list_all is_read ws ≡ true → t < 65536
    → type_of_text (unwrap_or (word_of t ws) (codes "TYPE" ++ decimal t)) ≡ Some t
words_read t [] h lt = numbered_read t lt
words_read t (w ∷ ws) h lt =
    word_read (t == w.number) t w (word_of t ws) (codes "TYPE" ++ decimal t) refl
    (read_so (type_of_text w.text) w.number (and_left (is_read w) (list_all is_read ws) h))
    (words_read t ws (and_right (is_read w) (list_all is_read ws) h) lt)

-- a type is read from its printed text
pub type_text_read : (t : ℕ) → t < 65536 → type_of_text (type_text t) ≡ Some t
type_text_read t lt = words_read t type_words refl lt

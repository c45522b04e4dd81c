-- What is read as a name or as a type has ASCII octets alone.
use Rattle.std.proofs.Common.{◌≡◌, ◌<◌, inl, inr, ℕ, ◌+◌, ◌/◌, ◌%◌, List, [], ◌∷◌, Bool, true, false, ◌&&◌, nat_lt, nat_eq, if◌then◌else◌, refl, sym, subst, arith, Option, Some, None, codes, length, drop, take, take-append-drop}
use Rattle.std.specs.Prelude.{IsTrue}
use Rattle.std.specs.Str.{IsAscii, bytes_eq}
use Rattle.std.specs.Char.{is_ascii_digit}
use Rattle.std.specs.List.{list_all, starts_with}
use Rattle.std.specs.Str.Parse.{digits_value}
use Rattle.std.proofs.lemmas.Bool.Decides.{nat_tests, leb_tells}
use Rattle.std.proofs.lemmas.Str.{IsAscii-append}
use Rattle.std.proofs.lemmas.Str.Ascii.{IsAscii-nil, IsAscii-cons}
use Rattle.std.proofs.lemmas.Slice.Eq.{bytes_eq-Decides}
use Rattle.zone_proto.specs.Names.{Name, Label}
use Rattle.zone_proto.specs.TextForm.{is_graphic, three_digits, IsOctetText, itself, escaped, by_value, IsLabelText, IsLabelsText, IsNameText}
use Rattle.zone_proto.specs.TypeText.{Word, type_words, number_of, numbered_type, short_number, type_of_text, or_else}

abbrev IsAsciiText : List ℕ → Type 0
IsAsciiText s = IsAscii s

graphic_ascii : (b : ℕ) → IsTrue (is_graphic b) → b < 128
graphic_ascii b h = grind (arith, nat_tests, leb_tells)

octet_ascii : (s : List ℕ) (b : ℕ) → IsOctetText s b → IsAscii s
octet_ascii s b (itself e g d k) = subst IsAsciiText (sym e) (IsAscii-cons b [] (graphic_ascii b g) IsAscii-nil)
octet_ascii s b (escaped e g d) = subst IsAsciiText (sym e) (IsAscii-cons 92 (b ∷ []) (omega arith) (IsAscii-cons b [] (graphic_ascii b g) IsAscii-nil))
octet_ascii s b (by_value e h) = subst IsAsciiText (sym e) (IsAscii-cons 92 (three_digits b) (omega arith) (IsAscii-cons (48 + b / 100) ((48 + b / 10 % 10) ∷ (48 + b % 10) ∷ []) (omega arith) (IsAscii-cons (48 + b / 10 % 10) ((48 + b % 10) ∷ []) (omega arith) (IsAscii-cons (48 + b % 10) [] (omega arith) IsAscii-nil))))

label_ascii : (s : List ℕ) (l : Label) → IsLabelText s l → IsAscii s
label_ascii s [] e = subst IsAsciiText (sym e) IsAscii-nil
label_ascii s (b ∷ l) (first, rest, e, octet, more) = subst IsAsciiText (sym e) (IsAscii-append first rest (octet_ascii first b octet) (label_ascii rest l more))

labels_ascii : (s : List ℕ) (ls : Name) → IsLabelsText s ls → IsAscii s
labels_ascii s [] e = subst IsAsciiText (sym e) IsAscii-nil
labels_ascii s (l ∷ ls) (inl (first, rest, e, label, more)) = subst IsAsciiText (sym e) (IsAscii-append first (46 ∷ rest) (label_ascii first l label) (IsAscii-cons 46 rest (omega arith) (labels_ascii rest ls more)))
labels_ascii s (l ∷ ls) (inr h) = label_ascii s l h.0

pub name_ascii : (s : List ℕ) (n : Name) → IsNameText s n → IsAscii s
name_ascii s [] e = subst IsAsciiText (sym e) (IsAscii-cons 46 [] (omega arith) IsAscii-nil)
name_ascii s (l ∷ ls) h = labels_ascii s (l ∷ ls) h.0

-- where a choice gives something, its test holds
chosen : {A : Type 0} (t : Bool) (x : A) (r : A) → (if t then Some x else None) ≡ Some r → t ≡ true
chosen true x r h = refl
chosen false x r h = absurd (grind arith)

and_first : (a b : Bool) → (a && b) ≡ true → a ≡ true
and_first true b h = refl
and_first false b h = h

-- ---- types

and_second : (a b : Bool) → (a && b) ≡ true → b ≡ true
and_second true b h = h
and_second false b h = absurd (grind arith)

abbrev small : ℕ → Bool
small b = nat_lt b 128

small_octet : (b : ℕ) → small b ≡ true → b < 128
small_octet b h = grind (arith, leb_tells)

ascii_of : (t : List ℕ) → list_all small t ≡ true → IsAscii t
ascii_of [] h = IsAscii-nil
ascii_of (b ∷ t) h = IsAscii-cons b t (small_octet b (and_first (small b) (list_all small t) h)) (ascii_of t (and_second (small b) (list_all small t) h))

same_word : (t w : List ℕ) → bytes_eq t w ≡ true → t ≡ w
same_word t w h = (bytes_eq-Decides t w).0 h

word_ascii : (ws : List Word) (t : List ℕ) (n : ℕ) → list_all (λ w. list_all small w.text) ws ≡ true → number_of t ws ≡ Some n → IsAscii t
word_ascii [] t n all h = absurd (grind arith)
word_ascii (w ∷ ws) t n all h = by (bytes_eq t w.text) refl h (word_ascii ws t n (and_second (list_all small w.text) _ all))
  where
    by : (e : Bool) → bytes_eq t w.text ≡ e → (if e then Some w.number else number_of t ws) ≡ Some n → (number_of t ws ≡ Some n → IsAscii t) → IsAscii t
    by true e g more = let is = same_word t w.text e in let P : List ℕ → Type 0 = λ s. IsAscii s in subst P (sym is) (ascii_of w.text (and_first (list_all small w.text) _ all))
    by false e g more = more g

digit_octet : (b : ℕ) → is_ascii_digit b ≡ true → b < 128
digit_octet b h = grind (arith, nat_tests, leb_tells)

digits_ascii : (t : List ℕ) → list_all is_ascii_digit t ≡ true → IsAscii t
digits_ascii [] h = IsAscii-nil
digits_ascii (b ∷ t) h = IsAscii-cons b t (digit_octet b (and_first (is_ascii_digit b) _ h)) (digits_ascii t (and_second (is_ascii_digit b) _ h))

numbered_ascii : (t : List ℕ) (n : ℕ) → numbered_type t ≡ Some n → IsAscii t
numbered_ascii t n h = by (starts_with nat_eq t (codes "TYPE")) refl h
  where
    by : (e : Bool) → starts_with nat_eq t (codes "TYPE") ≡ e → (if e then short_number (drop 4 t) else None) ≡ Some n → IsAscii t
    by true e g =
        let P : List ℕ → Type 0 = λ s. IsAscii s in
        let front : IsAscii (take 4 t) = subst P ((bytes_eq-Decides (codes "TYPE") (take 4 t)).0 e) (ascii_of (codes "TYPE") refl) in
        let tested = chosen (nat_lt 0 (length (drop 4 t)) && (list_all is_ascii_digit (drop 4 t) && nat_lt (digits_value 10 (drop 4 t)) 65536)) (digits_value 10 (drop 4 t)) n g in
        let digits = and_first (list_all is_ascii_digit (drop 4 t)) _ (and_second (nat_lt 0 (length (drop 4 t))) _ tested) in
        subst P (take-append-drop 4 t) (IsAscii-append (take 4 t) (drop 4 t) front (digits_ascii (drop 4 t) digits))
    by false e g = absurd (grind arith)

pub type_ascii : (t : List ℕ) (n : ℕ) → type_of_text t ≡ Some n → IsAscii t
type_ascii t n h = by (number_of t type_words) refl h
  where
    by : (o : Option ℕ) → number_of t type_words ≡ o → or_else o (numbered_type t) ≡ Some n → IsAscii t
    by (Some m) e g = word_ascii type_words t m refl e
    by None e g = numbered_ascii t n g

-- A word that isn't text is none of a registry: the words of these have ASCII octets alone.
use Rattle.std.proofs.Common.{◌≡◌, ◌<◌, ℕ, List, [], ◌∷◌, Bool, true, false, ◌&&◌, ◌==◌, nat_lt, if◌then◌else◌, refl, sym, ap, ◌∙◌, subst, arith, Option, Some, None}
use Rattle.std.specs.Str.{IsAscii, IsUtf8, bytes_eq}
use Rattle.std.specs.List.{list_all}
use Rattle.std.specs.Prelude.{option_map}
use Rattle.std.specs.Char.{to_ascii_uppercase}
use Rattle.std.proofs.lemmas.Bool.Decides.{leb_tells}
use Rattle.std.proofs.lemmas.Str.{IsUtf8-from_ascii}
use Rattle.std.proofs.lemmas.Str.Ascii.{IsAscii-nil, IsAscii-cons}
use Rattle.std.proofs.lemmas.Slice.Eq.{bytes_eq-Decides}
use Rattle.zone_proto.specs.declared.record_type.RecordType.{RecordType}
use Rattle.zone_proto.specs.TypeText.{Word, number_of, or_else, type_of_text}
use Rattle.line_text.proofs.Ascii.{type_ascii}
use Rattle.zone_tokens.specs.Types.{algorithm_words, certificate_type_words, class_words, class_by_number, digest_type_words, first_words, further_type, last_words, second_words, third_words, type_by_number, type_named, class_named, upper, upper_class, upper_type}

abbrev small : ℕ → Bool
small b = nat_lt b 128

abbrev are_small : List Word → Bool
are_small ws = list_all (λ w. list_all small w.text) ws

small_octet : (b : ℕ) → small b ≡ true → b < 128
small_octet b h = grind (arith, leb_tells)

pub and_first : (a b : Bool) → (a && b) ≡ true → a ≡ true
and_first true b h = refl
and_first false b h = h

pub and_second : (a b : Bool) → (a && b) ≡ true → b ≡ true
and_second true b h = h
and_second false b h = absurd (grind arith)

ascii_of : (t : List ℕ) → list_all small t ≡ true → IsAscii t
ascii_of [] h = IsAscii-nil
ascii_of (b ∷ t) h =
    IsAscii-cons b t (small_octet b (and_first (small b) (list_all small t) h)) (ascii_of t (and_second (small b) (list_all small t) h))

word_ascii : (ws : List Word) (t : List ℕ) (n : ℕ) → are_small ws ≡ true → number_of t ws ≡ Some n → IsAscii t
word_ascii [] t n all h = absurd (grind arith)
word_ascii (w ∷ ws) t n all h =
    by (bytes_eq t w.text) refl h (word_ascii ws t n (and_second (list_all small w.text) (are_small ws) all))
  where
    by : (e : Bool) → bytes_eq t w.text ≡ e → (if e then Some w.number else number_of t ws) ≡ Some n → (number_of t ws ≡ Some n → IsAscii t) → IsAscii t
    by true e g more =
        let P : List ℕ → Type 0 = λ s. IsAscii s in
        subst P (sym ((bytes_eq-Decides t w.text).0 e)) (ascii_of w.text (and_first (list_all small w.text) (are_small ws) all))
    by false e g more = more g

pub no_word : (ws : List Word) (t : List ℕ) → are_small ws ≡ true → ¬ (IsUtf8 t) → number_of t ws ≡ None
no_word ws t all wrong = by (number_of t ws) refl
  where
    by : (o : Option ℕ) → number_of t ws ≡ o → o ≡ None
    by None e = refl
    by (Some n) e = absurd (wrong (IsUtf8-from_ascii t (word_ascii ws t n all e)))

no_type : (t : List ℕ) → ¬ (IsUtf8 t) → type_of_text t ≡ None
no_type t wrong = by (type_of_text t) refl
  where
    by : (o : Option ℕ) → type_of_text t ≡ o → o ≡ None
    by None e = refl
    by (Some n) e = absurd (wrong (IsUtf8-from_ascii t (type_ascii t n e)))

pub type_not_text : (t : List ℕ) → ¬ (IsUtf8 t) → upper_type t ≡ None
type_not_text t wrong =
    let known : type_of_text t ≡ None = no_type t wrong in
    let first : number_of t first_words ≡ None = no_word first_words t refl wrong in
    let second : number_of t second_words ≡ None = no_word second_words t refl wrong in
    let third : number_of t third_words ≡ None = no_word third_words t refl wrong in
    let last : number_of t last_words ≡ None = no_word last_words t refl wrong in
    by (type_of_text t) (number_of t first_words) (number_of t second_words) (number_of t third_words) (number_of t last_words) known first second third last
  where
    by : (a b c d e : Option ℕ) → a ≡ None → b ≡ None → c ≡ None → d ≡ None → e ≡ None → option_map type_by_number (or_else a (or_else b (or_else c (or_else d e)))) ≡ None
    by a b c d e p q r s u = rw (p, q, r, s, u) refl

pub class_not_text : (t : List ℕ) → ¬ (IsUtf8 t) → upper_class t ≡ None
class_not_text t wrong = by (number_of t class_words) (no_word class_words t refl wrong)
  where
    by : (o : Option ℕ) → o ≡ None → option_map class_by_number o ≡ None
    by o e = rw e refl

pub algorithm_not_text : (t : List ℕ) → ¬ (IsUtf8 t) → number_of t algorithm_words ≡ None
algorithm_not_text t wrong = no_word algorithm_words t refl wrong

pub digest_type_not_text : (t : List ℕ) → ¬ (IsUtf8 t) → number_of t digest_type_words ≡ None
digest_type_not_text t wrong = no_word digest_type_words t refl wrong

pub certificate_type_not_text : (t : List ℕ) → ¬ (IsUtf8 t) → number_of t certificate_type_words ≡ None
certificate_type_not_text t wrong = no_word certificate_type_words t refl wrong

-- a type that `RecordType` reads, and one that it doesn't
pub known_type : (t : List ℕ) (r : RecordType) → Some r.0 ≡ type_of_text t → upper_type t ≡ Some r
known_type t r h = rw (sym h) refl

pub other_type : (t : List ℕ) → None ≡ type_of_text t → upper_type t ≡ option_map type_by_number (further_type t)
other_type t h = rw (sym h) refl

-- ---- a word that has no letter in lower case

same_octet : (a b : ℕ) → (a == b) ≡ true → a ≡ b
same_octet a b h = grind arith

upper_itself : (w : List ℕ) → list_all (λ b. to_ascii_uppercase b == b) w ≡ true → upper w ≡ w
upper_itself [] h = refl
upper_itself (b ∷ w) h =
    ap (λ (c : ℕ). c ∷ upper w) (same_octet (to_ascii_uppercase b) b (and_first _ _ h))
    ∙ ap (λ (t : List ℕ). b ∷ t) (upper_itself w (and_second _ _ h))

pub type_as_is : (w : List ℕ) → list_all (λ b. to_ascii_uppercase b == b) w ≡ true → upper_type w ≡ type_named w
type_as_is w h = ap upper_type (sym (upper_itself w h))

pub class_as_is : (w : List ℕ) → list_all (λ b. to_ascii_uppercase b == b) w ≡ true → upper_class w ≡ class_named w
class_as_is w h = ap upper_class (sym (upper_itself w h))

pub ruleset types = (type_not_text, known_type, other_type)

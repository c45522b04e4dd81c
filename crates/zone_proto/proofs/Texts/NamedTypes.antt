-- What is found in a table of types and words is what the definitions say of its list.
use Rattle.std.proofs.Common.{◌≡◌, ◌==◌, ℕ, Bool, true, false, List, [], ◌∷◌, map, refl, ap, ◌∙◌, if◌then◌else◌, Option, Some, None, option_map, bytes_eq, Bor}
use Rattle.std.specs.List.{find}
use Rattle.zone_proto.specs.TypeText.{Word, word_of, number_of}
use Rattle.zone_proto.specs.declared.record_type.RecordType.{RecordType}

-- a type, its word, and whether its data have a case of their own
abbrev Row : Type 0
Row = RecordType × Bor (List ℕ) × Bool

abbrev number : Row → ℕ
number row = row.0.0

abbrev text : Row → List ℕ
text row = row.1.now

abbrev words : List Row → List Word
words = map (λ (row : Row). record { number = row.0.0; text = row.1.now })

-- a choice, and then what both sides give
chosen : {A B : Type 0} (f : A → B) (b : Bool) (a : A) (rest : Option A) (others : Option B)
    → option_map f rest ≡ others → option_map f (if b then Some a else rest) ≡ (if b then Some (f a) else others)
chosen f true a rest others e = refl
chosen f false a rest others e = e

word_found : (t : ℕ) (rows : List Row) → option_map text (find (λ row. t == number row) rows) ≡ word_of t (words rows)
word_found t [] = refl
word_found t (row ∷ rows) = chosen text (t == number row) row _ _ (word_found t rows)

number_found : (name : List ℕ) (rows : List Row) → option_map number (find (λ row. bytes_eq name (text row)) rows) ≡ number_of name (words rows)
number_found name [] = refl
number_found name (row ∷ rows) = chosen number (bytes_eq name (text row)) row _ _ (number_found name rows)

-- the row that was found, by a type and by a word
lent : {A : Type 0} (f : Row → A) (found : Option (Bor Row)) → option_map (λ row. f row.now) found ≡ option_map f (option_map (λ row. row.now) found)
lent f None = refl
lent f (Some row) = refl

pub word_is : (t : ℕ) (left rows : List Row) (found : Option (Bor Row)) → left ≡ rows
    → option_map (λ row. row.now) found ≡ find (λ row. t == number row) rows
    → option_map (λ row. row.now.1.now) found ≡ word_of t (words rows)
word_is t left rows found all e = lent text found ∙ ap (option_map text) e ∙ word_found t rows

pub number_is : (name : List ℕ) (left rows : List Row) (found : Option (Bor Row)) → left ≡ rows
    → option_map (λ row. row.now) found ≡ find (λ row. bytes_eq name (text row)) rows
    → option_map (λ row. row.now.0.0) found ≡ number_of name (words rows)
number_is name left rows found all e = lent number found ∙ ap (option_map number) e ∙ number_found name rows

-- What is found in the table of further words is what the definitions say of its list.
use Rattle.std.proofs.Common.{◌≡◌, ◌==◌, ℕ, Bool, true, false, List, [], ◌∷◌, map, refl, ap, ◌∙◌, if◌then◌else◌, Option, Some, None, option_map, Bor}
use Rattle.std.specs.List.{find}
use Rattle.zone_proto.specs.TypeText.{Word, word_of}

-- a type and its word
abbrev Row : Type 0
Row = ℕ × Bor (List ℕ)

abbrev text : Row → List ℕ
text row = row.1.now

abbrev words : List Row → List Word
words = map (λ (row : Row). record { number = row.0; text = row.1.now })

-- a choice, and then what both sides give
chosen : (b : Bool) (row : Row) (rest : Option Row) (others : Option (List ℕ)) → option_map text rest ≡ others
    → option_map text (if b then Some row else rest) ≡ (if b then Some (text row) else others)
chosen true row rest others e = refl
chosen false row rest others e = e

found_word : (t : ℕ) (rows : List Row) → option_map text (find (λ row. t == row.0) rows) ≡ word_of t (words rows)
found_word t [] = refl
found_word t (row ∷ rows) = chosen (t == row.0) row _ _ (found_word t rows)

-- the row that was found
lent : (found : Option (Bor Row)) → option_map (λ row. row.now.1.now) found ≡ option_map text (option_map (λ row. row.now) found)
lent None = refl
lent (Some row) = refl

pub word_is : (t : ℕ) (left rows : List Row) (found : Option (Bor Row)) → left ≡ rows → option_map (λ row. row.now) found ≡ find (λ row. t == row.0) rows
    → option_map (λ row. row.now.1.now) found ≡ word_of t (words rows)
word_is t left rows found all e = lent found ∙ ap (option_map text) e ∙ found_word t rows

-- How many octets a name has, label after label
use Rattle.std.proofs.Common.{◌≡◌, ◌≢◌, ℕ, ◌+◌, List, [], ◌∷◌, length, Option, Some, None, refl, ap, ◌∙◌, arith}
use Rattle.std.specs.Prelude.{option_map}
use Rattle.message_reading.specs.Octets.{counted_of}
use Rattle.zone_file_writer.specs.Rows.{name_length}
use Rattle.zone_file_writer.specs.Strings.{strings_of}
use Rattle.zone_file_writer.proofs.StringFacts.{none, one_more}

first_more : (n : ℕ) (l : List ℕ) (ss : List (List ℕ)) → length l ≢ 0 → option_map (λ m. n + m) (name_length (l ∷ ss)) ≡ option_map (λ m. (n + (1 + length l)) + m) (name_length ss)
first_more n [] ss some = absurd (some refl)
first_more n (b ∷ l) ss some = by (name_length ss)
  where
    by : (o : Option ℕ) → option_map (λ m. n + m) (option_map (λ m. length (b ∷ l) + 1 + m) o) ≡ option_map (λ m. (n + (1 + length (b ∷ l))) + m) o
    by None = refl
    by (Some m) = ap (λ (k : ℕ). Some k) (omega arith)

pub label_more : (n : ℕ) (os l rest : List ℕ) → counted_of os ≡ Some (l, rest) → length l ≢ 0
    → option_map (λ m. n + m) (name_length (strings_of os).0) ≡ option_map (λ m. (n + (1 + length l)) + m) (name_length (strings_of rest).0)
label_more n os l rest h some =
    ap (λ (t : List (List ℕ) × List ℕ). option_map (λ m. n + m) (name_length t.0)) (one_more os l rest h) ∙ first_more n l (strings_of rest).0 some

first_last : (n : ℕ) (l : List ℕ) (ss : List (List ℕ)) → length l ≡ 0 → option_map (λ m. n + m) (name_length (l ∷ ss)) ≡ Some (n + 1)
first_last n [] ss h = refl
first_last n (b ∷ l) ss h = absurd (omega arith)

pub label_last : (n : ℕ) (os l rest : List ℕ) → counted_of os ≡ Some (l, rest) → length l ≡ 0
    → option_map (λ m. n + m) (name_length (strings_of os).0) ≡ Some (n + 1)
label_last n os l rest h e =
    ap (λ (t : List (List ℕ) × List ℕ). option_map (λ m. n + m) (name_length t.0)) (one_more os l rest h) ∙ first_last n l (strings_of rest).0 e

pub label_none : (n : ℕ) (os : List ℕ) → counted_of os ≡ None → option_map (λ m. n + m) (name_length (strings_of os).0) ≡ None
label_none n os h = ap (λ (t : List (List ℕ) × List ℕ). option_map (λ m. n + m) (name_length t.0)) (none os h)

-- The words of a line
use Rattle.std.specs.Prelude.{ℕ, List, [], ◌∷◌, Bool, true, false, ◌||◌, ◌==◌}
use Rattle.std.specs.List.{slice_split, filter}
use Rattle.line_text.specs.Parts.{joined}

-- a space or a tab
abbrev pub is_blank : ℕ → Bool
is_blank b = b == 32 || b == 9

abbrev pub has_octets : List ℕ → Bool
has_octets [] = false
has_octets (b ∷ bs) = true

-- the words of a line, in order: what stands between two blanks, before the first or after the last, if that is not empty
abbrev pub words : List ℕ → List (List ℕ)
words line = filter has_octets (slice_split is_blank line)

-- words with single spaces between them
abbrev pub spaced : List (List ℕ) → List ℕ
spaced = joined 32

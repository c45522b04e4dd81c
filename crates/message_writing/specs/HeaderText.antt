-- What is written of the header of a response; what it means is said by reading alone
use Rattle.std.specs.Prelude.{ℕ, ◌+◌, ◌%◌, Bool, if◌then◌else◌, List, ◌∷◌, ◌++◌}
use Rattle.message_writing.specs.DataText.{short_text}

abbrev pub weight_if : Bool → ℕ → ℕ
weight_if set weight = if set then weight else 0

-- QR, AA, TC and RD
abbrev pub high_text : Bool → Bool → Bool → ℕ
high_text authoritative truncated recursion_desired =
    128 + (weight_if authoritative 4 + (weight_if truncated 2 + weight_if recursion_desired 1))

-- the lower four bits of the response code
abbrev pub low_text : ℕ → ℕ
low_text code = code % 16

-- one question, and the counts of the sections
abbrev pub header_text : ℕ → ℕ → ℕ → ℕ → ℕ → ℕ → List ℕ
header_text id high low answers authorities additionals =
    short_text id ++ (high ∷ low ∷ (short_text 1 ++ (short_text answers ++ (short_text authorities ++ short_text additionals))))

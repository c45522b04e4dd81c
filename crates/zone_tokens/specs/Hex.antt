-- Octets written in hex or base64, the texts of several words one behind the other
use Rattle.std.specs.Prelude.{ℕ, List, [], ◌∷◌, Option, None}
use Rattle.line_text.specs.Hex.{hex_octets}

-- hex digits, two for each octet, at least one octet; `-` isn't hex here
abbrev pub hex_text : List ℕ → Option (List ℕ)
hex_text [] = None
hex_text (c ∷ []) = None
hex_text (high ∷ low ∷ rest) = hex_octets (high ∷ low ∷ rest)

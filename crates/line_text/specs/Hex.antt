-- Octets written in hex
use Rattle.std.specs.Prelude.{ℕ, ◌+◌, ◌*◌, ◌/◌, ◌%◌, List, [], ◌∷◌, Option, Some, None, option_map, option_and_then, if◌then◌else◌, ◌==◌}
use Rattle.std.specs.Char.{digit_char}
use Rattle.std.specs.List.{flat_map}
use Rattle.line_text.specs.Numbers.{digit_of}

-- the value of a hex digit in either case, and none for any other octet
abbrev pub hex_digit : ℕ → Option ℕ
hex_digit = digit_of 16

-- the octet that two hex digits write, the high one first
abbrev pub hex_octet : ℕ → ℕ → Option ℕ
hex_octet high low = option_and_then (λ h. option_map (λ l. h * 16 + l) (hex_digit low)) (hex_digit high)

-- the octets that hex digits write, two each; none if some octet is no digit, or one digit is left over
abbrev pub hex_octets : List ℕ → Option (List ℕ)
hex_octets [] = Some []
hex_octets (c ∷ []) = None
hex_octets (high ∷ low ∷ rest) =
    option_and_then (λ octet. option_map (λ octets. octet ∷ octets) (hex_octets rest)) (hex_octet high low)

-- the octets that a word of hex writes: `-` writes none
abbrev pub hex_word : List ℕ → Option (List ℕ)
hex_word [] = None
hex_word (c ∷ []) = if c == 45 then Some [] else None
hex_word (high ∷ low ∷ rest) = hex_octets (high ∷ low ∷ rest)

-- an octet in hex: two digits, the high one first, letters in lower case
abbrev pub hex_of_octet : ℕ → List ℕ
hex_of_octet b = digit_char (b / 16) ∷ digit_char (b % 16) ∷ []

-- octets in hex; `-` for none
abbrev pub hex_text : List ℕ → List ℕ
hex_text [] = 45 ∷ []
hex_text (b ∷ bs) = flat_map hex_of_octet (b ∷ bs)

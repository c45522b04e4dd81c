-- Strings of octets (RFC 1035 sections 3.3 and 5.1): how they are in quotes, and how they are in data, each behind its
-- length
use Rattle.std.specs.Prelude.{ℕ, zero, suc, ◌++◌, List, [], ◌∷◌, ◌||◌, ◌&&◌, ◌==◌, nat_le, length, Option, Some, None, if◌then◌else◌}
use Rattle.std.specs.List.{flat_map}
use Rattle.zone_proto.specs.TextForm.{three_digits}
use Rattle.message_reading.specs.Octets.{counted_of}

-- an octet in quotes: a quote and a backslash come after a backslash, a printing character of ASCII is itself, and any
-- other octet is its value in three digits
abbrev pub escaped_octet : ℕ → List ℕ
escaped_octet b =
    if b == 34 || b == 92 then 92 ∷ b ∷ []
    else (if nat_le 32 b && nat_le b 126 then b ∷ [] else 92 ∷ three_digits b)

abbrev pub escaped : List ℕ → List ℕ
escaped os = flat_map escaped_octet os

-- the strings at the start of octets, so many at most, and the octets behind them
abbrev pub string_then : List ℕ → Option (List ℕ × List ℕ) → (List ℕ → List (List ℕ) × List ℕ) → List (List ℕ) × List ℕ
string_then os None more = ([], os)
string_then os (Some s) more = (s.0 ∷ (more s.1).0, (more s.1).1)

abbrev pub strings_within : ℕ → List ℕ → List (List ℕ) × List ℕ
strings_within zero os = ([], os)
strings_within (suc n) os = string_then os (counted_of os) (strings_within n)

-- all strings at the start of octets; a string takes an octet at least
abbrev pub strings_of : List ℕ → List (List ℕ) × List ℕ
strings_of os = strings_within (length os) os

-- a string in quotes, and strings, each with a space before it
abbrev pub quoted_text : List ℕ → List ℕ
quoted_text s = 34 ∷ escaped s ++ 34 ∷ []

abbrev pub further_text : List ℕ → List ℕ
further_text os = flat_map (λ s. 32 ∷ quoted_text s) (strings_of os).0

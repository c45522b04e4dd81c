-- The text form of a name, as master files have it (RFC 1035 section 5.1)
use Rattle.std.specs.Prelude.{◌≡◌, ◌≢◌, ℕ, ◌+◌, ◌/◌, ◌%◌, ◌≤◌, ◌⊎◌, List, [], ◌∷◌, ◌++◌, Bool, ◌&&◌, nat_le, IsTrue, IsFalse}
use Rattle.zone_proto.specs.Names.{Name, Label}

-- `.`
abbrev pub dot : ℕ
dot = 46

-- `\`
abbrev pub backslash : ℕ
backslash = 92

-- `0` to `9`
abbrev pub is_digit : ℕ → Bool
is_digit b = nat_le 48 b && nat_le b 57

-- a printing ASCII character that is no space
abbrev pub is_graphic : ℕ → Bool
is_graphic b = nat_le 33 b && nat_le b 126

-- the three decimal digits of a number below 1000
abbrev pub three_digits : ℕ → List ℕ
three_digits b = (48 + b / 100) ∷ (48 + b / 10 % 10) ∷ (48 + b % 10) ∷ []

-- the text of an octet: the octet itself, if it is graphic, no dot and no backslash; or a backslash and the octet
-- itself, if it is graphic and no digit; or a backslash and the three digits of its value, which is at most 255
pub data IsOctetText (s : List ℕ) (b : ℕ) : Type 0 where
  itself : s ≡ b ∷ [] → IsTrue (is_graphic b) → b ≢ dot → b ≢ backslash → IsOctetText s b
  escaped : s ≡ backslash ∷ b ∷ [] → IsTrue (is_graphic b) → IsFalse (is_digit b) → IsOctetText s b
  by_value : s ≡ backslash ∷ three_digits b → b ≤ 255 → IsOctetText s b

-- the text of a label: the texts of its octets, one after the other
abbrev pub IsLabelText : List ℕ → Label → Type 0
IsLabelText s [] = s ≡ []
IsLabelText s (b ∷ l) = (first : List ℕ) × (rest : List ℕ) × (s ≡ first ++ rest) × IsOctetText first b × IsLabelText rest l

-- the text of labels: the text of each with a dot after it, where the last dot may be left out after a label that is
-- not empty
abbrev pub IsLabelsText : List ℕ → List Label → Type 0
IsLabelsText s [] = s ≡ []
IsLabelsText s (l ∷ ls) =
    ((first : List ℕ) × (rest : List ℕ) × (s ≡ first ++ dot ∷ rest) × IsLabelText first l × IsLabelsText rest ls)
    ⊎ (IsLabelText s l × (l ≢ []) × (ls ≡ []))

-- the text of a name: a dot alone is the root's and no other name's, and any other name has the text of its labels
abbrev pub IsNameText : List ℕ → Name → Type 0
IsNameText s [] = s ≡ dot ∷ []
IsNameText s (l ∷ ls) = IsLabelsText s (l ∷ ls) × (s ≢ dot ∷ [])

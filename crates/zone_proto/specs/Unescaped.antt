-- Octets that are themselves in a text, and labels of these
use Rattle.std.specs.Prelude.{◌≡◌, ◌≢◌, ℕ, ◌<◌, ◌≤◌, ◌⊎◌, List, [], ◌∷◌, ◌++◌, length, IsTrue}
use Rattle.std.specs.List.{AllByRecursion}
use Rattle.zone_proto.specs.Names.{Label}
use Rattle.zone_proto.specs.TextForm.{dot, backslash, is_graphic}

-- a graphic octet that is no dot and no backslash is itself
abbrev pub IsUnescaped : ℕ → Type 0
IsUnescaped b = IsTrue (is_graphic b) × (b ≢ dot) × (b ≢ backslash)

-- a label of such octets, whose text is the label itself
pub record IsUnescapedLabel (l : Label) : Type 0 where
  pub some : 0 < length l
  pub short : length l ≤ 63
  pub octets : AllByRecursion IsUnescaped l

-- what may come before a label: nothing, or a text that ends with a dot
abbrev pub IsFront : List ℕ → Type 0
IsFront s = (s ≡ []) ⊎ ((before : List ℕ) × (s ≡ before ++ dot ∷ []))

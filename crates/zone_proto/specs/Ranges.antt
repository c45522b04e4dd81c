-- Numbers as they are in names and keys.
use Rattle.std.specs.Prelude.{ℕ, ◌<◌, List, []}
use Rattle.std.specs.List.{AllByRecursion, flat_map}

-- an octet is a number from 0 to 255
abbrev pub IsOctet : ℕ → Type 0
IsOctet b = b < 256

-- a type number is one from 0 to 65535 (RFC 1035 section 3.2.1)
abbrev pub IsTypeNumber : ℕ → Type 0
IsTypeNumber t = t < 65536

-- octets from 0 to 255, and type numbers from 0 to 65535
pub record IsInRange (os ts : List ℕ) : Type 0 where
  pub octets : AllByRecursion IsOctet os
  pub types : AllByRecursion IsTypeNumber ts

-- the octets of all labels of a name
abbrev pub octets_of_labels : List (List ℕ) → List ℕ
octets_of_labels = flat_map (λ l. l)

-- a name whose octets are so
abbrev pub IsNameInRange : List (List ℕ) → Type 0
IsNameInRange n = IsInRange (octets_of_labels n) []

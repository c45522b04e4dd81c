-- What a file has before and after something is done, where that is known
use Rattle.std.specs.Prelude.{◌≡◌, ℕ, List, ◌++◌, length, take, ⊤, Option, Some, None}

-- it is known to have so many octets
abbrev pub HasLength : Option (List ℕ) → ℕ → Type 0
HasLength None n = ⊥
HasLength (Some octets) n = length octets ≡ n

-- it has what it had, and something behind that
abbrev pub Grows : Option (List ℕ) → Option (List ℕ) → Type 0
Grows None new = ⊤
Grows (Some old) None = ⊥
Grows (Some old) (Some new) = (more : List ℕ) × (new ≡ old ++ more)

-- it has so many octets of those that it had, the first ones
abbrev pub IsCutAt : ℕ → Option (List ℕ) → Option (List ℕ) → Type 0
IsCutAt n None new = ⊤
IsCutAt n (Some old) None = ⊥
IsCutAt n (Some old) (Some new) = new ≡ take n old

-- the first octets, so many, are those that they were
abbrev pub BeginsAs : ℕ → Option (List ℕ) → Option (List ℕ) → Type 0
BeginsAs n None new = ⊤
BeginsAs n (Some old) None = ⊥
BeginsAs n (Some old) (Some new) = take n new ≡ take n old

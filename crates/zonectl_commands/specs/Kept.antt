-- How `Lines` keeps what it has in hand
use Rattle.std.specs.Prelude.{◌≡◌, ◌≤◌, ◌<◌, ℕ, List, [], ◌∷◌, ◌++◌, ◌==◌, Bool, true, false, Option, Some, None, if◌then◌else◌}
use Rattle.zonectl_commands.specs.InHand.{HasNoFeed}

-- octets, if they are all of the line
abbrev pub kept_if : Bool → List ℕ → Option (List ℕ)
kept_if fits octets = if fits then Some octets else None

-- what was taken of a line: nothing where none is begun
abbrev pub begun_of : Bool → Bool → List ℕ → Option (List ℕ)
begun_of is_begun fits octets = if is_begun then kept_if fits octets else Some []

abbrev pub is_feed : ℕ → Bool
is_feed octet = octet == 10

-- octets up to the first line feed, which there is or not
abbrev pub IsCut : List ℕ → List ℕ → Bool → Type 0
IsCut octets piece true = HasNoFeed piece × ((rest : List ℕ) × (octets ≡ piece ++ 10 ∷ rest))
IsCut octets piece false = HasNoFeed piece × (octets ≡ piece)

-- what holds of the fields: how many octets the chunk has, what of it is read ahead, how long the line is and how much
-- room it has, whether it is begun, and whether all of it is here
pub record IsInOrder (chunk at filled line capacity : ℕ) (is_begun fits : Bool) : Type 0 where
  pub some : 0 < chunk
  pub within : filled ≤ chunk
  pub behind : at ≤ filled
  pub short : line ≤ 4097
  pub room : 4097 ≤ capacity
  pub begun : is_begun ≡ true → fits ≡ true → 0 < line

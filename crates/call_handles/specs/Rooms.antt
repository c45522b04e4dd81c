-- What is told in a room of the caller's
use Rattle.std.specs.Prelude.{◌≡◌, ◌++◌, ℕ, List, drop, length}

-- octets are at the beginning of the room, and what is behind them is as it was
abbrev pub StandsIn : List ℕ → List ℕ → List ℕ → Type 0
StandsIn octets before after = after ≡ octets ++ drop (length octets) before

-- nothing was written
abbrev pub IsUntouched : ℕ → List ℕ → List ℕ → Type 0
IsUntouched written before after = (written ≡ 0) × (after ≡ before)

-- a text of so many octets is at the beginning of the room
abbrev pub HasText : ℕ → List ℕ → List ℕ → Type 0
HasText written before after = (text : List ℕ) × (written ≡ length text) × StandsIn text before after

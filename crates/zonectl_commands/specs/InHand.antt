-- What was read of an input and wasn't taken yet
use Rattle.std.specs.Prelude.{◌≡◌, ◌<◌, ◌≢◌, ℕ, List, [], ◌∷◌, ◌++◌, All, Option, Some, None, length}
use Rattle.zonectl_commands.specs.Lines.{lines_of}

-- what `Lines` has in hand
pub record InHand : Type 0 where
  -- the octets that `line` lends
  pub line : List ℕ
  -- what was taken of a line whose end wasn't read yet, if that isn't too long for any line
  pub begun : Option (List ℕ)
  -- what was read ahead
  pub ahead : List ℕ

-- octets without a line feed
abbrev pub HasNoFeed : List ℕ → Type 0
HasNoFeed octets = All (λ octet. octet ≢ 10) octets

-- what was taken of a line: these octets, or more than a line and its carriage return may have
abbrev pub IsBegun : Option (List ℕ) → List ℕ → Type 0
IsBegun (Some kept) octets = octets ≡ kept
IsBegun None octets = 4097 < length octets

-- these octets were read behind the end of the last line that was taken
pub record IsUntaken (hand : InHand) (octets : List ℕ) : Type 0 where
  pub begun : List ℕ
  pub whole : octets ≡ begun ++ hand.ahead
  pub kept : IsBegun hand.begun begun
  pub no_feed : HasNoFeed begun

-- of these octets a line was taken, and those are left: so whatever follows them, it is the first of their lines
abbrev pub TakesLine : List ℕ → Option (List ℕ) → List ℕ → Type 0
TakesLine octets taken left = (more : List ℕ) → lines_of (octets ++ more) ≡ taken ∷ lines_of (left ++ more)

-- a line is taken out of what is in hand: it is the first of the octets that weren't taken, whichever those were
abbrev pub TakesFirst : InHand → InHand → Option (List ℕ) → Type 0
TakesFirst old new taken = (octets : List ℕ) → IsUntaken old octets
    → ((left : List ℕ) × IsUntaken new left × TakesLine octets taken left)

-- the line in hand goes on: what wasn't taken has no line feed
abbrev pub GoesOn : InHand → InHand → Type 0
GoesOn old new = (octets : List ℕ) → IsUntaken old octets → (IsUntaken new octets × HasNoFeed octets)

-- what wasn't taken is one line
abbrev pub IsLastLine : InHand → Option (List ℕ) → Type 0
IsLastLine hand line = (octets : List ℕ) → IsUntaken hand octets → (lines_of octets ≡ line ∷ [])

-- all was taken
abbrev pub IsAllTaken : InHand → Type 0
IsAllTaken hand = (octets : List ℕ) → IsUntaken hand octets → (octets ≡ [])

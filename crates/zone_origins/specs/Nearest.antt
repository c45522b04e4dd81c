-- The nearest of some names to a name
use Rattle.std.specs.Prelude.{◌≡◌, ◌<◌, true, false, List, ◌∷◌, ◌++◌, All, length, Option, Some, None}
use Rattle.zone_proto.specs.Names.{Name, is_at_or_above, IsAtOrAbove}

-- Of the entries whose names are a name or are above it this one has the longest: those before it have shorter ones,
-- and none comes after it (canonical order, RFC 4034 section 6.1).
pub record IsNearest {V : Type 0} (x : Name) (es : List (Name × V)) (e : Name × V) : Type 0 where
  pub front : List (Name × V)
  pub rest : List (Name × V)
  pub stands : es ≡ front ++ e ∷ rest
  pub above : is_at_or_above e.0 x ≡ true
  pub before : All (λ (y : Name × V). is_at_or_above y.0 x ≡ true → length y.0 < length e.0) front
  pub behind : All (λ (y : Name × V). is_at_or_above y.0 x ≡ false) rest

-- it, or None if no entry's name is the name or is above it
abbrev pub IsNearestIfAny : {V : Type 0} → Name → List (Name × V) → Option (Name × V) → Type 0
IsNearestIfAny x es (Some e) = IsNearest x es e
IsNearestIfAny x es None = All (λ y. is_at_or_above y.0 x ≡ false) es

-- ---- as the program finds it

-- a name at or above the left one, below which no name is that is at or above both
pub record IsMeetingBelow (left right meeting : Name) : Type 0 where
  pub of_left : IsAtOrAbove meeting left
  pub longest : (y : Name) → IsAtOrAbove y left → IsAtOrAbove y right → IsAtOrAbove y meeting

-- the longest name at or above two names
pub record IsMeeting (left right meeting : Name) : Type 0 where
  pub of_left : IsAtOrAbove meeting left
  pub of_right : IsAtOrAbove meeting right
  pub longest : (y : Name) → IsAtOrAbove y left → IsAtOrAbove y right → IsAtOrAbove y meeting

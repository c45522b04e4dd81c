-- How lines are read and answers are written
use Rattle.std.specs.Prelude.{◌≡◌, ◌++◌, ℕ, List, [], Option, Some, None}
use Rattle.std.specs.Io.KnownBytes.{Appends, Consumes, IsAtEnd}
use Rattle.zonectl_commands.specs.declared.lines.Line.{Line as LineKind}
use Rattle.zonectl_commands.specs.InHand.{HasNoFeed, InHand, IsUntaken, TakesLine}
use Rattle.zonectl_commands.specs.AnsweredLines.{answered_line}

-- of the octets that waited the first ones were written to what a writer holds, and the others wait still
pub record Moves (waited : List ℕ) (old new : Option (List ℕ)) (waiting : List ℕ) : Type 0 where
  pub written : List ℕ
  pub parts : waited ≡ written ++ waiting
  pub appended : Appends old new written

-- of octets that were read and not taken the first line was taken; or they have no line feed, and nothing more comes
abbrev pub TakesNext : Option LineKind → List ℕ → InHand → Option (List ℕ) → Type 0
TakesNext (Some line) octets hand remaining = (left : List ℕ) × IsUntaken hand left × TakesLine octets (answered_line line hand.line) left
TakesNext None octets hand remaining = IsUntaken hand octets × HasNoFeed octets × (hand.ahead ≡ []) × IsAtEnd remaining

-- the next line, of whatever was not taken before and what was read behind it; of what a reader had left before and after
abbrev pub HasNext : InHand → InHand → Option (List ℕ) → Option (List ℕ) → Option LineKind → Type 0
HasNext old new left_before left_after next = (octets : List ℕ) → IsUntaken old octets
    → ((read : List ℕ) × Consumes left_before left_after read × TakesNext next (octets ++ read) new left_after)

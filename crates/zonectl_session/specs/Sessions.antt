-- What the program answers to all of its input
use Rattle.std.specs.Prelude.{◌≡◌, ℕ, if◌then◌else◌, List, [], ◌∷◌, Bool, Option, None}
use Rattle.std.specs.Io.KnownBytes.{Appends, Consumes, IsAtEnd}
use Rattle.zone_proto.specs.Names.{Name, lower}
use Rattle.zone_proto.specs.TextForm.{IsNameText}
use Rattle.zonectl_commands.specs.declared.command.Command.{Command}
use Rattle.zonectl_commands.specs.Lines.{lines_of}
use Rattle.zonectl_commands.specs.Transcripts.{IsTranscript}
use Rattle.zonectl_session.specs.declared.session.Served.{Served}
use Rattle.zonectl_session.specs.Steps.{empty_zone, Carries}

-- the session before a command, the command, the text of an answer to it, and the session after it
abbrev pub IsAnswer : Served → Command → List ℕ → Served → Type 0
IsAnswer old command text new = Carries old command [] text new

-- the session before the first line: a zone without records and signers at its origin, which was never secured
abbrev pub first_session : Name → Served
first_session origin = record { zone = empty_zone (lower origin) None; moment = 0 }

-- the words after the program's name are one, and it is the text of this name
abbrev pub IsOnlyWord : List (List ℕ) → Name → Type 0
IsOnlyWord (word ∷ []) origin = IsNameText word origin
IsOnlyWord _ origin = ⊥

-- all lines of the input are answered: of the words after the program's name, what the reader had left before and after, what
-- the writer held before and after, and the status
pub record IsServed (words : List (List ℕ)) (left_before left_after held_before held_after : Option (List ℕ)) (status : ℕ) : Type 0 where
  -- the zone's origin is the one word
  pub origin : Name
  pub named : IsOnlyWord words origin
  -- these octets were read, and no more come
  pub octets : List ℕ
  pub read : Consumes left_before left_after octets
  pub all_read : IsAtEnd left_after
  -- this was written: the answers to their lines in order, from the empty zone of the origin on
  pub text : List ℕ
  pub written : Appends held_before held_after text
  pub good : Bool
  pub last : Served
  pub answered : IsTranscript IsAnswer (first_session origin) 1 (lines_of octets) text good last
  -- whether no line was bad
  pub told : status ≡ (if good then 0 else 1)

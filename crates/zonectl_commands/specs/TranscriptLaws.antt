-- Laws of transcripts
use Rattle.std.specs.Prelude.{◌≡◌, ◌≢◌, ◌↔◌, ℕ, ◌+◌, ◌++◌, ◌&&◌, List, [], ◌∷◌, Bool, Option, Some, None, IsTrue, length, ⊤}
use Rattle.zonectl_commands.specs.declared.command.Command.{Command}
use Rattle.zonectl_commands.specs.Commands.{said_by}
use Rattle.zonectl_commands.specs.Lines.{lines_of}
use Rattle.zonectl_commands.specs.Transcripts.{AnswersLine, IsTranscript}

-- a line that says no command: it is bad, blank or a comment
abbrev pub SaysNoCommand : Option (List ℕ) → Type 0
SaysNoCommand None = ⊤
SaysNoCommand (Some line) = (command : Command) → said_by line ≢ Some (Some command)

module _ (S : Type 0) (carries : S → Command → List ℕ → S → Type 0) where
  -- a transcript in two parts: of some lines, and of others from the session that those lead to, whose numbers go on
  pub record IsInParts (s : S) (n : ℕ) (xs ys : List (Option (List ℕ))) (text : List ℕ) (good : Bool) (t : S) : Type 0 where
    pub between : S
    pub first : List ℕ
    pub more : List ℕ
    pub first_good : Bool
    pub more_good : Bool
    pub begins : IsTranscript carries s n xs first first_good between
    pub goes_on : IsTranscript carries between (n + length xs) ys more more_good t
    pub whole : text ≡ first ++ more
    pub all_good : good ≡ (first_good && more_good)

  -- the transcript of lines and of others behind them is that of the former, and then that of the others
  abbrev pub TranscriptsJoin : Type 0
  TranscriptsJoin = (s : S) (n : ℕ) (xs ys : List (Option (List ℕ))) (text : List ℕ) (good : Bool) (t : S)
      → IsTranscript carries s n (xs ++ ys) text good t ↔ IsInParts s n xs ys text good t

  -- a line that says no command leaves the session, so that the lines behind it are answered as without it, but for their numbers
  abbrev pub NoCommandChangesNothing : Type 0
  NoCommandChangesNothing = (s : S) (n : ℕ) (line : Option (List ℕ)) (lines : List (Option (List ℕ))) (text : List ℕ) (good : Bool) (t : S)
      → SaysNoCommand line → IsTranscript carries s n (line ∷ lines) text good t
      → (first more : List ℕ) × (is_good all_good : Bool) × AnswersLine carries s n line first is_good s × IsTranscript carries s (n + 1) lines more all_good t
      × (text ≡ first ++ more) × (good ≡ (is_good && all_good))

  -- from whichever number lines are counted, they lead to the same session, and are good or not; and where all are good, the answers are the same
  abbrev pub NumbersChangeNoSession : Type 0
  NumbersChangeNoSession = (s : S) (n m : ℕ) (lines : List (Option (List ℕ))) (text : List ℕ) (good : Bool) (t : S)
      → IsTranscript carries s n lines text good t → (other : List ℕ) × IsTranscript carries s m lines other good t × (IsTrue good → other ≡ text)

-- the lines of octets up to a line feed and of those behind it
abbrev pub LinesJoin : Type 0
LinesJoin = (xs ys : List ℕ) → lines_of (xs ++ 10 ∷ ys) ≡ lines_of (xs ++ 10 ∷ []) ++ lines_of ys

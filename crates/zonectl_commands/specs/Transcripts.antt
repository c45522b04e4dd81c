-- What a session answers to lines, one after the other
use Rattle.std.specs.Prelude.{◌≡◌, ◌⊎◌, ℕ, ◌+◌, ◌++◌, ◌&&◌, List, [], ◌∷◌, Bool, true, false, Option, Some, None, codes}
use Rattle.std.specs.Fmt.{decimal}
use Rattle.zonectl_commands.specs.declared.command.Command.{Command}
use Rattle.zonectl_commands.specs.Commands.{said_by}

-- the answer to a bad line, by its number
abbrev pub bad_line : ℕ → List ℕ
bad_line n = codes "bad line " ++ decimal n ++ 10 ∷ []

-- the answer where no memory was found
abbrev pub no_memory : List ℕ
no_memory = codes "error Memory" ++ 10 ∷ []

-- a session's commands: the session before one, the command, the text of an answer to it, and the session after it
module _ {S : Type 0} (carries : S → Command → List ℕ → S → Type 0) where
  -- a bad line is told by its number, and changes nothing
  abbrev pub IsBad : S → ℕ → List ℕ → Bool → S → Type 0
  IsBad s n text good t = (text ≡ bad_line n) × (good ≡ false) × (t ≡ s)

  -- the answer to what a line says: nothing, where it is no command; that of the command; or that the line is bad
  abbrev pub AnswersSaid : S → ℕ → Option (Option Command) → List ℕ → Bool → S → Type 0
  AnswersSaid s n None text good t = IsBad s n text good t
  AnswersSaid s n (Some None) text good t = (text ≡ []) × (good ≡ true) × (t ≡ s)
  AnswersSaid s n (Some (Some command)) text good t = carries s command text t × (good ≡ true)

  -- the session before a line, the line's number, the line, the text of its answer, whether it is good, and the session after it.
  -- For any line that can be one there may be no memory; then it changes nothing.
  abbrev pub AnswersLine : S → ℕ → Option (List ℕ) → List ℕ → Bool → S → Type 0
  AnswersLine s n None text good t = IsBad s n text good t
  AnswersLine s n (Some line) text good t =
      AnswersSaid s n (said_by line) text good t ⊎ ((text ≡ no_memory) × (good ≡ true) × (t ≡ s))

  -- the answers to the first of some lines and to the others, the lines being numbered from this number on
  abbrev pub IsTranscript : S → ℕ → List (Option (List ℕ)) → List ℕ → Bool → S → Type 0
  IsTranscript s n [] text good t = (text ≡ []) × (good ≡ true) × (t ≡ s)
  IsTranscript s n (line ∷ lines) text good t =
      (u : S) × (first more : List ℕ) × (is_good all_good : Bool)
      × AnswersLine s n line first is_good u
      × IsTranscript u (n + 1) lines more all_good t
      × (text ≡ first ++ more)
      × (good ≡ (is_good && all_good))

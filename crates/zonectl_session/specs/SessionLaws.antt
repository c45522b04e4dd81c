-- Laws of sessions
use Rattle.std.specs.Prelude.{◌≡◌, ℕ, List, Bool, Option, ⊤}
use Rattle.zonectl_commands.specs.declared.command.Command.{Command}
use Rattle.zonectl_session.specs.declared.session.Served.{Served}
use Rattle.zonectl_session.specs.Replies.{Reply, no, refused, failed, broken_off, reply_text}
use Rattle.zonectl_commands.specs.Transcripts.{AnswersLine}
use Rattle.zonectl_session.specs.Sessions.{IsAnswer}
use Rattle.zonectl_session.specs.Steps.{IsStep}

-- a reply that tells of nothing done
abbrev pub IsRefusal : Reply → Type 0
IsRefusal no = ⊤
IsRefusal (refused word) = ⊤
IsRefusal (failed word) = ⊤
IsRefusal (broken_off word) = ⊤
IsRefusal _ = ⊥

-- a command that is refused leaves the session as it was
abbrev pub RefusedChangesNothing : Type 0
RefusedChangesNothing = (old new : Served) (command : Command) (reply : Reply) → IsStep old command reply new → IsRefusal reply → new ≡ old

-- so does a line whose answer is the text of such a reply
abbrev pub RefusedLineChangesNothing : Type 0
RefusedLineChangesNothing = (old new : Served) (n : ℕ) (line : Option (List ℕ)) (text : List ℕ) (good : Bool) (reply : Reply)
    → AnswersLine IsAnswer old n line text good new → IsRefusal reply → text ≡ reply_text reply → new ≡ old

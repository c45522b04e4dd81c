-- What a secondary makes of the messages of an incremental transfer
use Rattle.std.specs.Prelude.{◌≡◌, ℕ, ◌≤◌, true, List, [], ◌∷◌, length, Ok}
use Rattle.message_writing.specs.Responses.{all_records}
use Rattle.transfer_reading.specs.Answers.{is_asked}
use Rattle.transfer_reading.specs.Stages.{behind_all}
use Rattle.transfer_reading.specs.Transfers.{begun, took_all}
use Rattle.transfer_reading.specs.declared.asked.Asked.{Asked}
use Rattle.transfer_reading.specs.declared.stage.Stage.{Stage}
use Rattle.transfer_reading.specs.declared.stage.Stage.TheVariants.{Before}
use Rattle.difference_messages.specs.Messages.{Answer, IsNext}

-- messages that are written one after the other, to the end
abbrev pub AreAll : Answer → ℕ → List (List ℕ) → Type 0
AreAll a sent [] = length a.groups ≤ sent
AreAll a sent (text ∷ texts) = (next : ℕ) × IsNext a sent next text × AreAll a next texts

-- A secondary whose query is answered takes all messages if it takes their records: it has these then.
abbrev pub MessagesAreTaken : Type 0
MessagesAreTaken = (asked : Asked) (a : Answer) (texts : List (List ℕ)) (end : Stage) → a.query.header.id ≡ asked.id
    → is_asked asked a.query.question ≡ true → AreAll a 0 texts → behind_all asked Before (all_records a.groups) ≡ Ok end
    → took_all (begun asked) texts ≡ Ok (record { asked = asked; stage = end; records = all_records a.groups })

-- An answer that is taken message by message
use Rattle.std.specs.Prelude.{ℕ, Bool, true, false, List, [], ◌∷◌, ◌++◌, Option, Result, Ok}
use Rattle.zone_proto.specs.declared.record.Record.{Record}
use Rattle.message_reading.specs.Messages.{message_of, Parts}
use Rattle.transfer_reading.specs.Answers.{◌>>=◌, answers_of}
use Rattle.transfer_reading.specs.Stages.{behind_all}
use Rattle.transfer_reading.specs.declared.asked.Asked.{Asked}
use Rattle.transfer_reading.specs.declared.fault.AnswerFault.{AnswerFault}
use Rattle.transfer_reading.specs.declared.stage.Stage.{Stage}
use Rattle.transfer_reading.specs.declared.stage.Stage.TheVariants.{Before}

-- what was asked, how far the answer has come, and the records that came, in their order
pub record Course : Type 0 where
  pub asked : Asked
  pub stage : Stage
  pub records : List Record

-- no record came
abbrev pub is_before : Stage → Bool
is_before Before = true
is_before _ = false

-- an answer behind its next message
abbrev pub took : Course → Option Parts → Result Course AnswerFault
took t message =
    answers_of t.asked (is_before t.stage) message >>= λ rs.
    behind_all t.asked t.stage rs >>= λ stage.
    Ok (record { asked = t.asked; stage = stage; records = t.records ++ rs })

-- the secondary before the first message
abbrev pub begun : Asked → Course
begun a = record { asked = a; stage = Before; records = [] }

-- a secondary behind messages, or the first fault
unfoldable pub took_all : Course → List (List ℕ) → Result Course AnswerFault
took_all t [] = Ok t
took_all t (text ∷ texts) = took t (message_of text) >>= λ n. took_all n texts

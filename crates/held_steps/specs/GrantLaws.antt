-- To whom steps go out
use Rattle.std.specs.Prelude.{ℕ, true, List, None, Ok}
use Rattle.zone_server.specs.declared.transport.Transport.{Transport}
use Rattle.zone_database.specs.declared.zone.Zone.{Zone}
use Rattle.held_transfers.specs.declared.access.TransferAccess.{TransferAccess}
use Rattle.held_transfers.specs.declared.answering.KeyedAnswer.TheVariants as answer
use Rattle.held_transfers.specs.declared.held_transfer.HeldTransfer.{HeldTransfer}
use Rattle.held_transfers.specs.Answering.{AnswersWithKeys}
use Rattle.held_transfers.specs.Laws.{IsEntitled}
use Rattle.held_steps.specs.declared.held_answer.HeldAnswer.{HeldAnswer}
use Rattle.held_steps.specs.declared.histories.HeldSteps.{HeldSteps}
use Rattle.held_steps.specs.Shortening.{IsShortened}

-- They do only in place of a zone that goes out to one who may have it.
abbrev pub StepsAreGranted : Type 0
StepsAreGranted = (access : TransferAccess) (zs : List Zone) (now : ℕ) (t : Transport) (message : List ℕ) (h : HeldTransfer) (octets : List ℕ) (s : HeldSteps) (a : HeldAnswer)
    → AnswersWithKeys access zs now t message (answer.Transfer h) octets → IsShortened s message (record { transfer = h; texts = None }) a (Ok true)
    → IsEntitled access now message a.transfer

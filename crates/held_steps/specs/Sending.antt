-- What goes out of a zone that is sent, or of steps in its place
use Rattle.std.specs.Prelude.{◌≡◌, ℕ, ◌+◌, Bool, true, false, List, [], ◌∷◌, length, Option, Some, None, Result, Ok, Err, Vec}
use Rattle.std.specs.declared.alloc.AllocError.{AllocError}
use Rattle.std.specs.declared.alloc.Global.{Global}
use Rattle.message_tsig.specs.Signing.{tsig_size}
use Rattle.transfer_messages.specs.declared.sealing.Sealing.{Sealing}
use Rattle.transfer_messages.specs.Seals.{goes_out_whole, sealing_behind_whole}
use Rattle.held_transfers.specs.declared.held_transfer.HeldTransfer.{HeldTransfer}
use Rattle.held_transfers.specs.Holding.{GoesOnHeld}
use Rattle.step_answers.specs.Answers.{texts_of}
use Rattle.held_steps.specs.declared.held_answer.HeldAnswer.{HeldAnswer}

-- the first of some messages went out, signed if the request was
pub record GoesByText (now : ℕ) (old new : Option Sealing) (texts left : List (List ℕ)) (octets : List ℕ) : Type 0 where
  pub plain : List ℕ
  pub parts : texts ≡ plain ∷ left
  pub text : octets ≡ goes_out_whole old now plain
  pub sealing : new ≡ sealing_behind_whole old now plain

-- it did; or there is none; or memory ran out, and all is as it was
abbrev pub GoesOnByTexts : ℕ → Option Sealing → Option Sealing → List (List ℕ) → List (List ℕ) → List ℕ → Result Bool AllocError → Type 0
GoesOnByTexts now old new texts left octets (Ok true) = GoesByText now old new texts left octets
GoesOnByTexts now old new texts left octets (Ok false) = (texts ≡ []) × (left ≡ []) × (octets ≡ []) × (new ≡ old)
GoesOnByTexts now old new texts left octets (Err e) = (left ≡ texts) × (new ≡ old)

-- a transfer with its messages signed so far
abbrev pub with_sealing : HeldTransfer → Option Sealing → HeldTransfer
with_sealing h s = record h { transfer = record h.transfer { sealing = s } }

-- the steps went on, if they go out; else the zone did
abbrev pub GoesOnIf : Option (Vec (Vec ℕ Global) Global) → ℕ → HeldAnswer → HeldAnswer → List ℕ → Result Bool AllocError → Type 0
GoesOnIf None now old new octets r = GoesOnHeld now old.transfer new.transfer octets r × (new.texts ≡ None)
GoesOnIf (Some texts) now old new octets r =
    (left : Vec (Vec ℕ Global) Global) × (sealing : Option Sealing)
    × GoesOnByTexts now old.transfer.transfer.sealing sealing (texts_of texts.items) (texts_of left.items) octets r
    × (new ≡ record { transfer = with_sealing old.transfer sealing; texts = Some left })

abbrev pub GoesOnAnswer : ℕ → HeldAnswer → HeldAnswer → List ℕ → Result Bool AllocError → Type 0
GoesOnAnswer now old new octets r = GoesOnIf old.texts now old new octets r

-- ---- on the way

-- how many octets a message has with its TSIG
abbrev pub room_for : Option Sealing → List ℕ → ℕ
room_for None message = length message
room_for (Some s) message = length message + tsig_size s.key

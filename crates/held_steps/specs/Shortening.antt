-- Steps that go out in place of a zone
use Rattle.std.specs.Prelude.{◌≡◌, ◌⊎◌, ℕ, ◌==◌, ◌&&◌, not, Bool, true, false, List, Option, Some, None, is_some, Result, Ok, Err, Vec}
use Rattle.std.specs.declared.alloc.AllocError.{AllocError}
use Rattle.std.specs.declared.alloc.Global.{Global}
use Rattle.transfer_messages.specs.declared.open_transfer.OpenTransfer.{OpenTransfer}
use Rattle.transfer_messages.specs.declared.place.Place.{Place}
use Rattle.transfer_messages.specs.declared.place.Place.TheVariants as at
use Rattle.held_steps.specs.declared.held_answer.HeldAnswer.{HeldAnswer}
use Rattle.held_steps.specs.declared.histories.HeldSteps.{HeldSteps}
use Rattle.held_steps.specs.Lacking.{GivesSteps}

abbrev pub is_beginning : Place → Bool
is_beginning (at.Opening n) = n == 0
is_beginning (at.Set k n) = false
is_beginning (at.Closing n) = false

-- no message of a transfer went out
abbrev pub is_at_start : OpenTransfer → Bool
is_at_start x = is_beginning x.place && not x.is_broken_off

-- no message of a zone that is sent went out, and no steps go out in its place
abbrev pub is_whole : HeldAnswer → Bool
is_whole a = not (is_some a.texts) && is_at_start a.transfer.transfer

-- The steps that the one who asks lacks go out in place of the zone; or they don't, and nothing changed; or memory ran out, and nothing changed.
abbrev pub IsShortened : HeldSteps → List ℕ → HeldAnswer → HeldAnswer → Result Bool AllocError → Type 0
IsShortened s message old new (Ok true) =
    (texts : Vec (Vec ℕ Global) Global) × (is_whole old ≡ true) × GivesSteps s old.transfer message (Some texts) × (new ≡ record old { texts = Some texts })
IsShortened s message old new (Ok false) = ((is_whole old ≡ false) ⊎ GivesSteps s old.transfer message None) × (new ≡ old)
IsShortened s message old new (Err e) = new ≡ old

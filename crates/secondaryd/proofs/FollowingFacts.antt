-- What comes of messages, put together of what their steps say
use Rattle.std.proofs.Common.{◌≡◌, ℕ, true, sym, ap, subst, ◌∙◌, refl}
use Rattle.std.specs.Prelude.{Option, None, Some, Result, Ok}
use Rattle.transfer_reading.specs.Transfers.{Course}
use Rattle.transfer_reading.specs.declared.stage.Stage.{Stage}
use Rattle.signed_transfers.specs.declared.fault.SignedFault.{SignedFault}
use Rattle.secondaryd.specs.Channels.{closed, is_end, stage_of, whole, IsWrong}
use Rattle.secondaryd.specs.Followings.{failed, has_ended, Ends, Finishes, Follows, GoesOn}
use Rattle.secondaryd.specs.declared.channel.Channel.{Channel}
use Rattle.secondaryd.specs.declared.events.Progress.{Progress}
use Rattle.secondaryd.specs.declared.events.Progress.TheVariants.{Unasked, More, Taken, Serial, Wrong, Unsigned, NotTaken}
use Rattle.secondaryd.specs.declared.following.Following.{Following}

-- ---- at the end of an answer

pub nothing_signed : (f g : Following) (a : Option Course) (now : ℕ) → a ≡ None → g ≡ failed f now → Finishes f a now Unsigned g
nothing_signed f g a now is h = subst (λ (x : Option Course). Finishes f x now Unsigned g) (sym is) (refl, h)

pub answer_ends : (f g : Following) (a : Option Course) (t : Course) (now : ℕ) (p : Progress) → a ≡ Some t → Ends f t now p g → Finishes f a now p g
answer_ends f g a t now p is h = subst (λ (x : Option Course). Finishes f x now p g) (sym is) h

-- what comes of an answer at its end is that it says something, or nothing
unasked_never : (f g : Following) (a : Option Course) (now : ℕ) → Finishes f a now Unasked g → ⊥
unasked_never f g None now h = let e : Unasked ≡ Unsigned = h.0 in cc
unasked_never f g (Some t) now h = h

more_never : (f g : Following) (a : Option Course) (now : ℕ) → Finishes f a now More g → ⊥
more_never f g None now h = let e : More ≡ Unsigned = h.0 in cc
more_never f g (Some t) now h = h

wrong_never : (f g : Following) (a : Option Course) (now : ℕ) (e : SignedFault) → Finishes f a now (Wrong e) g → ⊥
wrong_never f g None now e h = let d : Wrong e ≡ Unsigned = h.0 in cc
wrong_never f g (Some t) now e h = h

-- ---- behind a message

ended_by : (f : Following) (s : Stage) → stage_of f.channel ≡ Some s → is_end s ≡ true → has_ended (stage_of f.channel) ≡ true
ended_by f s reached end = ap has_ended reached ∙ end

pub goes_to_end : (f g : Following) (s : Stage) (now : ℕ) (p : Progress) → stage_of f.channel ≡ Some s → is_end s ≡ true
    → Finishes f (whole f.channel) now p g → GoesOn f now p g
goes_to_end f g s now Unasked reached end h = (ended_by f s reached end, h)
goes_to_end f g s now More reached end h = absurd (more_never f g (whole f.channel) now h)
goes_to_end f g s now Taken reached end h = (ended_by f s reached end, h)
goes_to_end f g s now (Serial n poll) reached end h = (ended_by f s reached end, h)
goes_to_end f g s now (Wrong e) reached end h = (ended_by f s reached end, h)
goes_to_end f g s now Unsigned reached end h = (ended_by f s reached end, h)
goes_to_end f g s now (NotTaken e) reached end h = (ended_by f s reached end, h)

pub follows_on : (f g : Following) (made : Option (Result Channel SignedFault)) (c : Channel) (now : ℕ) (p : Progress) → made ≡ Some (Ok c)
    → GoesOn (record f { channel = c }) now p g → Follows f made now p g
follows_on f g made c now Unasked is h = absurd (unasked_never (record f { channel = c }) g (whole c) now h.1)
follows_on f g made c now More is h = (c, is, h)
follows_on f g made c now Taken is h = (c, is, h)
follows_on f g made c now (Serial n poll) is h = (c, is, h)
follows_on f g made c now (Wrong e) is h = absurd (wrong_never (record f { channel = c }) g (whole c) now e h.1)
follows_on f g made c now Unsigned is h = (c, is, h)
follows_on f g made c now (NotTaken e) is h = (c, is, h)

pub follows_wrong : (f g : Following) (made : Option (Result Channel SignedFault)) (c : Channel) (now : ℕ) (e : SignedFault) → IsWrong e made
    → closed c ≡ closed f.channel → g ≡ failed (record f { channel = c }) now → Follows f made now (Wrong e) g
follows_wrong f g made c now e wrong same is =
    (wrong, is ∙ ap (λ (x : Channel). record (failed f now) { channel = x }) same)

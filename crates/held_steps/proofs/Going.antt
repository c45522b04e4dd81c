-- What goes out next
use Rattle.std.proofs.Common.{◌≡◌, ℕ, Bool, true, false, List, [], ◌∷◌, Ok, Result, refl, sym, ap, subst, ◌∙◌}
use Rattle.std.specs.Prelude.{Option, Some, None, slice_get, Vec}
use Rattle.std.specs.List.{remove}
use Rattle.std.specs.declared.alloc.AllocError.{AllocError}
use Rattle.std.specs.declared.alloc.Global.{Global}
use Rattle.transfer_messages.specs.declared.sealing.Sealing.{Sealing}
use Rattle.transfer_messages.specs.Seals.{goes_out_whole, sealing_behind_whole}
use Rattle.held_transfers.specs.Holding.{GoesOnHeld}
use Rattle.step_answers.specs.Answers.{texts_of}
use Rattle.held_steps.specs.declared.held_answer.HeldAnswer.{HeldAnswer}
use Rattle.held_steps.specs.Sending.{with_sealing, GoesByText, GoesOnAnswer, GoesOnByTexts, GoesOnIf}

-- ---- the first of some messages

module _ (now : ℕ) (old new : Option Sealing) where
  pub went : (vs left : List (Vec ℕ Global)) (first : Vec ℕ Global) (plain octets : List ℕ) → Some first ≡ slice_get vs 0 → left ≡ remove vs 0 → plain ≡ first.items
      → octets ≡ goes_out_whole old now plain → new ≡ sealing_behind_whole old now plain → GoesByText now old new (texts_of vs) (texts_of left) octets
  went [] left first plain octets is rest text out sealed = cc
  went (v ∷ vs) left first plain octets is rest text out sealed =
      let same : first ≡ v = cc in
      record { plain = plain; parts = λ i. (ap (λ (x : Vec ℕ Global). x.items) (sym same) ∙ sym text) i ∷ texts_of (sym rest i); text = out; sealing = sealed }

pub none_left : (vs : List (Vec ℕ Global)) → None ≡ slice_get vs 0 → texts_of vs ≡ []
none_left [] is = refl
none_left (v ∷ vs) is = cc

-- ---- steps, or a zone

module _ (now : ℕ) (old new : HeldAnswer) (octets : List ℕ) (r : Result Bool AllocError) where
  pub goes_by_texts : (texts left : Vec (Vec ℕ Global) Global) (sealing : Option Sealing) → old.texts ≡ Some texts
      → GoesOnByTexts now old.transfer.transfer.sealing sealing (texts_of texts.items) (texts_of left.items) octets r
      → new ≡ record { transfer = with_sealing old.transfer sealing; texts = Some left } → GoesOnAnswer now old new octets r
  goes_by_texts texts left sealing is on put = subst (λ (o : Option (Vec (Vec ℕ Global) Global)). GoesOnIf o now old new octets r) (sym is) (left, sealing, on, put)

  pub goes_by_zone : old.texts ≡ None → GoesOnHeld now old.transfer new.transfer octets r → new.texts ≡ None → GoesOnAnswer now old new octets r
  goes_by_zone is on none = subst (λ (o : Option (Vec (Vec ℕ Global) Global)). GoesOnIf o now old new octets r) (sym is) (on, none)

-- Steps go out in place of a zone of which no message went out
use Rattle.std.proofs.Common.{◌≡◌, ◌∙◌, Bool, true, false, sym}
use Rattle.std.specs.Prelude.{◌&&◌, not, is_some}
use Rattle.held_steps.specs.declared.held_answer.HeldAnswer.{HeldAnswer}
use Rattle.held_steps.specs.Shortening.{is_at_start, is_whole}

pub whole_by : (a : HeldAnswer) (b s : Bool) → b ≡ is_some a.texts → b ≡ false → s ≡ is_at_start a.transfer.transfer → s ≡ true → is_whole a ≡ true
whole_by a b s is none starts first = λ i. not ((sym is ∙ none) i) && (sym starts ∙ first) i

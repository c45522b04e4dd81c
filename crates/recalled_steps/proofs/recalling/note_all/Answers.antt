use Rattle.std.proofs.Common.{◌≡◌, ℕ, [], ◌∷◌, sym, ap, ◌∙◌}
use Rattle.std.specs.Prelude.{Option}
use Rattle.std.proofs.lemmas.List.{nil_from_length}
use Rattle.std.specs.Vec.Iter.{into_iter_items, into_iter_deque}
use Rattle.kept_steps.specs.Kept.{Kept}
use Rattle.recalled_steps.specs.Recalling.{all_noted, serial_behind}
use Rattle.recalled_steps.proofs.recalling.note_all.Goals as goal

pub loop-step-preserved : goal.loop-step-preserved
loop-step-preserved c =
    let left = into_iter_items c.next.new.self in
    let steps : into_iter_items c.loop-step.step-iterator ≡ c.in-Some.step ∷ left = c.in-Some.ensures.steps.0 in (
      ap (λ (k : Kept). all_noted k left) c.in_ok-note_step.ensures.put ∙ sym (ap (all_noted c.loop-step.kept) steps) ∙ c.loop-step.invariant.0,
      ap (λ (s : Option ℕ). serial_behind s left) c.serial_of-serial.ensures ∙ sym (ap (serial_behind c.loop-step.serial) steps) ∙ c.loop-step.invariant.1,
    )

pub returns-clause-noted : goal.returns-clause-noted
returns-clause-noted c =
    let left = c.loop-step.step-iterator in
    let none : into_iter_items left ≡ [] = nil_from_length (into_iter_items left) (sym (into_iter_deque left).ok.0 ∙ c.in-None.ensures.steps.0) in
    sym (ap (all_noted c.loop-step.kept) none) ∙ c.loop-step.invariant.0

pub returns-clause-serial : goal.returns-clause-serial
returns-clause-serial c =
    let left = c.loop-step.step-iterator in
    let none : into_iter_items left ≡ [] = nil_from_length (into_iter_items left) (sym (into_iter_deque left).ok.0 ∙ c.in-None.ensures.steps.0) in
    sym (ap (serial_behind c.loop-step.serial) none) ∙ c.loop-step.invariant.1

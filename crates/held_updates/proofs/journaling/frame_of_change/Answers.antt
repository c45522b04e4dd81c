use Rattle.std.proofs.Common.{subst}
use Rattle.shown_zones.specs.Steps.{step_of, IsStepIfAny}
use Rattle.held_updates.proofs.journaling.frame_of_change.Goals as goal

pub returns-in_ok-frame-in-Ok-Some : goal.returns-in_ok-frame-in-Ok-Some
returns-in_ok-frame-in-Ok-Some c = (
  step_of c.in-Ok-Some.step,
  (λ names zone next is_zone among are. subst (IsStepIfAny c.args.origin.now zone next) c.in-Ok-Some.field-0-is (c.in-Ok-Some.ensures.step names zone next is_zone among are)),
  c.in_ok-frame-in-Ok-Some.ensures,
)

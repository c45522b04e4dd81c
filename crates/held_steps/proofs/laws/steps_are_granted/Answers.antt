use Rattle.held_steps.proofs.Granted.{steps_are_granted}
use Rattle.held_steps.proofs.laws.steps_are_granted.Goals as goal

pub returns : goal.returns
returns c = steps_are_granted c.transfers_are_granted.ensures

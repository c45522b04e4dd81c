use Rattle.held_steps.proofs.Leading.{histories_lead}
use Rattle.held_steps.proofs.laws.histories_lead.Goals as goal

pub returns : goal.returns
returns c = histories_lead c.noted_steps_lead.ensures

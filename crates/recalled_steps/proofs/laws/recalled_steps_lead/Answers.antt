use Rattle.recalled_steps.proofs.Leading.{recalled_steps_lead}
use Rattle.recalled_steps.proofs.laws.recalled_steps_lead.Goals as goal

pub returns : goal.returns
returns c = recalled_steps_lead c.noted_steps_lead.ensures

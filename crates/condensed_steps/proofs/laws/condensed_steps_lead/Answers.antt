use Rattle.condensed_steps.proofs.Leading.{condensed_steps_lead}
use Rattle.condensed_steps.proofs.laws.condensed_steps_lead.Goals as goal

pub returns : goal.returns
returns c = condensed_steps_lead

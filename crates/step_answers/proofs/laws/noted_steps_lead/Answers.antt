use Rattle.step_answers.proofs.NotedLead.{noted_steps_lead}
use Rattle.step_answers.proofs.laws.noted_steps_lead.Goals as goal

pub returns : goal.returns
returns c = noted_steps_lead c.kept_steps_lead.ensures.kept

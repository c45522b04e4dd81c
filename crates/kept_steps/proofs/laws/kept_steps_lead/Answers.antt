use Rattle.kept_steps.proofs.Leading.{given_steps_lead}
use Rattle.kept_steps.proofs.laws.kept_steps_lead.Goals as goal

pub returns-clause-given : goal.returns-clause-given
returns-clause-given c = given_steps_lead

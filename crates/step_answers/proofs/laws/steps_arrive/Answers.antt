use Rattle.step_answers.proofs.Arriving.{steps_arrive}
use Rattle.step_answers.proofs.laws.steps_arrive.Goals as goal

pub returns : goal.returns
returns c = steps_arrive c.kept_steps_lead.ensures.given c.messages_are_taken.ensures c.steps_are_taken.ensures c.steps_make_the_newest.ensures

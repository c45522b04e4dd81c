use Rattle.condensed_answers.proofs.Arriving.{condensed_steps_arrive}
use Rattle.condensed_answers.proofs.laws.condensed_steps_arrive.Goals as goal

pub returns : goal.returns
returns c =
    condensed_steps_arrive c.kept_steps_lead.ensures.given c.condensed_steps_lead.ensures c.messages_are_taken.ensures c.steps_are_taken.ensures c.steps_make_the_newest.ensures
    c.steps_arrive.ensures

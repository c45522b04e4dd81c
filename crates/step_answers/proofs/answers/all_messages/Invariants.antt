use Rattle.std.proofs.Common.{◌-◌, length}
use Rattle.difference_messages.specs.Messages.{answer_of}
use Rattle.step_answers.proofs.Whole.{AreBegun}
use Rattle.step_answers.specs.Answers.{texts_of}
use Rattle.step_answers.proofs.answers.all_messages.Given as goal

-- those so far, with those that are to come, are all
abbrev pub invariant-message : goal.invariant-message
invariant-message l = AreBegun (answer_of l.answer) l.sent (texts_of l.texts.items)

-- the groups that are left
abbrev pub decreases-message : goal.decreases-message
decreases-message l = length l.answer.groups.now - l.sent

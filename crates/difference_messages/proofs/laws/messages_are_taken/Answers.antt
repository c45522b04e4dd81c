use Rattle.difference_messages.proofs.Taken.{messages_are_taken}
use Rattle.difference_messages.proofs.laws.messages_are_taken.Goals as goal

pub returns : goal.returns
returns c = messages_are_taken c.messages_are_taken.ensures

use Rattle.difference_messages.proofs.Chosen.{replies_lead}
use Rattle.difference_messages.proofs.laws.replies_lead.Goals as goal

pub returns : goal.returns
returns c = replies_lead

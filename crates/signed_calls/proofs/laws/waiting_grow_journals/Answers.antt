use Rattle.signed_calls.proofs.Held.{waiting_grow_journals}
use Rattle.signed_calls.proofs.laws.waiting_grow_journals.Goals as goal

pub returns : goal.returns
returns c = waiting_grow_journals

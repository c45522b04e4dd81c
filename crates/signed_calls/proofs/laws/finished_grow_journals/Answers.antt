use Rattle.signed_calls.proofs.Held.{finished_grow_journals}
use Rattle.signed_calls.proofs.laws.finished_grow_journals.Goals as goal

pub returns : goal.returns
returns c = finished_grow_journals

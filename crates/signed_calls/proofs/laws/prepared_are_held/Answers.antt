use Rattle.signed_calls.proofs.Held.{prepared_are_held}
use Rattle.signed_calls.proofs.laws.prepared_are_held.Goals as goal

pub returns : goal.returns
returns c = prepared_are_held

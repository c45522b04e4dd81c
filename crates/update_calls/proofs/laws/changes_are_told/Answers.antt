use Rattle.update_calls.proofs.Telling.{changes_are_told}
use Rattle.update_calls.proofs.laws.changes_are_told.Goals as goal

pub returns : goal.returns
returns c = changes_are_told

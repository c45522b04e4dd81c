use Rattle.signed_updates.proofs.Permitted.{finished_grow_journals}
use Rattle.signed_updates.proofs.laws.signed_updates_are_journaled.Goals as goal

pub returns : goal.returns
returns c = finished_grow_journals

use Rattle.signed_updates.proofs.Permitted.{prepared_are_permitted}
use Rattle.signed_updates.proofs.laws.signed_updates_are_permitted.Goals as goal

pub returns : goal.returns
returns c = prepared_are_permitted

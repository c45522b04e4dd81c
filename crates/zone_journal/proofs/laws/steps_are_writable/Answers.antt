use Rattle.zone_journal.proofs.Writables.{steps_are_writable}
use Rattle.zone_journal.proofs.laws.steps_are_writable.Goals as goal

pub returns : goal.returns
returns c = steps_are_writable

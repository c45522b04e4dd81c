use Rattle.std.proofs.Common.{rules}
use Rattle.zone_update.proofs.updating.run_beside.Goals as goal

pub returns-clause-none : goal.returns-clause-none
returns-clause-none c = (c.run.new.records, search rules)

use Rattle.incremental_laws.proofs.TakenWhole.{zones_are_taken, zones_make_the_version}
use Rattle.incremental_laws.proofs.laws.zones_are_taken.Goals as goal

pub returns-clause-taken : goal.returns-clause-taken
returns-clause-taken c = zones_are_taken c.zones_are_taken_whole.ensures

pub returns-clause-made : goal.returns-clause-made
returns-clause-made c = zones_make_the_version c.zones_are_taken_whole.ensures

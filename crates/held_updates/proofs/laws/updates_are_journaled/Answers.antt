use Rattle.held_updates.proofs.Grown.{journals_grow}
use Rattle.held_updates.proofs.Replayed.{journals_are_replayed}
use Rattle.held_updates.proofs.laws.updates_are_journaled.Goals as goal

pub returns-clause-grown : goal.returns-clause-grown
returns-clause-grown c = journals_grow

pub returns-clause-replayed : goal.returns-clause-replayed
returns-clause-replayed c = journals_are_replayed

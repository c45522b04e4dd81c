use Rattle.hashed_changes.specs.Places.{owners_of}
use Rattle.hashed_changes.proofs.Passing.{same_around}
use Rattle.hashed_changes.proofs.around.around_after.Goals as goal

pub returns-then-has_none_between-clause-around : goal.returns-then-has_none_between-clause-around
returns-then-has_none_between-clause-around c =
    same_around c.args.origin.now c.args.zone.now (owners_of c.args.affected.now) c.args.last c.args.owner.now c.has_none_between.result c.requires.last c.has_none_between.ensures c.if-has_none_between.true

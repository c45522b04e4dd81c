use Rattle.std.proofs.Common.{option_copied}
use Rattle.hashed_changes.specs.Places.{owners_of}
use Rattle.hashed_changes.proofs.NearestRead.{before_ascend, all_ascend, earlier, around}
use Rattle.hashed_changes.proofs.nearest.nearest_owner.Goals as goal

pub last_besides-earlier-requires-clause-ascend : goal.last_besides-earlier-requires-clause-ascend
last_besides-earlier-requires-clause-ascend c = before_ascend c.args.zone.now (owners_of c.args.affected.now) c.args.name.now c.denial_owners_before.result c.denial_owners_before.ensures.zone c.denial_owners_before.ensures.value

pub last_besides-requires-clause-ascend : goal.last_besides-requires-clause-ascend
last_besides-requires-clause-ascend c = all_ascend c.args.zone.now (owners_of c.args.affected.now) c.args.name.now c.last_denial_owners.result c.last_denial_owners.ensures.zone c.last_denial_owners.ensures.value

pub returns-in-Some : goal.returns-in-Some
returns-in-Some c =
    earlier c.args.zone.now (owners_of c.args.affected.now) c.args.name.now c.denial_owners_before.result c.in-Some.owner.now c.denial_owners_before.ensures.value c.in-Some.ensures

pub returns-in-None : goal.returns-in-None
returns-in-None c =
    around c.args.zone.now (owners_of c.args.affected.now) c.args.name.now c.denial_owners_before.result c.last_denial_owners.result (option_copied c.last_besides.result) c.denial_owners_before.ensures.value c.in-None.ensures
    c.last_denial_owners.ensures.value c.last_besides.ensures

use Rattle.zone_proto.specs.Names.{lower}
use Rattle.transfer_reading.proofs.NameTests.{at_or_above_by}
use Rattle.transfer_reading.proofs.stage.is_inside.Goals as goal

pub returns : goal.returns
returns c = at_or_above_by (lower c.args.origin.now) (lower c.args.name.now) c.zone_of.result c.zone_of.ensures

use Rattle.zone_response.proofs.NameTests.{below_test}
use Rattle.zone_response.proofs.names.is_at_or_above.Goals as goal

pub returns : goal.returns
returns c = below_test c.args.top.now c.args.name.now c.zone_of.result c.zone_of.ensures

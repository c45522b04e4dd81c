use Rattle.zone_denial.proofs.Sets.StandingCircles.{types_same}
use Rattle.zone_denial.proofs.nsec3_standing.has_types.Goals as goal

pub returns : goal.returns
returns c = λ same. types_same c.args.data.now.types c.args.types.now c.eq.result c.eq.ensures same

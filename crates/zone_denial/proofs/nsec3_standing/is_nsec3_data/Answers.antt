use Rattle.std.proofs.Common.{rules}
use Rattle.zone_denial.proofs.Sets.StandingCircles.{nsec3_data_is}
use Rattle.zone_denial.proofs.nsec3_standing.is_nsec3_data.Goals as goal

pub returns : goal.returns
returns c = λ same.
    nsec3_data_is c.args.data.now c.args.parameters.now c.args.next.now.digest c.args.name.now.name.now.types (search rules) (search rules) (search rules) (search rules) (search rules)
    (c.has_types.ensures same)

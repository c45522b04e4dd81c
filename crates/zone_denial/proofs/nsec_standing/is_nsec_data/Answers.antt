use Rattle.std.proofs.Common.{ap, sym, ◌∙◌, rules}
use Rattle.zone_denial.proofs.Sets.StandingSets.{nsec_data_is}
use Rattle.zone_denial.proofs.Sets.TypesJoined.{numbers}
use Rattle.zone_denial.proofs.nsec_standing.is_nsec_data.Goals as goal

pub returns-then-is_exactly : goal.returns-then-is_exactly
returns-then-is_exactly c = λ same. nsec_data_is c.args.data.now c.args.next.now _ (search rules) (sym (ap numbers c.as_slice.ensures) ∙ c.lists_types.ensures same)

use Rattle.zone_lookup.proofs.AdditionalLaws.{one_list}
use Rattle.zone_lookup.proofs.laws.additionals_are_one_list.Goals as goal

pub returns : goal.returns
returns c = one_list

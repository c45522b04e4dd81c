use Rattle.zone_map.proofs.Wildcards.{wildcard_is_of_closest_encloser}
use Rattle.zone_in_memory.proofs.laws.wildcard_is_of_closest_encloser.Goals as goal

pub returns : goal.returns
returns c = wildcard_is_of_closest_encloser

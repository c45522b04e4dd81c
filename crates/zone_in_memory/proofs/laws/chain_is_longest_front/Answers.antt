use Rattle.zone_map.proofs.Chains.{chain_is_longest_front, chain_has_at_most_8}
use Rattle.zone_in_memory.proofs.laws.chain_is_longest_front.Goals as goal

pub returns-clause-front : goal.returns-clause-front
returns-clause-front c = chain_is_longest_front

pub returns-clause-at_most : goal.returns-clause-at_most
returns-clause-at_most c = chain_has_at_most_8

use Rattle.zone_proto.specs.Keys.{key}
use Rattle.zone_map.proofs.Entries.{IsZone-last}
use Rattle.zone_map.proofs.new_sets.NewSets.from_entries.Goals as goal

pub invariant_of-result : goal.invariant_of-result
invariant_of-result c = IsZone-last c.args.entries.items c.in_ok-sets.sets.entries c.requires c.in_ok-sets.ensures.1 c.in_ok-sets.ensures.0

pub returns-clause-ok : goal.returns-clause-ok
returns-clause-ok c = λ n t. c.in_ok-sets.ensures.0 (key n t)

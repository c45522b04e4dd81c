use Rattle.zone_map.proofs.OtherOwners.{collected_others}
use Rattle.zone_map.proofs.owner_index.other_owners.Goals as goal

pub returns-clause-ok : goal.returns-clause-ok
returns-clause-ok c =
    collected_others c.args.sets.now c.in_ok-names.names.items c.in_ok-collect_names.field-0 c.in_ok-names.ensures.names c.in_ok-names.ensures.ordered c.in_ok-collect_names.ensures

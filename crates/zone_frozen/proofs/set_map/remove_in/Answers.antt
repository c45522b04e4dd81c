use Rattle.zone_frozen.proofs.UnderKeys.{same_key}
use Rattle.zone_frozen.proofs.set_map.remove_in.Goals as goal

pub returns-clause-key : goal.returns-clause-key
returns-clause-key c = same_key c.args.key.now c.remove_entry.result c.remove_entry.ensures.same_key

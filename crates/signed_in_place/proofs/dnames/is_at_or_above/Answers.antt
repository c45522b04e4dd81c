use Rattle.signed_in_place.proofs.BelowDnames.{at_or_above_by}
use Rattle.signed_in_place.proofs.dnames.is_at_or_above.Goals as goal

pub returns : goal.returns
returns c = at_or_above_by c.args.ancestor.now c.args.name.now c.zone_of.result c.zone_of.ensures

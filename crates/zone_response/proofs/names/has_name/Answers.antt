use Rattle.std.proofs.Common.{◌∙◌}
use Rattle.zone_lookup.proofs.Chasing.{asked}
use Rattle.zone_response.proofs.names.has_name.Goals as goal

pub returns : goal.returns
returns c = c.contains.ensures.value ∙ asked c.args.name.now c.args.names.now

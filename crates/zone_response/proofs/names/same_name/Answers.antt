use Rattle.std.proofs.Common.{◌∙◌}
use Rattle.zone_lookup.proofs.Chasing.{same_test}
use Rattle.zone_response.proofs.names.same_name.Goals as goal

pub returns : goal.returns
returns c = c.eq.ensures ∙ same_test c.args.b.now c.args.a.now

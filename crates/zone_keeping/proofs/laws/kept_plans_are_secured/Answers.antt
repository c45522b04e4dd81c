use Rattle.zone_keeping.proofs.KeptSecured.{kept_secured}
use Rattle.zone_keeping.proofs.laws.kept_plans_are_secured.Goals as goal

pub returns : goal.returns
returns c = kept_secured

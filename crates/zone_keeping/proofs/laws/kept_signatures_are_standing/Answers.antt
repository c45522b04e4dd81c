use Rattle.zone_keeping.proofs.Fits.{standing_found}
use Rattle.zone_keeping.proofs.laws.kept_signatures_are_standing.Goals as goal

pub returns : goal.returns
returns c = standing_found

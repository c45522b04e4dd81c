use Rattle.update_laws.proofs.UpdatedZones.{updated_is_unreferred}
use Rattle.update_laws.proofs.laws.updated_zones_are_unreferred.Goals as goal

pub returns : goal.returns
returns c = updated_is_unreferred

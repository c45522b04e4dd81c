use Rattle.zone_database.proofs.OwnDenials.{zones_have_own_denials}
use Rattle.zone_database.proofs.laws.zones_have_own_denials.Goals as goal

pub returns : goal.returns
returns c = zones_have_own_denials

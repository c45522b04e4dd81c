use Rattle.shown_zones.proofs.Starting.{shown_zones_are_zones}
use Rattle.shown_zones.proofs.laws.shown_zones_are_zones.Goals as goal

pub returns : goal.returns
returns c = shown_zones_are_zones

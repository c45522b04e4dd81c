use Rattle.std.proofs.Common.{length}
use Rattle.zone_origins.proofs.origins.+nearest.Given as goal

abbrev pub decreases-nearest : goal.decreases-nearest
decreases-nearest g l = length l.name.now

-- One step after the other, as loops take them
use Rattle.std.proofs.Common.{◌≡◌, Result, Err}
use Rattle.zone_map.specs.Zones.{Sets}
use Rattle.zone_difference.specs.Differences.{IsFault}
use Rattle.zone_difference.specs.declared.error.DifferenceError.{DifferenceError}
use Rattle.zone_difference.specs.declared.error.DifferenceError.TheVariants.{NotThere, AlreadyThere, Empty, Memory}

-- the fault of a step is that of all
pub passes : (e : DifferenceError) (made more : Result Sets DifferenceError) → IsFault e made → (made ≡ Err e → more ≡ Err e) → IsFault e more
passes Memory made more h f = tt
passes NotThere made more h f = f h
passes AlreadyThere made more h f = f h
passes Empty made more h f = f h

use Rattle.std.proofs.Common.{take}
use Rattle.zone_denial.specs.Nsec3Zones.{hash_with}
use Rattle.hashed_changes.specs.AffectedPlaces.{AreInTurn}
use Rattle.hashed_changes.proofs.affecting.places_in_turn.Given as goal

-- those so far are the places of the names so far
abbrev pub invariant-loop-name : goal.invariant-loop-name
invariant-loop-name g l = AreInTurn l.origin l.zone (hash_with (g.H.Nsec3Hash.digest_of l.hash) l.parameters) l.parameters.opt_out (take l.name-index l.names) l.places.items

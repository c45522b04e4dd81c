use Rattle.std.proofs.Common.{take}
use Rattle.zone_server.specs.ListedZones.{AreFirstPlaces}
use Rattle.zone_server.proofs.listed_zones.first_places.Given as goal

-- those of the zones so far
abbrev pub invariant-loop-place : goal.invariant-loop-place
invariant-loop-place g l = AreFirstPlaces {S = g.row.S.Denot} {H = g.row.H.Denot} (take l.place l.zones) l.places

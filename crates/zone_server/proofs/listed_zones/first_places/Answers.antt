use Rattle.std.proofs.Common.{arith}
use Rattle.zone_server.proofs.FirstPlaces.{one_more}
use Rattle.zone_server.proofs.listed_zones.first_places.Goals as goal

pub loop-place-preserved : goal.loop-place-preserved
loop-place-preserved g c =
    one_more c.args.zones.now c.loop-place.place c.index-zones-place.result c.loop-place.places c.put_first.new.places (omega arith) c.index-zones-place.is c.loop-place.invariant
    c.in_ok-put_first.ensures.ordered c.in_ok-put_first.ensures.put

use Rattle.zone_denial.specs.Nsec3Zones.{hash_with}
use Rattle.hashed_changes.proofs.AffectedPlaces.{one_more_affected}
use Rattle.hashed_changes.proofs.affecting.places_in_turn.Goals as goal

pub loop-name-preserved : goal.loop-name-preserved
loop-name-preserved g c =
    one_more_affected c.args.origin.now c.args.zone.now (hash_with (g.H.Nsec3Hash.digest_of c.args.hash.now) c.args.parameters.now) c.args.parameters.now.opt_out
    c.args.names.now c.loop-name.name-index c.name-item.result c.loop-name.places.items c.push.new.places.items c.in_ok-place.place
    c.loop-name-test.true c.name-item.is c.in_ok-push.ensures c.in_ok-place.ensures.place c.loop-name.invariant

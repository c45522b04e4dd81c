use Rattle.std.proofs.Common.{◌<◌, length, sym, arith}
use Rattle.zone_server.proofs.FirstPlaces.{first_within}
use Rattle.zone_server.proofs.listed_zones.ListedZones.at.Goals as goal

pub index-requires : goal.index-requires
index-requires g c =
    let within : c.in_ok-place.field-0.now < length c.self.inside.zones.items = first_within c.self.inside.zones.items c.self.inside.places c.args.origin.now c.in_ok-place.field-0.now c.self.invariant
    (sym c.in_ok-place.ensures.value) in
    omega (arith, within, c.self.inside.zones.ok.0)

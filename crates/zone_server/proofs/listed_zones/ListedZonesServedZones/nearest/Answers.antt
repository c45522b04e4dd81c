use Rattle.std.proofs.Common.{◌<◌, false, length, map, List, sym, subst, arith}
use Rattle.std.specs.Prelude.{None, option_map}
use Rattle.zone_origins.specs.Nearest as origins
use Rattle.zone_response.specs.declared.question.ServedZone.{ServedZone}
use Rattle.zone_response.specs.Queries.{Zone, zone_of}
use Rattle.zone_server.specs.ServedZones.{may_answer_for, IsNearest, IsNearestIfAny}
use Rattle.zone_server.proofs.NearestListed.{nearest_within, nearest_zone, no_zone}
use Rattle.zone_server.proofs.listed_zones.ListedZonesServedZones.nearest.Goals as goal

pub index-requires : goal.index-requires
index-requires g c =
    let es = c.self.inside.places.entries in
    let near : origins.IsNearest c.args.name.now es (c.in-Some.field-0-0.now, c.in-Some.place.now) = subst (λ o. origins.IsNearestIfAny c.args.name.now es (option_map (λ p. (p.0.now, p.1.now)) o)) c.in-Some.is c.in_ok-place.ensures in
    let within : c.in-Some.place.now < length c.self.inside.zones.items = nearest_within c.self.inside.zones.items c.self.inside.places c.self.invariant c.args.name.now (c.in-Some.field-0-0.now, c.in-Some.place.now) near in
    omega (arith, within, c.self.inside.zones.ok.0)

pub returns-in-Some : goal.returns-in-Some
returns-in-Some g c =
    let S : Type 0 = g.row.S.Denot in
    let H : Type 0 = g.row.H.Denot in
    let es = c.self.inside.places.entries in
    let near : origins.IsNearest c.args.name.now es (c.in-Some.field-0-0.now, c.in-Some.place.now) = subst (λ o. origins.IsNearestIfAny c.args.name.now es (option_map (λ p. (p.0.now, p.1.now)) o)) c.in-Some.is c.in_ok-place.ensures in
    let P : List (ServedZone S H) → Zone → Type 0 = λ zs z. IsNearest (may_answer_for false c.args.name.now) (map (zone_of {S = S} {H = H} g.S.Signer.signature_of g.H.Nsec3Hash.digest_of) zs) z in
    subst (λ (zs : List (ServedZone S H)). P zs (zone_of g.S.Signer.signature_of g.H.Nsec3Hash.digest_of c.lent.result)) c.self.view_is
    (subst (P c.self.inside.zones.items) (sym c.lent.ensures)
    (nearest_zone c.self.inside.zones.items c.self.inside.places c.self.invariant g.S.Signer.signature_of g.H.Nsec3Hash.digest_of c.args.name.now (c.in-Some.field-0-0.now, c.in-Some.place.now)
    c.index.result.now near c.index.ensures))

pub returns-in-None : goal.returns-in-None
returns-in-None g c =
    let S : Type 0 = g.row.S.Denot in
    let H : Type 0 = g.row.H.Denot in
    let es = c.self.inside.places.entries in
    let none : origins.IsNearestIfAny c.args.name.now es None = subst (λ o. origins.IsNearestIfAny c.args.name.now es (option_map (λ p. (p.0.now, p.1.now)) o)) c.in-None.is c.in_ok-place.ensures in
    subst (λ (zs : List (ServedZone S H)). IsNearestIfAny (may_answer_for false c.args.name.now) (map (zone_of {S = S} {H = H} g.S.Signer.signature_of g.H.Nsec3Hash.digest_of) zs) None) c.self.view_is
    (no_zone c.self.inside.zones.items c.self.inside.places c.self.invariant g.S.Signer.signature_of g.H.Nsec3Hash.digest_of c.args.name.now none)

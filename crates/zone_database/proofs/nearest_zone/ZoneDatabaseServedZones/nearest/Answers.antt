use Rattle.std.proofs.Common.{◌∙◌, ap, false, sym, subst}
use Rattle.std.specs.Prelude.{None, Some, option_map}
use Rattle.zone_origins.specs.Nearest as origins
use Rattle.zone_response.specs.Queries as queries
use Rattle.zone_server.specs.ServedZones.{may_answer_for, IsNearestIfAny}
use Rattle.zone_database.specs.Zones.{served_zone}
use Rattle.zone_database.proofs.UnderOrigins.{Entry, all_asked, nearest_asked}
use Rattle.zone_database.proofs.nearest_zone.ZoneDatabaseServedZones.nearest.Goals as goal

pub returns-in-Some : goal.returns-in-Some
returns-in-Some c =
    let es = c.args.self.now.zones.entries in
    let e : Entry = (c.in-Some.field-0-0.now, c.in-Some.stored.now) in
    let h : origins.IsNearestIfAny c.args.name.now es (Some e) = subst (λ o. origins.IsNearestIfAny c.args.name.now es (option_map (λ p. (p.0.now, p.1.now)) o)) c.in-Some.is c.in_ok-stored.ensures in
    subst (λ (z : queries.Zone). IsNearestIfAny (may_answer_for false c.args.name.now) (all_asked es) (Some z)) (sym (c.lent.ensures ∙ ap served_zone c.zone.ensures))
    (nearest_asked c.args.name.now es (Some e) c.args.self.now.under_origins h)

pub returns-in-None : goal.returns-in-None
returns-in-None c =
    let es = c.args.self.now.zones.entries in
    let h : origins.IsNearestIfAny c.args.name.now es None = subst (λ o. origins.IsNearestIfAny c.args.name.now es (option_map (λ p. (p.0.now, p.1.now)) o)) c.in-None.is c.in_ok-stored.ensures in
    nearest_asked c.args.name.now es None c.args.self.now.under_origins h

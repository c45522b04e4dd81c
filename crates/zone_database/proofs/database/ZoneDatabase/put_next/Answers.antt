use Rattle.std.proofs.Common.{◌≡◌, ◌∙◌, ap, sym, subst}
use Rattle.std.specs.Prelude.{map}
use Rattle.zone_origins.proofs.UnderNames.{put, put_under}
use Rattle.zone_database.specs.Databases.{with_zone, zones_in}
use Rattle.zone_database.specs.Origins.{AreUnderOrigins}
use Rattle.zone_database.specs.declared.zone.Zone.{Zone}
use Rattle.zone_database.proofs.UnderOrigins.{either_way}
use Rattle.zone_database.proofs.database.ZoneDatabase.put_next.Goals as goal

pub invariant_of-self : goal.invariant_of-self
invariant_of-self c =
    record {
      under_origins = either_way c.insert.result _ _ _ c.insert.ensures.entries c.insert.ensures.err
          (λ is. subst AreUnderOrigins (sym is)
          (put_under (λ (s : Zone). s) (λ (z : Zone). z.origin) c.args.self.now.zones.entries c.in-Ok.origin c.in_ok-stored.stored c.args.self.now.under_origins
          (ap (λ (z : Zone). z.origin) c.in_ok-stored.ensures ∙ sym (c.in-Ok.ensures.copy.ok ∙ c.origin.ensures))))
          (λ same. subst AreUnderOrigins (sym same) c.args.self.now.under_origins);
    }

pub returns-in-Ok-insert-clause-put : goal.returns-in-Ok-insert-clause-put
returns-in-Ok-insert-clause-put c =
    let is : c.in_ok-stored.stored ≡ c.args.next = c.in_ok-stored.ensures in
    ap (map (λ e. e.1)) c.in-Ok-insert.ensures.entries
    ∙ put (λ (s : Zone). s) (λ (z : Zone). z.origin) c.args.self.now.zones.entries c.in-Ok.origin c.in_ok-stored.stored c.args.self.now.under_origins
    (ap (λ (z : Zone). z.origin) is ∙ sym (c.in-Ok.ensures.copy.ok ∙ c.origin.ensures))
    ∙ ap (λ (z : Zone). with_zone z (zones_in c.args.self.now)) is

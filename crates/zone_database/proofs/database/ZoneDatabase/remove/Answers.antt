use Rattle.std.proofs.Common.{◌∙◌, ap, sym, subst}
use Rattle.std.specs.Prelude.{is_some, map}
use Rattle.zone_origins.proofs.UnderNames.{is_found, removed, remove_under}
use Rattle.zone_database.specs.Origins.{AreUnderOrigins}
use Rattle.zone_database.specs.declared.zone.Zone.{Zone}
use Rattle.zone_database.proofs.database.ZoneDatabase.remove.Goals as goal

pub invariant_of-self : goal.invariant_of-self
invariant_of-self c =
    record {
      under_origins = subst AreUnderOrigins (sym c.remove.ensures.entries) (remove_under (λ (s : Zone). s) (λ (z : Zone). z.origin) c.args.origin.now c.args.self.now.zones.entries c.args.self.now.under_origins);
    }

pub returns-clause-left : goal.returns-clause-left
returns-clause-left c = ap (map (λ e. e.1)) c.remove.ensures.entries ∙ removed (λ (s : Zone). s) (λ (z : Zone). z.origin) c.args.origin.now c.args.self.now.zones.entries c.args.self.now.under_origins

pub returns-clause-found : goal.returns-clause-found
returns-clause-found c = c.is_some.ensures ∙ ap is_some c.remove.ensures.value ∙ is_found (λ (s : Zone). s) (λ (z : Zone). z.origin) c.args.origin.now c.args.self.now.zones.entries c.args.self.now.under_origins

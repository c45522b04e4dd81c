use Rattle.std.proofs.Common.{◌∙◌}
use Rattle.zone_origins.proofs.UnderNames.{is_found}
use Rattle.zone_database.specs.declared.zone.Zone.{Zone}
use Rattle.zone_database.proofs.database.ZoneDatabase.contains.Goals as goal

pub returns : goal.returns
returns c =
    c.contains_key.ensures ∙ is_found (λ (s : Zone). s) (λ (z : Zone). z.origin) c.args.origin.now c.args.self.now.zones.entries c.args.self.now.under_origins

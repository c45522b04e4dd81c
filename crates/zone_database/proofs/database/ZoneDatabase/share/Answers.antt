use Rattle.std.proofs.Common.{◌∙◌, ap}
use Rattle.std.specs.Prelude.{option_map, Some}
use Rattle.zone_origins.proofs.UnderNames.{found}
use Rattle.zone_database.specs.declared.zone.Zone.{Zone}
use Rattle.zone_database.proofs.database.ZoneDatabase.share.Goals as goal

pub returns-in_ok-zone-in-Some : goal.returns-in_ok-zone-in-Some
returns-in_ok-zone-in-Some c =
    ap Some c.in_ok-zone-in-Some.ensures ∙ ap (option_map (λ (s : Zone). s)) c.in-Some.ensures.value ∙ found (λ (s : Zone). s) (λ (z : Zone). z.origin) c.args.origin.now c.args.self.now.zones.entries c.args.self.now.under_origins

pub returns-in-None : goal.returns-in-None
returns-in-None c =
    ap (option_map (λ (s : Zone). s)) c.in-None.ensures.value ∙ found (λ (s : Zone). s) (λ (z : Zone). z.origin) c.args.origin.now c.args.self.now.zones.entries c.args.self.now.under_origins

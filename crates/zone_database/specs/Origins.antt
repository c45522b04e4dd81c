-- Zones that are under their origins
use Rattle.std.specs.Prelude.{List}
use Rattle.zone_origins.specs.InOrder.{AreUnderNames}
use Rattle.zone_proto.specs.Names.{Name}
use Rattle.zone_database.specs.declared.zone.Zone.{Zone}

-- each zone is under its origin
abbrev pub AreUnderOrigins : List (Name × Zone) → Type 0
AreUnderOrigins es = AreUnderNames (λ (s : Zone). s.origin) es

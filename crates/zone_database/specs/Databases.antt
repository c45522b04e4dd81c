-- The zones that a server has
use Rattle.std.specs.Prelude.{Bool, List, map, is_some}
use Rattle.std.specs.List.{find}
use Rattle.std.specs.Ordering.{eq_by_cmp}
use Rattle.std.specs.Set.{remove_key}
use Rattle.zone_origins.specs.InOrder.{put_in_order}
use Rattle.zone_proto.specs.Names.{Name, name_cmp}
use Rattle.zone_database.specs.declared.database.ZoneDatabase.{ZoneDatabase}
use Rattle.zone_database.specs.declared.zone.Zone.{Zone}

-- the zones of a database in the canonical order of their origins, each of which it may share with others
abbrev pub zones_in : ZoneDatabase → List Zone
zones_in c = map (λ e. e.1) c.zones.entries

-- a zone is that of an origin, which is in lower case as its own is
abbrev pub begins_at : Name → Zone → Bool
begins_at origin z = eq_by_cmp name_cmp z.origin origin

-- whether there is a zone of an origin
abbrev pub has_zone : Name → List Zone → Bool
has_zone origin zs = is_some (find (begins_at origin) zs)

-- zones without the first one of an origin, if there is one
abbrev pub without : Name → List Zone → List Zone
without origin zs = remove_key (begins_at origin) zs

-- zones in the canonical order of their origins with one more at its place among them, or in place of the one of its
-- origin
abbrev pub with_zone : Zone → List Zone → List Zone
with_zone z zs = put_in_order (λ (y : Zone). y.origin) z zs

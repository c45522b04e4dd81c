-- What stands above a name of a zone
use Rattle.std.specs.Prelude.{ℕ, Bool, ◌&&◌, nat_lt, length}
use Rattle.std.specs.List.{list_any}
use Rattle.zone_proto.specs.Names.{Name, is_at_or_above, proper_ancestors}
use Rattle.zone_proto.specs.Types.{NS, DNAME}
use Rattle.zone_map.specs.Zones.{Sets, owns}

-- a name below the origin
abbrev pub is_below : Name → Name → Bool
is_below origin n = is_at_or_above origin n && nat_lt (length origin) (length n)

-- a name below the origin that owns NS is a zone cut (RFC 1034 section 4.2.1)
abbrev pub is_cut : Name → Sets → Name → Bool
is_cut origin m n = is_below origin n && owns m n NS

-- a zone cut above a name: what the name owns isn't the zone's own
abbrev pub is_below_cut : Name → Sets → Name → Bool
is_below_cut origin m n = list_any (λ a. is_cut origin m a) (proper_ancestors n)

-- a DNAME of the zone above a name: what the name owns is never answered (RFC 6672 section 2.4)
abbrev pub is_dname : Name → Sets → Name → Bool
is_dname origin m n = is_at_or_above origin n && owns m n DNAME

abbrev pub is_below_dname : Name → Sets → Name → Bool
is_below_dname origin m n = list_any (λ a. is_dname origin m a) (proper_ancestors n)

-- Which names get an NSEC3 set, as it is told of a name from what it and the names below it own
use Rattle.std.specs.Prelude.{Bool, ◌&&◌, not, filter}
use Rattle.std.specs.List.{list_any}
use Rattle.zone_proto.specs.Names.{Name, name_eq, is_above, is_at_or_above, proper_ancestors}
use Rattle.zone_proto.specs.Types.{NS, NSEC3}
use Rattle.zone_map.specs.Zones.{Sets, owns, names_of}
use Rattle.zone_denial.specs.Authority.{is_authoritative}
use Rattle.zone_denial.specs.Nsec3Names.{is_unsigned_delegation}

-- a zone cut is above n: as it is seen from n up
abbrev pub has_cut_above : Name → Sets → Name → Bool
has_cut_above origin m n = list_any (λ a. is_above origin a && owns m a NS) (proper_ancestors n)

-- opt-out leaves n out
abbrev pub is_left_out : Name → Sets → Bool → Name → Bool
is_left_out origin m opt_out n = opt_out && (not (name_eq n origin) && is_unsigned_delegation m n)

-- n counts: the zone is authoritative for it, and opt-out doesn't leave it out
abbrev pub counts : Name → Sets → Bool → Name → Bool
counts origin m opt_out n = is_authoritative origin m NSEC3 n && not (is_left_out origin m opt_out n)

-- a name at or below n counts
abbrev pub has_counted : Name → Sets → Bool → Name → Bool
has_counted origin m opt_out n = list_any (counts origin m opt_out) (filter (is_at_or_above n) (names_of m))

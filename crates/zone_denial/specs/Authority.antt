-- The names that a zone is authoritative for
use Rattle.std.specs.Prelude.{ℕ, Bool, ◌&&◌, not, ◌==◌, List, filter}
use Rattle.std.specs.List.{list_any}
use Rattle.zone_proto.specs.Names.{Name, is_above, is_at_or_above}
use Rattle.zone_proto.specs.Types.{NS}
use Rattle.zone_map.specs.Zones.{Sets, owners, types_at, names_of}

-- a zone cut is above n: a proper ancestor of n strictly below the origin owns NS (RFC 1034 section 4.2)
abbrev pub is_below_cut : Name → Sets → Name → Bool
is_below_cut origin m n = list_any (λ a. is_above origin a && is_above a n) (owners m NS)

-- n owns a set of another type than t
abbrev pub owns_besides : Sets → ℕ → Name → Bool
owns_besides m t n = list_any (λ u. not (u == t)) (types_at m n)

-- n has a denial of type t: it is at or below the origin, owns a set that isn't a denial itself, and no zone cut is
-- above it, so that glue has none (RFC 4035 section 2.3)
abbrev pub is_authoritative : Name → Sets → ℕ → Name → Bool
is_authoritative origin m t n = is_at_or_above origin n && (owns_besides m t n && not (is_below_cut origin m n))

-- these names, ascending, each as often as it owns a set
abbrev pub authoritative_names : Name → Sets → ℕ → List Name
authoritative_names origin m t = filter (is_authoritative origin m t) (names_of m)

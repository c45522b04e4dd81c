-- The names that get an NSEC3 set
use Rattle.std.specs.Prelude.{◌≡◌, ◌⊎◌, Bool, ◌&&◌, ◌||◌, not, List, ◌∷◌, filter, flat_map, ◌==◌}
use Rattle.std.specs.List.{list_all, Contains}
use Rattle.zone_proto.specs.Names.{Name, name_cmp, name_eq, is_above, IsAbove, IsAtOrAbove, proper_ancestors}
use Rattle.zone_proto.specs.Types.{NS, NSEC3}
use Rattle.zone_map.specs.Zones.{Sets, types_at}
use Rattle.zone_denial.specs.Authority.{authoritative_names}
use Rattle.zone_denial.specs.TypeLists.{in_order}

-- n owns no set but NS, NSEC3 aside: of the authoritative names, the delegations that have neither DS nor a set of another type (RFC 5155 section 6)
abbrev pub is_unsigned_delegation : Sets → Name → Bool
is_unsigned_delegation m n = list_all (λ t. (t == NS) || (t == NSEC3)) (types_at m n)

-- the authoritative names, with opt-out without those that own NS alone; the origin is no delegation of its own zone
abbrev pub counted_names : Name → Sets → Bool → List Name
counted_names origin m opt_out = filter (λ n. not (opt_out && (not (name_eq n origin) && is_unsigned_delegation m n))) (authoritative_names origin m NSEC3)

-- these with their ancestors strictly below the origin, empty non-terminals too, and the origin; ascending, each once
-- (RFC 5155 section 7.1)
abbrev pub nsec3_names : Name → Sets → Bool → List Name
nsec3_names origin m opt_out = in_order name_cmp (origin ∷ flat_map (λ n. n ∷ filter (is_above origin) (proper_ancestors n)) (counted_names origin m opt_out))

-- what these are: the origin, and strictly below it the names at which or below which an authoritative name stands that counts
abbrev pub IsNsec3Name : Name → Sets → Bool → Name → Type 0
IsNsec3Name origin m opt_out n = (n ≡ origin) ⊎ (IsAbove origin n × ((c : Name) × Contains (counted_names origin m opt_out) c × IsAtOrAbove n c))

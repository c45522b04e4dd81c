-- The type that is searched for a query of ANY (RFC 8482 section 4.1)
use Rattle.std.specs.Prelude.{ℕ, Bool, cond, List, [], ◌∷◌, ◌==◌, unwrap_or}
use Rattle.std.specs.List.{list_any}
use Rattle.std.specs.Option.{option_or}
use Rattle.std.specs.Ordering.{nat_cmp}
use Rattle.zone_proto.specs.Names.{Name}
use Rattle.zone_proto.specs.Order.{least}
use Rattle.zone_proto.specs.Types.{A, CNAME, MX, AAAA, ANY}
use Rattle.zone_map.specs.Zones.{Sets, types_at}
use Rattle.zone_map.specs.Direct.{least_owned}

-- the types that are commonly asked for, which come before all others (RFC 8482 section 4.3)
abbrev pub preferred_types : List ℕ
preferred_types = A ∷ CNAME ∷ MX ∷ AAAA ∷ []

abbrev pub is_preferred : ℕ → Bool
is_preferred t = list_any (λ u. t == u) preferred_types

-- the least of these that the name owns, else the least type that it owns, else A
abbrev pub any_type : Sets → Name → ℕ
any_type m n = unwrap_or (option_or (least_owned m n preferred_types) (least nat_cmp (types_at m n))) A

-- the type that is searched for a query of t
abbrev pub searched_type : Sets → Name → ℕ → ℕ
searched_type m n t = cond (t == ANY) (any_type m n) t

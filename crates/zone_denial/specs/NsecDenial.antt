-- The NSEC sets that answer a query for a denial, in any zone, whether its NSEC sets are a circle or not
use Rattle.std.specs.Prelude.{◌≡◌, IfSome, Bool, false, ◌&&◌, ◌||◌, cond, List, [], ◌∷◌, Option, Some, None, filter, filter_map, find, unwrap_or, option_and_then, option_to_list}
use Rattle.std.specs.List.{list_any}
use Rattle.std.specs.Option.{option_map_or}
use Rattle.zone_proto.specs.Names.{Name, lower, name_eq, name_cmp, is_above, is_at_or_above, proper_ancestors, wildcard_under}
use Rattle.zone_proto.specs.Order.{is_upto, is_before, greatest}
use Rattle.zone_proto.specs.Sets.{RRset}
use Rattle.zone_proto.specs.Types.{NSEC}
use Rattle.zone_map.specs.Zones.{Sets, set_at, owns, owners}
use Rattle.zone_denial.specs.NsecCircle.{next_of}

-- the next name n of an owner o comes after x, or goes back to o or before it, as that of the last owner does
abbrev pub goes_past : Name → Name → Name → Bool
goes_past o x n = is_before name_cmp x n || is_upto name_cmp n o

-- so does the one that the NSEC set of o says
abbrev pub says_past : Sets → Name → Name → Bool
says_past m x o = option_map_or (goes_past o x) (option_and_then next_of (set_at m o NSEC)) false

-- the NSEC set of o, if it does
abbrev pub set_past : Sets → Name → Name → Option RRset
set_past m x o = cond (says_past m x o) (set_at m o NSEC) None

-- an owner of NSEC reaches x: it isn't after x, and its next name goes past x
abbrev pub reaches : Sets → Name → Name → Bool
reaches m x o = is_upto name_cmp o x && says_past m x o

-- the greatest owner of NSEC that reaches x
abbrev pub closest_owner : Sets → Name → Option Name
closest_owner m x = greatest name_cmp (filter (reaches m x) (owners m NSEC))

-- its set
abbrev pub closest_nsec : Sets → Name → Option RRset
closest_nsec m x = option_and_then (λ o. set_at m o NSEC) (closest_owner m x)

-- if a set is there, it is the NSEC set of its owner
abbrev pub IsOwnersNsec : Sets → Option RRset → Type 0
IsOwnersNsec m set = IfSome set (λ s. set_at m (lower s.owner) NSEC ≡ Some s)

-- two owners that may be there, the one of them where they are the same
abbrev pub both_of : Option Name → Option Name → List Name
both_of None q = option_to_list q
both_of (Some a) None = a ∷ []
both_of (Some a) (Some b) = cond (name_eq a b) (b ∷ []) (a ∷ b ∷ [])

-- a name owns NSEC, or a name below it does
abbrev pub owns_nsec_at_or_below : Sets → Name → Bool
owns_nsec_at_or_below m a = list_any (is_at_or_above a) (owners m NSEC)

-- the closest encloser of x: its longest proper ancestor, not above the origin, that owns NSEC or has such a name below it, or else the origin (RFC 4592 section 3.3.1)
abbrev pub nsec_encloser : Name → Sets → Name → Name
nsec_encloser origin m x = unwrap_or (find (λ a. is_at_or_above origin a && owns_nsec_at_or_below m a) (proper_ancestors x)) origin

-- the name that a denial of x proves something of besides x: below the origin the wildcard at the closest encloser of
-- x; of the origin there is none, and of a name outside the zone it is the origin
abbrev pub proved_beside : Name → Sets → Name → Option Name
proved_beside origin m x = cond (is_above origin x) (Some (wildcard_under (nsec_encloser origin m x))) (cond (name_eq x origin) None (Some origin))

-- the owners of the sets that deny: x itself if it owns NSEC; else the closest owner of what is proved beside x, and then that of x (RFC 4035 sections 3.1.3.1 and 3.1.3.2)
abbrev pub denying_owners : Name → Sets → Name → List Name
denying_owners origin m x = cond (owns m x NSEC) (x ∷ []) (both_of (option_and_then (closest_owner m) (proved_beside origin m x)) (closest_owner m x))

-- these sets
abbrev pub nsec_denial : Name → Sets → Name → List RRset
nsec_denial origin m x = filter_map (λ o. set_at m o NSEC) (denying_owners origin m x)

-- What a search finds in a zone: the referral at a zone cut, and else the set of the name
use Rattle.std.specs.Prelude.{ℕ, Bool, ◌&&◌, ◌||◌, not, cond, List, [], ◌∷◌, ◌==◌, Option, None, filter, find, option_and_then, Some}
use Rattle.std.specs.List.{list_any}
use Rattle.std.specs.Option.{option_or}
use Rattle.std.specs.Ordering.{nat_cmp}
use Rattle.zone_proto.specs.Names.{Name, name_eq, is_root, suffixes}
use Rattle.zone_proto.specs.Order.{least}
use Rattle.zone_proto.specs.Sets.{RRset}
use Rattle.zone_proto.specs.Types.{A, NS, CNAME, SOA, AAAA, DS, ANAME}
use Rattle.zone_map.specs.Zones.{Sets, set_at, owns}

-- a owns NS and isn't the root: it is a zone cut or a zone's apex (RFC 1034 section 4.2.1)
abbrev pub is_delegated : Sets → Name → Bool
is_delegated m a = not (is_root a) && owns m a NS

-- the same for a query of n and t: a DS query at n itself passes n over where it owns no SOA, since DS is the parent's (RFC 4035 section 3.1.4.1)
abbrev pub is_delegated_for : Sets → Name → ℕ → Name → Bool
is_delegated_for m n t a = is_delegated m a && not ((t == DS) && name_eq a n && not (owns m n SOA))

-- the nearest of these: the longest suffix of n that is one
abbrev pub nearest_delegation : Sets → Name → ℕ → Option Name
nearest_delegation m n t = find (is_delegated_for m n t) (suffixes n)

-- the NS set there, unless the name owns SOA and so is an apex and no cut
abbrev pub referral_at : Sets → Option Name → Option RRset
referral_at m delegation = option_and_then (λ a. cond (owns m a SOA) None (set_at m a NS)) delegation

-- the referral for a query of n and t
abbrev pub referral : Sets → Name → ℕ → Option RRset
referral m n t = referral_at m (nearest_delegation m n t)

-- the types of addresses
abbrev pub is_address : ℕ → Bool
is_address t = (t == A) || (t == AAAA)

-- the types that answer for t: t itself, CNAME (RFC 1034 section 3.6.2) and, for addresses, ANAME
abbrev pub types_for : ℕ → List ℕ
types_for t = cond (is_address t) (t ∷ CNAME ∷ ANAME ∷ []) (t ∷ CNAME ∷ [])

-- a set of type u answers for t
abbrev pub answers_for : ℕ → ℕ → Bool
answers_for t u = list_any (λ v. u == v) (types_for t)

-- a set, if something is so
abbrev pub set_if : Bool → RRset → Option RRset
set_if b s = cond b (Some s) None

-- the least type of a list that n owns
abbrev pub least_owned : Sets → Name → List ℕ → Option ℕ
least_owned m n ts = least nat_cmp (filter (owns m n) ts)

-- the exact set: of the types that answer for t and that n owns, the set of the least
abbrev pub exact : Sets → Name → ℕ → Option RRset
exact m n t = option_and_then (set_at m n) (least_owned m n (types_for t))

-- the direct set: the referral, else the exact set
abbrev pub direct : Sets → Name → ℕ → Option RRset
direct m n t = option_or (referral m n t) (exact m n t)

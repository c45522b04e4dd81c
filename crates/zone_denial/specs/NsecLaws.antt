-- What the circle of NSEC sets promises to who reads a negative answer
use Rattle.std.specs.Prelude.{◌≡◌, ℕ, Bool, false, ◌⊎◌, List, [], ◌∷◌, ◌++◌, Some, None, IsTrue, IsFalse}
use Rattle.std.specs.List.{Contains}
use Rattle.zone_proto.specs.Names.{Name, name_cmp, lower, is_above, is_at_or_above, wildcard_under}
use Rattle.zone_proto.specs.Sets.{RRset}
use Rattle.zone_proto.specs.Types.{NSEC, RRSIG}
use Rattle.zone_map.specs.AnyTypes.{searched_type}
use Rattle.zone_map.specs.Wildcards.{found}
use Rattle.zone_map.specs.Zones.{Sets, IsZone, set_at, owns, types_at, owns_at_or_below}
use Rattle.zone_denial.specs.Authority.{is_below_cut, owns_besides}
use Rattle.zone_denial.specs.Covering.{covers}
use Rattle.zone_denial.specs.NsecCircle.{IsNsecCircle, next_of, types_of}
use Rattle.zone_denial.specs.NsecDenial.{nsec_encloser, nsec_denial}
use Rattle.zone_denial.specs.NsecSets.{HasNsecSets}

-- a zone that NSEC denies: its NSEC sets are a circle, and its origin, which owns another set, is on it
pub record IsNsecZone (origin : Name) (m : Sets) : Type 0 where
  pub zone : IsZone m
  pub circle : IsNsecCircle origin m
  pub on_circle : IsTrue (owns_besides m NSEC origin)

-- the last set of an answer says that n comes next, and covers x
pub record LastCovers (answer : List RRset) (x n : Name) : Type 0 where
  pub before : List RRset
  pub set : RRset
  pub last : answer ≡ before ++ set ∷ []
  pub next : next_of set ≡ Some n
  pub covers : IsTrue (covers name_cmp (lower set.owner) n x)

-- an answer is the NSEC set of x alone, or its last set covers x
abbrev pub FindsOrCovers : Sets → Name → List RRset → Type 0
FindsOrCovers m x answer = ((s : RRset) × (set_at m x NSEC ≡ Some s) × (answer ≡ s ∷ [])) ⊎ ((n : Name) × LastCovers answer x n)

-- a set of an answer covers x
pub record HasCover (answer : List RRset) (x : Name) : Type 0 where
  pub set : RRset
  pub among : Contains answer set
  pub next : Name
  pub said : next_of set ≡ Some next
  pub covers : IsTrue (covers name_cmp (lower set.owner) next x)

-- an answer has the NSEC set of x, where x has one, and else a set that covers x
pub record HasOwnOrCover (m : Sets) (x : Name) (answer : List RRset) : Type 0 where
  pub on : (s : RRset) → set_at m x NSEC ≡ Some s → Contains answer s
  pub off : IsFalse (owns m x NSEC) → HasCover answer x

-- a zone that is secured by NSEC sets has a circle of them
abbrev pub SecuredIsCircle : Type 0
SecuredIsCircle = (origin : Name) (m after : Sets) (ttl serial : ℕ) → IsZone m → lower origin ≡ origin → HasNsecSets origin m ttl serial after → IsNsecCircle origin after

-- the denial of a name of the zone has the name's own set, or covers the name
abbrev pub DenialFindsOrCovers : Type 0
DenialFindsOrCovers = (origin : Name) (m : Sets) → IsNsecZone origin m → (x : Name) → IsTrue (is_at_or_above origin x) → FindsOrCovers m x (nsec_denial origin m x)

-- where a name of the zone has no NSEC set, its denial has that of the wildcard at its closest encloser, or covers the
-- wildcard (RFC 4035 section 3.1.3.2)
abbrev pub DenialProvesWildcard : Type 0
DenialProvesWildcard = (origin : Name) (m : Sets) → IsNsecZone origin m → (x : Name) → IsTrue (is_at_or_above origin x) → IsFalse (owns m x NSEC)
    → HasOwnOrCover m (wildcard_under (nsec_encloser origin m x)) (nsec_denial origin m x)

-- what x owns is in the list of its NSEC set; and where it has no such set and is a name of the zone, it is below a
-- zone cut
pub record IsListed (origin : Name) (m : Sets) (x : Name) (t : ℕ) : Type 0 where
  pub on : (s : RRset) (types : List ℕ) → set_at m x NSEC ≡ Some s → types_of s ≡ Some types → Contains types t
  pub off : IsFalse (owns m x NSEC) → IsTrue (is_at_or_above origin x) → IsTrue (is_below_cut origin m x)

abbrev pub CircleListsAllOwned : Type 0
CircleListsAllOwned = (origin : Name) (m : Sets) → IsNsecZone origin m → (x : Name) (t : ℕ) → IsTrue (owns m x t) → IsListed origin m x t

-- where nothing is found for x and t: if neither x nor a name below it owns a set, x isn't on the circle; and if it is on the circle, t isn't in its list, RRSIG aside
pub record IsDenied (m : Sets) (x : Name) (t : ℕ) : Type 0 where
  pub name : owns_at_or_below m x ≡ false → IsFalse (owns m x NSEC)
  pub type' : (s : RRset) (types : List ℕ) → set_at m x NSEC ≡ Some s → types_of s ≡ Some types → Contains types t → t ≡ RRSIG

abbrev pub DenialsAgree : Type 0
DenialsAgree = (origin : Name) (m : Sets) → IsNsecZone origin m → (signed : Bool) (x : Name) (t : ℕ) → found m signed x (searched_type m x t) ≡ None → IsDenied m x t

-- where neither a name of the zone nor one below it owns a set, the denial covers the name, and its next name is neither that one nor below it (RFC 4035 section 5.4)
abbrev pub NoNextBelowAbsent : Type 0
NoNextBelowAbsent = (origin : Name) (m : Sets) → IsNsecZone origin m → (x : Name) → IsTrue (is_at_or_above origin x) → owns_at_or_below m x ≡ false
    → (n : Name) × LastCovers (nsec_denial origin m x) x n × IsFalse (is_at_or_above x n)

-- where a name of the zone is empty, has an owner below it and no zone cut above it, the denial covers the name, and
-- its next name is below it (RFC 4592 section 2.2.2)
abbrev pub NextBelowEmpty : Type 0
NextBelowEmpty = (origin : Name) (m : Sets) → IsNsecZone origin m → (x : Name) → IsTrue (is_at_or_above origin x) → types_at m x ≡ [] → owns_at_or_below m x ≡ Bool.true → IsFalse (is_below_cut origin m x)
    → (n : Name) × LastCovers (nsec_denial origin m x) x n × IsTrue (is_above x n)

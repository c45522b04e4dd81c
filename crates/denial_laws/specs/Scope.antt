-- Which names and types of a zone are judged, and what a validator reads in the denial of a name
use Rattle.std.specs.Prelude.{◌≡◌, ◌≢◌, ℕ, Bool, ◌&&◌, ◌||◌, not, List, flat_map, Some, IsTrue, IsFalse}
use Rattle.std.specs.List.{Contains}
use Rattle.zone_proto.specs.Names.{Name, name_eq, is_root, is_at_or_above, IsAtOrAbove, IsAbove, wildcard_under}
use Rattle.zone_proto.specs.Sets.{RRset}
use Rattle.zone_proto.specs.Types.{NS, SOA, DS, RRSIG, NSEC, NSEC3, ANY, DNAME}
use Rattle.zone_map.specs.Zones.{Sets, set_at, owns}
use Rattle.zone_denial.specs.Authority.{is_below_cut}
use Rattle.zone_denial.specs.NsecDenial.{nsec_encloser, nsec_denial}
use Rattle.zone_denial.specs.NsecLaws.{IsNsecZone}
use Rattle.zone_denial.specs.WildcardLaws.{OwnsNone}
use Rattle.denial_validation.specs.NsecRecords.{NsecRecord, nsec_records}

-- ---- the records

-- what a validator reads in sets
abbrev pub read : List RRset → List NsecRecord
read sets = nsec_records (flat_map (λ s. s.records) sets)

-- and so in those that deny x
abbrev pub denial_records : Name → Sets → Name → List NsecRecord
denial_records origin m x = read (nsec_denial origin m x)

-- each of the records is one of an NSEC set of the zone
abbrev pub AreOfZone : Sets → List NsecRecord → Type 0
AreOfZone m rs = (r : NsecRecord) → Contains rs r → (o : Name) × (s : RRset) × (set_at m o NSEC ≡ Some s) × Contains (nsec_records s.records) r

-- ---- the names and the types

-- nothing at the origin or above it refers: what owns NS there owns SOA too, as the apex of a zone does
abbrev pub Unreferred : Name → Sets → Type 0
Unreferred origin m = (a : Name) → IsAtOrAbove a origin → IsTrue (owns m a NS) → IsTrue (owns m a SOA)

-- a name of a zone that NSEC denies, with no sets of NSEC3, which nothing refers elsewhere: no zone cut is above it,
-- nor a DNAME, and the origin is no delegation
pub record IsInScope (origin : Name) (m : Sets) (x : Name) : Type 0 where
  pub zone : IsNsecZone origin m
  pub one_kind : OwnsNone m NSEC3
  pub unreferred : Unreferred origin m
  pub inside : IsTrue (is_at_or_above origin x)
  pub uncut : IsFalse (is_below_cut origin m x)
  pub no_dname : (a : Name) → IsAbove a x → IsFalse (owns m a DNAME)

-- the parent denies DS of x: x is the apex of a zone, as SOA tells or since it is the origin, and isn't the root (RFC 4035 section 3.1.4.1)
abbrev pub is_parents_ds : Name → Sets → Name → Bool
is_parents_ds origin m x = (owns m x SOA || name_eq x origin) && not (is_root x)

-- a type whose absence at x can be shown: not RRSIG, which every name on the circle owns; not ANY, which any set
-- answers; and DS where neither x nor the wildcard at its closest encloser is one of which the parent denies it
pub record IsTypeInScope (origin : Name) (m : Sets) (x : Name) (t : ℕ) : Type 0 where
  pub no_signature : t ≢ RRSIG
  pub one_type : t ≢ ANY
  pub no_apex : t ≡ DS → IsFalse (is_parents_ds origin m x) × IsFalse (is_parents_ds origin m (wildcard_under (nsec_encloser origin m x)))

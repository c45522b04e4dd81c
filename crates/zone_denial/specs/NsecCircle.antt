-- The circle of a zone's NSEC sets
use Rattle.std.specs.Prelude.{◌≡◌, ℕ, List, [], ◌∷◌, length, map, Option, Some, None, filter, unwrap_or, option_map}
use Rattle.zone_proto.specs.declared.rdata.RData.{RData}
use Rattle.zone_proto.specs.declared.rdata.RData.TheVariants as V
use Rattle.zone_proto.specs.declared.rdata.denial.NSEC.{NSEC as NsecData}
use Rattle.zone_proto.specs.declared.record.Record.{Record}
use Rattle.zone_proto.specs.Names.{Name, name_cmp, lower}
use Rattle.zone_proto.specs.Order.{is_before, least}
use Rattle.zone_proto.specs.Sets.{RRset}
use Rattle.zone_proto.specs.Types.{NSEC}
use Rattle.zone_map.specs.Zones.{Sets, set_at, owns}
use Rattle.zone_denial.specs.Authority.{is_authoritative, authoritative_names}
use Rattle.zone_denial.specs.TypeLists.{nsec_types}

-- NSEC data
abbrev pub nsec_of : RData → Option NsecData
nsec_of (V.NSEC a) = Some a
nsec_of _ = None

-- NSEC data of a list's first record
abbrev pub first_nsec : List Record → Option NsecData
first_nsec [] = None
first_nsec (r ∷ rs) = nsec_of r.rdata

-- the next name that a set's first record says, in lower case
abbrev pub next_of : RRset → Option Name
next_of s = option_map (λ (a : NsecData). lower a.next_domain_name) (first_nsec s.records)

-- the types that it lists
abbrev pub types_of : RRset → Option (List ℕ)
types_of s = option_map (λ (a : NsecData). map (λ t. t.0) a.types) (first_nsec s.records)

-- the next name on the circle: the least authoritative name after n, and after the last one the origin (RFC 4034 section 4.1.1)
abbrev pub nsec_next : Name → Sets → Name → Name
nsec_next origin m n = unwrap_or (least name_cmp (filter (is_before name_cmp n) (authoritative_names origin m NSEC))) origin

-- the NSEC set of a name on the circle: a single record, with the next name and the types of its own (RFC 4034 section 4.1)
pub record IsOnCircle (origin : Name) (m : Sets) (n : Name) (s : RRset) : Type 0 where
  pub single : length s.records ≡ 1
  pub next : next_of s ≡ Some (nsec_next origin m n)
  pub list : types_of s ≡ Some (nsec_types m n)

-- the NSEC sets of a zone are a circle: one for each authoritative name and no other, each as the circle has it (RFC 4035 section 2.3)
pub record IsNsecCircle (origin : Name) (m : Sets) : Type 0 where
  pub one_for_each : (n : Name) → owns m n NSEC ≡ is_authoritative origin m NSEC n
  pub each : (n : Name) (s : RRset) → set_at m n NSEC ≡ Some s → IsOnCircle origin m n s

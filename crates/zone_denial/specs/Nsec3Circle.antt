-- The circle of a zone's NSEC3 sets
use Rattle.std.specs.Prelude.{◌≡◌, ◌≢◌, ◌⊎◌, ℕ, not, cond, List, [], ◌∷◌, length, map, Option, Some, None, filter, filter_map, ◌==◌, IsTrue}
use Rattle.std.specs.List.{Contains}
use Rattle.std.specs.Ordering.{nat_cmp}
use Rattle.zone_proto.specs.declared.rdata.RData.{RData}
use Rattle.zone_proto.specs.declared.rdata.RData.TheVariants as V
use Rattle.zone_proto.specs.declared.rdata.denial.NSEC3.{NSEC3 as Nsec3Data}
use Rattle.zone_proto.specs.declared.rdata.denial.NSEC3PARAM.{NSEC3PARAM as Nsec3Parameters}
use Rattle.zone_proto.specs.declared.record.Record.{Record}
use Rattle.zone_proto.specs.HashedOwners.{hashed_owner}
use Rattle.zone_proto.specs.Names.{Name, name_eq, octets_cmp}
use Rattle.zone_proto.specs.Sets.{RRset}
use Rattle.zone_proto.specs.Types.{RRSIG, NSEC3, NSEC3PARAM}
use Rattle.zone_map.specs.Zones.{Sets, set_at, owns, types_at}
use Rattle.zone_denial.specs.Authority.{owns_besides}
use Rattle.zone_denial.specs.Covering.{next_around}
use Rattle.zone_denial.specs.Nsec3Names.{nsec3_names}
use Rattle.zone_denial.specs.TypeLists.{in_order}

-- ---- what a set says

-- NSEC3 data
abbrev pub nsec3_of : RData → Option Nsec3Data
nsec3_of (V.NSEC3 a) = Some a
nsec3_of _ = None

-- NSEC3 data of a list's first record
abbrev pub first_nsec3 : List Record → Option Nsec3Data
first_nsec3 [] = None
first_nsec3 (r ∷ rs) = nsec3_of r.rdata

-- NSEC3 data of a zone's parameters, a next digest and types
abbrev pub nsec3_data : Nsec3Parameters → List ℕ → List ℕ → Nsec3Data
nsec3_data parameters next types = record {
  algorithm = parameters.algorithm;
  opt_out = parameters.opt_out;
  iterations = parameters.iterations;
  salt = parameters.salt;
  next_hashed_owner_name = next;
  types = map (λ t. record { 0 = t }) types;
}

-- ---- what it has to say

-- types, with RRSIG if there is one
abbrev pub with_rrsig : List ℕ → List ℕ
with_rrsig [] = []
with_rrsig (t ∷ ts) = in_order nat_cmp (RRSIG ∷ t ∷ ts)

-- what the NSEC3 set of n lists: the types that n owns, NSEC3 aside, and RRSIG where it owns one, so nothing for an
-- empty non-terminal; at the origin NSEC3PARAM and RRSIG always (RFC 5155 sections 3.1.8 and 7.1)
abbrev pub nsec3_types : Name → Sets → Name → List ℕ
nsec3_types origin m n =
    let own = filter (λ t. not (t == NSEC3)) (types_at m n) in
    cond (name_eq n origin) (in_order nat_cmp (NSEC3PARAM ∷ RRSIG ∷ own)) (with_rrsig own)

-- what that is: a type that n owns and that isn't NSEC3; RRSIG, at the origin or where n owns such a type; and NSEC3PARAM at the origin
abbrev pub IsNsec3Type : Name → Sets → Name → ℕ → Type 0
IsNsec3Type origin m n t = (IsTrue (owns m n t) × (t ≢ NSEC3)) ⊎ (((t ≡ RRSIG) × ((n ≡ origin) ⊎ IsTrue (owns_besides m NSEC3 n))) ⊎ ((t ≡ NSEC3PARAM) × (n ≡ origin)))

-- the digests that a hash has of names
abbrev pub digests : (Name → Option (List ℕ)) → List Name → List (List ℕ)
digests hash ns = filter_map hash ns

-- the next digest on a circle of digests: the least that is greater than d, and after the greatest the least of all (RFC 5155 section 3.1.7)
abbrev pub next_digest : List (List ℕ) → List ℕ → List ℕ
next_digest ds d = next_around octets_cmp ds d

-- ---- the circle

module _ (origin : Name) (m : Sets) (hash : Name → Option (List ℕ)) (parameters : Nsec3Parameters) where
  -- the NSEC3 set of a name of this digest: a single record, with the zone's parameters, the next digest and the types of the name
  pub record IsOnNsec3Circle (n : Name) (d : List ℕ) (s : RRset) : Type 0 where
    pub single : length s.records ≡ 1
    pub says : first_nsec3 s.records ≡ Some (nsec3_data parameters (next_digest (digests hash (nsec3_names origin m parameters.opt_out)) d) (nsec3_types origin m n))

  -- the NSEC3 sets of a zone are a circle: one for each of the names and no other, under its hashed owner, each as the circle has it; and the origin owns NSEC3PARAM, of any parameters (RFC 5155 section 7.1)
  pub record IsNsec3Circle : Type 0 where
    pub one_for_each : (n : Name) (d : List ℕ) → Contains (nsec3_names origin m parameters.opt_out) n → hash n ≡ Some d
        → (s : RRset) × (set_at m (hashed_owner origin d) NSEC3 ≡ Some s) × IsOnNsec3Circle n d s
    pub no_other : (o : Name) → IsTrue (owns m o NSEC3)
        → (n : Name) × (d : List ℕ) × Contains (nsec3_names origin m parameters.opt_out) n × (hash n ≡ Some d) × (o ≡ hashed_owner origin d)
    pub announced : IsTrue (owns m origin NSEC3PARAM)

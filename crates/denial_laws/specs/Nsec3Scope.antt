-- Which names and types of a zone that NSEC3 denies are judged, and what a validator reads in the denial of a name
use Rattle.std.specs.Prelude.{◌≡◌, ◌≢◌, ℕ, Bool, List, [], flat_map, Option, Some, IsTrue, IsFalse}
use Rattle.std.specs.List.{Contains}
use Rattle.zone_proto.specs.declared.rdata.denial.NSEC3PARAM.{NSEC3PARAM as Nsec3Parameters}
use Rattle.zone_proto.specs.Names.{Name, is_at_or_above, IsAbove, wildcard_under}
use Rattle.zone_proto.specs.Sets.{RRset}
use Rattle.zone_proto.specs.Types.{DS, RRSIG, NSEC, NSEC3, ANY, DNAME}
use Rattle.zone_map.specs.Zones.{Sets, set_at, owns}
use Rattle.zone_denial.specs.Authority.{is_below_cut}
use Rattle.zone_denial.specs.Nsec3Denial.{encloser_on}
use Rattle.zone_denial.specs.Nsec3Names.{nsec3_names}
use Rattle.zone_denial.specs.Nsec3Zones.{IsNsec3Zone, IsHashed, HasDistinctDigests}
use Rattle.zone_denial.specs.WildcardLaws.{OwnsNone}
use Rattle.denial_validation.specs.Nsec3Records.{Nsec3Record, nsec3_records}
use Rattle.denial_laws.specs.Scope.{Unreferred, is_parents_ds}

-- ---- the records

-- what a validator reads in sets
abbrev pub read_nsec3_sets : List RRset → List Nsec3Record
read_nsec3_sets sets = nsec3_records (flat_map (λ s. s.records) sets)

-- each of the records is one of an NSEC3 set of the zone
abbrev pub AreNsec3OfZone : Sets → List Nsec3Record → Type 0
AreNsec3OfZone m rs = (r : Nsec3Record) → Contains rs r → (o : Name) × (s : RRset) × (set_at m o NSEC3 ≡ Some s) × Contains (nsec3_records s.records) r

-- ---- the names and the types

-- a name of a zone that NSEC3 denies, without opt-out and with no sets of NSEC: neither a zone cut nor a DNAME is above
-- it, it owns no NSEC3 set, nothing at the origin or above it refers, and the hash tells the names apart that a denial
-- hashes
pub record IsInNsec3Scope (origin : Name) (m : Sets) (hash : Name → Option (List ℕ)) (parameters : Nsec3Parameters) (x : Name) : Type 0 where
  pub zone : IsNsec3Zone origin m hash parameters
  pub all_in : IsFalse parameters.opt_out
  pub one_kind : OwnsNone m NSEC
  pub apart : HasDistinctDigests (IsHashed origin m parameters.opt_out x) hash
  pub inside : IsTrue (is_at_or_above origin x)
  pub uncut : IsFalse (is_below_cut origin m x)
  pub no_dname : (a : Name) → IsAbove a x → IsFalse (owns m a DNAME)
  pub unreferred : Unreferred origin m
  pub no_hashed_owner : IsFalse (owns m x NSEC3)

-- a type whose absence at x can be shown, by names that have NSEC3 sets: neither RRSIG nor ANY; NSEC where neither x nor
-- the wildcard at its closest encloser owns one beside the chain; and DS where neither of the two is one of which the
-- parent denies it
pub record IsTypeInNsec3ScopeOn (origin : Name) (beside m : Sets) (names : List Name) (x : Name) (t : ℕ) : Type 0 where
  pub no_signature : t ≢ RRSIG
  pub one_type : t ≢ ANY
  pub none_beside : t ≡ NSEC → IsFalse (owns beside x NSEC)
  pub no_wildcard_beside : t ≡ NSEC → (e : Name) → encloser_on names x ≡ Some e → IsFalse (owns beside (wildcard_under e) NSEC)
  pub no_apex : t ≡ DS → IsFalse (is_parents_ds origin m x)
  pub no_wildcard_apex : t ≡ DS → (e : Name) → encloser_on names x ≡ Some e → IsFalse (is_parents_ds origin m (wildcard_under e))

-- so by those of the circle, with nothing beside it
abbrev pub IsTypeInNsec3Scope : Name → Sets → Bool → Name → ℕ → Type 0
IsTypeInNsec3Scope origin m opt_out x t = IsTypeInNsec3ScopeOn origin [] m (nsec3_names origin m opt_out) x t

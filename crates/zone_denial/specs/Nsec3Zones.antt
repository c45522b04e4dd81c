-- Zones that NSEC3 denies, and what a denial in them asks of the hash
use Rattle.std.specs.Prelude.{◌≡◌, ◌≢◌, ℕ, ◌⊎◌, Bool, List, [], length, Option, Some}
use Rattle.std.specs.List.{AllByRecursion, Contains}
use Rattle.zone_proto.specs.declared.rdata.denial.NSEC3PARAM.{NSEC3PARAM as Nsec3Parameters}
use Rattle.zone_proto.specs.Names.{Name, IsAtOrAbove, wildcard_under}
use Rattle.zone_proto.specs.Ranges.{IsOctet}
use Rattle.zone_map.specs.Zones.{Sets, IsZone}
use Rattle.zone_denial.specs.Nsec3Circle.{IsNsec3Circle}
use Rattle.zone_denial.specs.Nsec3Denial.{encloser_on}
use Rattle.zone_denial.specs.Nsec3Names.{nsec3_names}

-- of a hash by algorithm, salt, name and iterations, its digest of a name with a zone's parameters (RFC 5155 section 5)
abbrev pub hash_with : (ℕ → List ℕ → Name → ℕ → Option (List ℕ)) → Nsec3Parameters → Name → Option (List ℕ)
hash_with digest_of parameters n = digest_of parameters.algorithm parameters.salt n parameters.iterations

-- a zone that NSEC3 denies: its NSEC3 sets are a circle, and its origin isn't the root
pub record IsNsec3Zone (origin : Name) (m : Sets) (hash : Name → Option (List ℕ)) (parameters : Nsec3Parameters) : Type 0 where
  pub zone : IsZone m
  pub circle : IsNsec3Circle origin m hash parameters
  pub below_root : origin ≢ []

-- a hash tells names apart: it answers for each of them, by digests that differ and are of one length
pub record HasDistinctDigests (IsNamed : Name → Type 0) (hash : Name → Option (List ℕ)) : Type 0 where
  pub digest : Name → List ℕ
  pub answers : (n : Name) → IsNamed n → hash n ≡ Some (digest n)
  pub apart : (n k : Name) → IsNamed n → IsNamed k → digest n ≡ digest k → n ≡ k
  pub alike : (n k : Name) → IsNamed n → IsNamed k → length (digest n) ≡ length (digest k)
  pub octets : (n : Name) → IsNamed n → AllByRecursion IsOctet (digest n)

module _ (names : List Name) (x : Name) where
  -- the names that are hashed for a denial of x by names that have NSEC3 sets: x and its ancestors up to its closest
  -- encloser, and the wildcard at that
  abbrev pub IsAskedOn : Name → Type 0
  IsAskedOn n = (a : Name) × (encloser_on names x ≡ Some a) × ((IsAtOrAbove n x × IsAtOrAbove a n) ⊎ (n ≡ wildcard_under a))

  -- with these names: a denial of x asks of the hash that it tells these apart
  abbrev pub IsHashedOn : Name → Type 0
  IsHashedOn n = Contains names n ⊎ IsAskedOn n

-- ---- on a circle

module _ (origin : Name) (m : Sets) (opt_out : Bool) where
  -- its names
  abbrev pub IsCircleName : Name → Type 0
  IsCircleName n = Contains (nsec3_names origin m opt_out) n

  -- those that are hashed for a denial of x
  abbrev pub IsAsked : Name → Name → Type 0
  IsAsked x = IsAskedOn (nsec3_names origin m opt_out) x

  abbrev pub IsHashed : Name → Name → Type 0
  IsHashed x = IsHashedOn (nsec3_names origin m opt_out) x

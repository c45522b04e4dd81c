-- What a zone has that gets its sets of denial with trimmed lists
use Rattle.std.specs.Prelude.{◌≡◌, ℕ, Bool, ◌==◌, option_map, IsTrue}
use Rattle.zone_proto.specs.Names.{Name, lower}
use Rattle.zone_proto.specs.Sets.{RRset}
use Rattle.zone_proto.specs.Types.{SOA, NSEC}
use Rattle.zone_map.specs.Zones.{Sets, IsZone, set_at, owns}
use Rattle.zone_denial.specs.Chains.{IsNsecChain}
use Rattle.zone_denial.specs.NsecSets.{nsec_set_at}
use Rattle.zone_trimming.specs.Trimming.{trimmed_at}

-- a map in which the NSEC sets of a zone m, with trimmed lists, stand in place of those that were there, signatures
-- aside, and in which each name owns the same other types as before
pub record HasTrimmedNsecSets (origin : Name) (m : Sets) (ttl serial : ℕ) (after : Sets) : Type 0 where
  pub others : (n : Name) (t : ℕ) → (t == NSEC) ≡ Bool.false → owns after n t ≡ owns m n t
  pub denials : (n : Name) → option_map (λ (s : RRset). s.records) (set_at after n NSEC) ≡ option_map (λ (s : RRset). s.records) (trimmed_at (nsec_set_at origin m ttl serial) n NSEC)

-- its NSEC sets are a chain, where its origin owns an SOA
abbrev pub TrimmedIsNsecChain : Type 0
TrimmedIsNsecChain = (origin : Name) (m after : Sets) (ttl serial : ℕ) → IsZone m → IsZone after → lower origin ≡ origin → IsTrue (owns m origin SOA)
    → HasTrimmedNsecSets origin m ttl serial after → IsNsecChain origin after

-- What a zone has that gets its NSEC3 sets with trimmed lists
use Rattle.std.specs.Prelude.{◌≡◌, ℕ, Bool, ◌==◌, ◌&&◌, List, Option, option_map, IsTrue}
use Rattle.zone_proto.specs.declared.rdata.denial.NSEC3PARAM.{NSEC3PARAM as Nsec3Parameters}
use Rattle.zone_proto.specs.Names.{Name, name_eq}
use Rattle.zone_proto.specs.Sets.{RRset}
use Rattle.zone_proto.specs.Types.{SOA, NSEC3, NSEC3PARAM}
use Rattle.zone_map.specs.Zones.{Sets, IsZone, set_at, owns}
use Rattle.zone_denial.specs.Chains.{IsNsec3Chain}
use Rattle.zone_denial.specs.Nsec3Names.{nsec3_names}
use Rattle.zone_denial.specs.Nsec3Sets.{nsec3_sets_at}
use Rattle.zone_denial.specs.Nsec3Zones.{IsCircleName, HasDistinctDigests}
use Rattle.zone_trimming.specs.Trimming.{trimmed_at}

-- a map in which the NSEC3 sets of a zone m, with trimmed lists, stand in place of those that were there, signatures aside, and in
-- which each name owns the same other types as before, NSEC3PARAM at the origin aside, which it owns
pub record HasTrimmedNsec3Sets (origin : Name) (m : Sets) (hash : Name → Option (List ℕ)) (parameters : Nsec3Parameters) (ttl serial : ℕ) (after : Sets) : Type 0 where
  pub others : (n : Name) (t : ℕ) → (t == NSEC3) ≡ Bool.false → (t == NSEC3PARAM) && name_eq n origin ≡ Bool.false → owns after n t ≡ owns m n t
  pub denials : (n : Name)
      → option_map (λ (s : RRset). s.records) (set_at after n NSEC3) ≡ option_map (λ (s : RRset). s.records) (trimmed_at (nsec3_sets_at origin m hash parameters ttl serial) n NSEC3)
  pub announced : IsTrue (owns after origin NSEC3PARAM)

-- its NSEC3 sets are a chain, where its origin owns an SOA and the hash tells the names apart that get one; `beside` is all that may
-- be there too
abbrev pub TrimmedIsNsec3Chain : Type 0
TrimmedIsNsec3Chain = (origin : Name) (beside m after : Sets) (hash : Name → Option (List ℕ)) (parameters : Nsec3Parameters) (ttl serial : ℕ)
    → IsZone after → IsTrue (owns m origin SOA) → HasTrimmedNsec3Sets origin m hash parameters ttl serial after
    → HasDistinctDigests (IsCircleName origin m parameters.opt_out) hash → IsNsec3Chain origin beside after hash parameters (nsec3_names origin after parameters.opt_out)

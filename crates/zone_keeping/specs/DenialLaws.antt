-- The denials that a zone gets follow from its names and types alone
use Rattle.std.specs.Prelude.{◌≡◌, ℕ, Bool, List, Option}
use Rattle.std.specs.Map.{keys_of}
use Rattle.zone_proto.specs.declared.rdata.denial.NSEC3PARAM.{NSEC3PARAM as Nsec3Parameters}
use Rattle.zone_proto.specs.Names.{Name}
use Rattle.zone_proto.specs.Types.{NSEC}
use Rattle.zone_map.specs.Zones.{Sets, types_at}
use Rattle.zone_denial.specs.Authority.{authoritative_names}
use Rattle.zone_denial.specs.NsecSets.{nsec_set, nsec_set_at}
use Rattle.zone_denial.specs.Nsec3Sets.{nsec3_set_at}

-- two zones own the same types at the same names
abbrev pub OwnTheSame : Sets → Sets → Type 0
OwnTheSame m other = keys_of m ≡ keys_of other

-- they get the same NSEC sets, and the same NSEC3 sets
abbrev pub NsecSetsFollowNames : Type 0
NsecSetsFollowNames =
    (origin : Name) (m other : Sets) (ttl serial : ℕ) → OwnTheSame m other → (n : Name) (t : ℕ) → nsec_set_at origin m ttl serial n t ≡ nsec_set_at origin other ttl serial n t

abbrev pub Nsec3SetsFollowNames : Type 0
Nsec3SetsFollowNames =
    (origin : Name) (m other : Sets) (hash : Name → Option (List ℕ)) (parameters : Nsec3Parameters) (ttl serial : ℕ) → OwnTheSame m other
    → (o : Name) → nsec3_set_at origin m hash parameters ttl serial o ≡ nsec3_set_at origin other hash parameters ttl serial o

-- where types changed, but no name came or went, the NSEC set of a name changes only if its own types did
abbrev pub NsecSetsFollowTypes : Type 0
NsecSetsFollowTypes =
    (origin : Name) (m other : Sets) (ttl serial : ℕ) → authoritative_names origin m NSEC ≡ authoritative_names origin other NSEC
    → (n : Name) → types_at m n ≡ types_at other n → nsec_set origin m ttl serial n ≡ nsec_set origin other ttl serial n

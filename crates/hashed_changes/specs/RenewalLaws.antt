-- What is true of a zone once the NSEC3 sets that a change makes others are made anew
use Rattle.std.specs.Prelude.{◌≡◌, ◌≢◌, ◌↔◌, ℕ, Bool, false, List, [], Option, option_map, is_some, IsTrue}
use Rattle.std.specs.List.{Contains}
use Rattle.zone_proto.specs.declared.rdata.denial.NSEC3PARAM.{NSEC3PARAM as Nsec3Parameters}
use Rattle.zone_proto.specs.declared.rr_key.RrKey.{RrKey}
use Rattle.zone_proto.specs.Names.{Name}
use Rattle.zone_proto.specs.Sets.{RRset}
use Rattle.zone_proto.specs.Types.{NSEC3, NSEC3PARAM}
use Rattle.zone_map.specs.Zones.{Sets, IsZone, owns}
use Rattle.zone_denial.specs.Chains.{IsNsec3Chain}
use Rattle.zone_denial.specs.Nsec3Circle.{nsec3_types}
use Rattle.zone_denial.specs.Nsec3Names.{nsec3_names}
use Rattle.zone_denial.specs.Nsec3Sets.{nsec3_set_at}
use Rattle.zone_denial.specs.Nsec3Zones.{IsNsec3Zone}
use Rattle.hashed_changes.specs.Among.{is_among}
use Rattle.hashed_changes.specs.Affected.{HaveChanges, is_affected}
use Rattle.hashed_changes.specs.Locality.{OwnsSame}
use Rattle.hashed_changes.specs.Renewal.{renewed, nsec3_records, IsRenewed, IsChange}

-- a name that no change affects gets an NSEC3 set after it exactly if it got one before
abbrev pub NamesAreLocal : Type 0
NamesAreLocal = (origin : Name) (m after : Sets) (keys : List RrKey) → HaveChanges keys m after → (opt_out : Bool) (n : Name) → is_affected origin after keys n ≡ false
    → Contains (nsec3_names origin after opt_out) n ↔ Contains (nsec3_names origin m opt_out) n

-- and the set of a name that owns what it owned lists the same types
abbrev pub TypesAreLocal : Type 0
TypesAreLocal = (origin : Name) (m after : Sets) (n : Name) → OwnsSame m after n → nsec3_types origin after n ≡ nsec3_types origin m n

-- where the owners of NSEC3 are those that got sets before, the set of each that isn't renewed is as it was
abbrev pub OthersStay : Type 0
OthersStay = (origin : Name) (m after : Sets) (keys : List RrKey) (names : List Name) (hash : Name → Option (List ℕ)) (parameters : Nsec3Parameters) (ttl serial : ℕ)
    → IsChange origin m after keys names hash parameters.opt_out
    → ((o : Name) → owns after o NSEC3 ≡ is_some (nsec3_set_at origin m hash parameters ttl serial o))
    → (o : Name) → is_among (renewed hash origin after names) o ≡ false
    → nsec3_set_at origin after hash parameters ttl serial o ≡ nsec3_set_at origin m hash parameters ttl serial o

-- where the NSEC3 sets were those of the zone before, each changed in one way as where lists are trimmed, all are those of the zone after it once these are renewed
abbrev pub RenewedAreMade : Type 0
RenewedAreMade = (change : RRset → RRset) (origin : Name) (m after put : Sets) (keys : List RrKey) (names : List Name) (hash : Name → Option (List ℕ)) (parameters : Nsec3Parameters) (ttl serial : ℕ)
    → IsChange origin m after keys names hash parameters.opt_out
    → ((o : Name) → nsec3_records after o ≡ option_map (λ (s : RRset). s.records) (option_map change (nsec3_set_at origin m hash parameters ttl serial o)))
    → IsRenewed (renewed hash origin after names) after (λ o. option_map change (nsec3_set_at origin after hash parameters ttl serial o)) put
    → (o : Name) → nsec3_records put o ≡ option_map (λ (s : RRset). s.records) (option_map change (nsec3_set_at origin after hash parameters ttl serial o))

-- so where they are as they are made, NSEC3 denies the zone: its sets are a circle
abbrev pub RenewedIsNsec3Zone : Type 0
RenewedIsNsec3Zone = (origin : Name) (m after put : Sets) (keys : List RrKey) (names : List Name) (hash : Name → Option (List ℕ)) (parameters : Nsec3Parameters) (ttl serial : ℕ)
    → origin ≢ [] → IsZone put → IsTrue (owns after origin NSEC3PARAM)
    → IsChange origin m after keys names hash parameters.opt_out
    → ((o : Name) → nsec3_records after o ≡ option_map (λ (s : RRset). s.records) (nsec3_set_at origin m hash parameters ttl serial o))
    → IsRenewed (renewed hash origin after names) after (nsec3_set_at origin after hash parameters ttl serial) put → IsNsec3Zone origin put hash parameters

-- and a chain through the names that get them
abbrev pub RenewedIsNsec3Chain : Type 0
RenewedIsNsec3Chain = (origin : Name) (beside m after put : Sets) (keys : List RrKey) (names : List Name) (hash : Name → Option (List ℕ)) (parameters : Nsec3Parameters) (ttl serial : ℕ)
    → origin ≢ [] → IsZone put → IsTrue (owns after origin NSEC3PARAM)
    → IsChange origin m after keys names hash parameters.opt_out
    → ((o : Name) → nsec3_records after o ≡ option_map (λ (s : RRset). s.records) (nsec3_set_at origin m hash parameters ttl serial o))
    → IsRenewed (renewed hash origin after names) after (nsec3_set_at origin after hash parameters ttl serial) put
    → IsNsec3Chain origin beside put hash parameters (nsec3_names origin put parameters.opt_out)

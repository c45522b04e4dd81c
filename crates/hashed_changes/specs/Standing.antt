-- What the NSEC3 sets say that stand in a zone
use Rattle.std.specs.Prelude.{◌≡◌, ◌⊎◌, ℕ, Bool, true, false, List, Option, Some, None, option_map, IsTrue}
use Rattle.std.specs.List.{Contains}
use Rattle.zone_proto.specs.declared.rdata.denial.NSEC3.{NSEC3 as Nsec3Data}
use Rattle.zone_proto.specs.declared.rdata.denial.NSEC3PARAM.{NSEC3PARAM as Nsec3Parameters}
use Rattle.zone_proto.specs.declared.record.Record.{Record}
use Rattle.zone_proto.specs.declared.rr_key.RrKey.{RrKey}
use Rattle.zone_proto.specs.HashedOwners.{hashed_owner}
use Rattle.zone_proto.specs.Names.{Name}
use Rattle.zone_proto.specs.Sets.{RRset}
use Rattle.zone_map.specs.Zones.{Sets}
use Rattle.zone_denial.specs.Nsec3Circle.{first_nsec3}
use Rattle.zone_denial.specs.Nsec3Sets.{nsec3_set_at}
use Rattle.zone_denial.specs.Nsec3Zones.{HasDistinctDigests}
use Rattle.zone_trimming.specs.Trimming.{trimmed_set}
use Rattle.hashed_changes.specs.Among.{is_among}
use Rattle.hashed_changes.specs.Affected.{HaveChanges, is_affected}
use Rattle.hashed_changes.specs.Renewal.{nsec3_records, IsChange, IsOfEither}

-- the data of records of NSEC3, if there are any
abbrev pub said_by : Option (List Record) → Option Nsec3Data
said_by None = None
said_by (Some rs) = first_nsec3 rs

-- the data of the NSEC3 set of an owner, and the digest that comes next by them
abbrev pub said : Sets → Name → Option Nsec3Data
said m o = said_by (nsec3_records m o)

abbrev pub said_next : Sets → Name → Option (List ℕ)
said_next m o = option_map (λ (a : Nsec3Data). a.next_hashed_owner_name) (said m o)

-- by what the sets say, an owner is followed by a digest: the first whose owner is none of some
pub data IsFollowed (origin : Name) (m : Sets) (some : List Name) : Name → List ℕ → Type 0 where
  by_it : (o : Name) (d : List ℕ) → said_next m o ≡ Some d → is_among some (hashed_owner origin d) ≡ false → IsFollowed origin m some o d
  past : (o : Name) (e d : List ℕ) → said_next m o ≡ Some e → is_among some (hashed_owner origin e) ≡ true → IsFollowed origin m some (hashed_owner origin e) d → IsFollowed origin m some o d

-- a name gets an NSEC3 set before a change or after it, or is one of some
abbrev pub IsHashedWith : Name → Sets → Sets → Bool → List Name → Name → Type 0
IsHashedWith origin m after opt_out names n = IsOfEither origin m after opt_out n ⊎ Contains names n

-- one zone is changed into another whose NSEC3 sets stand as they were made for the one before, with trimmed lists
pub record IsStanding (origin : Name) (m after : Sets) (keys : List RrKey) (names : List Name) (hash : Name → Option (List ℕ)) (parameters : Nsec3Parameters) (ttl serial : ℕ) : Type 0 where
  -- sets came or went under these keys
  pub told : HaveChanges keys m after
  -- the names that this affects are among these
  pub named : (n : Name) → IsTrue (is_affected origin after keys n) → IsTrue (is_among names n)
  -- the hash tells these and those that get NSEC3 sets before it or after it apart
  pub apart : HasDistinctDigests (IsHashedWith origin m after parameters.opt_out names) hash
  pub stood : (o : Name) → nsec3_records after o ≡ option_map (λ (s : RRset). s.records) (option_map trimmed_set (nsec3_set_at origin m hash parameters ttl serial o))

-- that is such a change
abbrev pub StandingIsChange : Type 0
StandingIsChange = (origin : Name) (m after : Sets) (keys : List RrKey) (names : List Name) (hash : Name → Option (List ℕ)) (parameters : Nsec3Parameters) (ttl serial : ℕ)
    → IsStanding origin m after keys names hash parameters ttl serial → IsChange origin m after keys names hash parameters.opt_out

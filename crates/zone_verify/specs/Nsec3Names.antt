-- Names with their NSEC3 sets, as the program finds and checks them
use Rattle.std.specs.Prelude.{◌≡◌, ◌⊎◌, ℕ, Bool, List, [], length, Option, Some, None, option_copied, IsTrue}
use Rattle.std.specs.List.{Contains}
use Rattle.zone_proto.specs.declared.record_type.RecordType.{RecordType}
use Rattle.zone_proto.specs.declared.rr_key.RrKey.{RrKey}
use Rattle.zone_proto.specs.HashedOwners.{hashed_owner}
use Rattle.zone_proto.specs.Names.{Name, IsAbove, IsAtOrAbove}
use Rattle.zone_proto.specs.Sets.{RRset}
use Rattle.zone_proto.specs.Types.{NSEC3}
use Rattle.zone_map.specs.Zones.{Sets, set_at}
use Rattle.zone_denial.specs.Chains.{is_delegation, may_be_left_out}
use Rattle.zone_denial.specs.Nsec3Circle.{first_nsec3}
use Rattle.zone_verify.specs.declared.nsec3_name.ChainName.{ChainName}
use Rattle.zone_verify.specs.declared.nsec3_names.Denied.{Denied}
use Rattle.zone_verify.specs.Lists.{MayAllBeListed, IsKeyListed}

-- one of these is of this name
abbrev pub IsNamed : List ChainName → Name → Type 0
IsNamed names n = (c : ChainName) × Contains names c × (c.name ≡ n)

-- the origin, or the name of one of these keys
abbrev pub IsKeyName : Name → List RrKey → Name → Type 0
IsKeyName origin keys n = (n ≡ origin) ⊎ ((k : RrKey) × Contains keys k × (n ≡ k.name))

-- the names above n from the origin on are among these
abbrev pub HasAncestors : Name → List ChainName → Name → Type 0
HasAncestors origin names n = (a : Name) → IsAtOrAbove origin a → IsAbove a n → IsNamed names a

module _ (origin : Name) (m : Sets) (hash : Name → Option (List ℕ)) (opt_out : Bool) where
  -- a name with its digest, and with what its NSEC3 set of a single record says, whose flag Opt-Out is that of the chain
  pub record HasNsec3 (c : ChainName) : Type 0 where
    pub digest : hash c.name ≡ Some c.digest
    pub owner : c.owner ≡ hashed_owner origin c.digest
    pub set : RRset
    pub stands : set_at m c.owner NSEC3 ≡ Some set
    pub single : length set.records ≡ 1
    pub says : first_nsec3 set.records ≡ Some c.data.now
    pub flag : c.data.now.opt_out ≡ opt_out

  -- a name has no NSEC3 set
  abbrev pub HasNone : Name → Type 0
  HasNone n = (d : List ℕ) → hash n ≡ Some d → set_at m (hashed_owner origin d) NSEC3 ≡ None

  -- a name of these has this list; or it may be left out, and has no set
  abbrev pub IsListedOrLeftOut : List ChainName → Name → Option (List RecordType) → Type 0
  IsListedOrLeftOut names n None = IsTrue (may_be_left_out origin m opt_out n) × HasNone n
  IsListedOrLeftOut names n (Some types) = (c : ChainName) × Contains names c × (c.name ≡ n) × (c.data.now.types ≡ types)

  -- and it is known whether it is a delegation
  abbrev pub IsDeniedIn : List ChainName → Denied → Type 0
  IsDeniedIn names d = (d.site.is_delegation ≡ is_delegation origin m d.site.name.now) × IsListedOrLeftOut names d.site.name.now (option_copied d.types)

  -- the name of a key is one of these, whose set lists the key; or it may be left out, and has no set
  abbrev pub IsNsec3Key : List ChainName → RrKey → Type 0
  IsNsec3Key names k =
      ((c : ChainName) × Contains names c × (c.name ≡ k.name) × IsKeyListed m (is_delegation origin m k.name) c.data.now.types k)
      ⊎ (IsTrue (may_be_left_out origin m opt_out k.name) × HasNone k.name)

-- m are the sets of the chain, and beside those of the zone
module _ (origin : Name) (beside m : Sets) (hash : Name → Option (List ℕ)) (opt_out : Bool) where
  -- a name at or above one of these, at or below the origin; it is one of these, and lists what may be, or it lists nothing
  pub record IsChainName (keys : List RrKey) (c : ChainName) : Type 0 where
    pub has : HasNsec3 origin m hash opt_out c
    pub inside : IsAtOrAbove origin c.name
    pub below : (n : Name) × IsKeyName origin keys n × IsAtOrAbove c.name n
    pub may : MayAllBeListed beside m c.name (is_delegation origin m c.name) c.data.now.types
    pub own : (c.data.now.types ≡ []) ⊎ IsKeyName origin keys c.name

  -- such names, the origin among them, and with each those between it and the origin
  pub record AreChainNames (keys : List RrKey) (names : List ChainName) : Type 0 where
    pub each : (c : ChainName) → Contains names c → IsChainName keys c
    pub begins : IsNamed names origin
    pub between : (c : ChainName) (a : Name) → Contains names c → IsAtOrAbove origin a → IsAtOrAbove a c.name → IsNamed names a

  -- with those appended for n, the name of a key, these are still such names
  abbrev pub StayChainNames : Name → List ChainName → List ChainName → Type 0
  StayChainNames n old new = (keys : List RrKey) → IsKeyName origin keys n → IsAtOrAbove origin n → AreChainNames keys old → AreChainNames keys new

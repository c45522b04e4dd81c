-- When the NSEC3 sets of a zone don't stand as they were before a change of it
use Rattle.std.specs.Prelude.{◌≡◌, ℕ, List, Option}
use Rattle.std.specs.List.{Contains}
use Rattle.zone_proto.specs.declared.rdata.denial.NSEC3PARAM.{NSEC3PARAM as Nsec3Parameters}
use Rattle.zone_proto.specs.declared.rr_key.RrKey.{RrKey}
use Rattle.zone_proto.specs.Names.{Name}
use Rattle.zone_map.specs.Zones.{Sets}
use Rattle.hashed_changes.specs.Among.{is_among}
use Rattle.hashed_changes.specs.declared.places.Affected.{Affected}
use Rattle.hashed_changes.specs.Affected.{is_affected}
use Rattle.hashed_changes.specs.AffectedPlaces.{AreAffected}
use Rattle.hashed_changes.specs.Places.{owners_of}
use Rattle.hashed_changes.specs.Renewal.{owners_besides}
use Rattle.hashed_changes.specs.Standing.{IsStanding}

-- they don't, where these are the places of the affected names
abbrev pub StandsForNone : Name → Sets → List Affected → Type 0
StandsForNone origin after affected = (m : Sets) (keys : List RrKey) (names : List Name) (hash : Name → Option (List ℕ)) (parameters : Nsec3Parameters) (ttl serial : ℕ)
    → IsStanding origin m after keys names hash parameters ttl serial → AreAffected origin after hash parameters.opt_out names affected → ⊥

-- they don't, if an owner is one of NSEC3 that isn't affected
abbrev pub IsUnclosedAt : Name → Sets → List Affected → Name → Type 0
IsUnclosedAt origin after affected o = Contains (owners_besides after (owners_of affected)) o → StandsForNone origin after affected

-- they don't, whatever the zone before the change of sets under these keys was
abbrev pub WereNever : Name → Sets → List RrKey → (Name → Option (List ℕ)) → Nsec3Parameters → Type 0
WereNever origin after keys hash parameters = (m : Sets) (names : List Name) (ttl serial : ℕ) → ((n : Name) → is_among names n ≡ is_affected origin after keys n) → IsStanding origin m after keys names hash parameters ttl serial → ⊥

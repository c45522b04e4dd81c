-- What the NSEC3 sets say that a change of a zone makes others
use Rattle.std.specs.Prelude.{◌≡◌, ℕ, List, [], ◌∷◌, map, Option, Some, None, option_map}
use Rattle.std.specs.List.{Contains}
use Rattle.zone_proto.specs.declared.rdata.RData.TheVariants as V
use Rattle.zone_proto.specs.declared.rdata.denial.NSEC3.{NSEC3 as Nsec3Data}
use Rattle.zone_proto.specs.declared.rdata.denial.NSEC3PARAM.{NSEC3PARAM as Nsec3Parameters}
use Rattle.zone_proto.specs.declared.record.Record.{Record}
use Rattle.zone_proto.specs.declared.record_type.RecordType.{RecordType}
use Rattle.zone_proto.specs.declared.rr_key.RrKey.{RrKey}
use Rattle.zone_proto.specs.Keys.{key}
use Rattle.zone_proto.specs.Names.{Name}
use Rattle.zone_proto.specs.Sets.{RRset}
use Rattle.zone_proto.specs.Types.{IN, NSEC3}
use Rattle.zone_map.specs.Zones.{Sets}
use Rattle.zone_denial.specs.Nsec3Circle.{nsec3_data}
use Rattle.zone_denial.specs.Nsec3Sets.{nsec3_set_at, set_of}
use Rattle.zone_trimming.specs.Trimming.{trimmed_set}
use Rattle.hashed_changes.specs.declared.places.Place.{Place}
use Rattle.hashed_changes.specs.declared.places.Affected.{Affected}
use Rattle.hashed_changes.specs.declared.renewals.Link.{Link}
use Rattle.hashed_changes.specs.declared.renewals.Renewal.{Renewal}
use Rattle.hashed_changes.specs.AffectedPlaces.{AreAffected}
use Rattle.hashed_changes.specs.Places.{places_of, IsNextPlace}
use Rattle.hashed_changes.specs.Standing.{said, IsStanding}

-- the record of an owner that says so
abbrev pub record_by : Nsec3Parameters → ℕ → Name → Link → Record
record_by parameters ttl o link = record {
  name = o;
  dns_class = record { 0 = IN };
  ttl = ttl;
  rdata = V.NSEC3 (nsec3_data parameters link.next (map (λ (t : RecordType). t.0) link.types));
}

-- and its set, if it is to have one
abbrev pub set_by : Nsec3Parameters → ℕ → ℕ → Name → Option Link → Option RRset
set_by parameters ttl serial o None = None
set_by parameters ttl serial o (Some link) = set_of o NSEC3 serial (record_by parameters ttl o link ∷ [])

-- that set under its key
abbrev pub entry_of : Nsec3Parameters → ℕ → ℕ → Renewal → Option (RrKey × RRset)
entry_of parameters ttl serial r = option_map (λ (s : RRset). (key r.owner NSEC3, s)) (set_by parameters ttl serial r.owner r.link)

-- the owners of those that are made anew
abbrev pub owners_made : List Renewal → List Name
owners_made made = map (λ (r : Renewal). r.owner) made

-- a link has these types, and the digest of the place that comes next after an owner
pub record IsLinked (kept : Option Place) (fresh : List Place) (o : Name) (types : List RecordType) (link : Link) : Type 0 where
  pub place : Place
  pub is_next : IsNextPlace o (places_of kept fresh) (Some place)
  pub next : link.next ≡ place.digest
  pub listed : link.types ≡ types

-- what the set of an affected name says: nothing if it gets none
abbrev pub LinksTypes : Option Place → List Place → Name → Option (List RecordType) → Option Link → Type 0
LinksTypes kept fresh o None link = link ≡ None
LinksTypes kept fresh o (Some types) None = ⊥
LinksTypes kept fresh o (Some types) (Some link) = IsLinked kept fresh o types link

abbrev pub LinksAffected : Option Place → List Place → Affected → Option Link → Type 0
LinksAffected kept fresh a link = LinksTypes kept fresh a.place.owner a.types link

-- what that of the nearest owner says
abbrev pub LinksSaid : Option Place → List Place → Name → Option Nsec3Data → Option Link → Type 0
LinksSaid kept fresh o None link = ⊥
LinksSaid kept fresh o (Some d) None = ⊥
LinksSaid kept fresh o (Some d) (Some link) = IsLinked kept fresh o d.types link

abbrev pub LinksNearest : Sets → Option Place → List Place → Name → Option Link → Type 0
LinksNearest m kept fresh o link = LinksSaid kept fresh o (said m o) link

-- where the NSEC3 sets of a zone stand as they were before a change of it, and these are the places of the names that this affects, the set that an owner is to have says so, once its list is trimmed
abbrev pub IsRight : Name → Sets → List Affected → Renewal → Type 0
IsRight origin after affected r = (m : Sets) (keys : List RrKey) (names : List Name) (hash : Name → Option (List ℕ)) (parameters : Nsec3Parameters) (ttl serial : ℕ)
    → IsStanding origin m after keys names hash parameters ttl serial → AreAffected origin after hash parameters.opt_out names affected
    → option_map trimmed_set (nsec3_set_at origin after hash parameters ttl serial r.owner) ≡ option_map trimmed_set (set_by parameters ttl serial r.owner r.link)

abbrev pub AreRight : Name → Sets → List Affected → List Renewal → Type 0
AreRight origin after affected made = (r : Renewal) → Contains made r → IsRight origin after affected r

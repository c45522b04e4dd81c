-- The zone that the text of a zone file makes (RFC 1035 section 5), or why it makes none
use Rattle.std.specs.Prelude.{◌≡◌, ℕ, List, map, Some}
use Rattle.zone_proto.specs.Names.{Name, lower}
use Rattle.zone_map.specs.Zones.{set_at, IsZone}
use Rattle.zone_file.specs.declared.placed.PlacedRecord.{PlacedRecord}
use Rattle.zone_file.specs.Zones.{Read, EndsIn, zone_of}
use Rattle.zone_builder.specs.declared.given.GivenRecord.{GivenRecord}
use Rattle.zone_builder.specs.declared.loading.Loaded.{Loaded}
use Rattle.zone_builder.specs.Faults.{IsFault, IsFaultless}
use Rattle.zone_builder.specs.Sets.{loaded_set}
use Rattle.zone_database.specs.declared.reading.TextFault.{TextFault}
use Rattle.zone_database.specs.declared.reading.TextFault.TheVariants as fault
use Rattle.zone_database.specs.declared.zone.Zone.{Zone}
use Rattle.zone_database.specs.Zones.{zone_of_records}

-- a record of a text, as a zone is made of it
abbrev pub given_of : PlacedRecord → GivenRecord
given_of p = record { «record» = p.given; place = Some p.place }

-- a text is that of a zone file with these records, whose relative names an origin completes
abbrev pub IsText : Name → List ℕ → List PlacedRecord → Type 0
IsText origin text records = zone_of origin text ≡ map Read records

-- what was loaded is made of these records
pub record IsLoaded (origin : Name) (gs : List GivenRecord) (loaded : Loaded) : Type 0 where
  pub faultless : IsFaultless origin gs
  pub at : loaded.origin ≡ origin
  pub sets : (n : Name) (t : ℕ) → set_at loaded.records n t ≡ loaded_set origin gs n t
  pub zone : IsZone loaded.records

-- a zone has the sets that these records make, and denies as they say; nobody signs it
pub record IsZoneOf (origin : Name) (gs : List GivenRecord) (z : Zone) : Type 0 where
  pub faultless : IsFaultless origin gs
  pub made : z ≡ zone_of_records origin z.inner.records
  pub sets : (n : Name) (t : ℕ) → set_at z.inner.records n t ≡ loaded_set origin gs n t
  pub zone : IsZone z.inner.records

-- the same of a text
pub record IsZoneOfText (origin : Name) (text : List ℕ) (z : Zone) : Type 0 where
  pub records : List PlacedRecord
  pub read : IsText origin text records
  pub zone : IsZoneOf (lower origin) (map given_of records) z

-- why these records make no zone
abbrev pub IsRecordsFault : Name → List GivenRecord → TextFault → Type 0
IsRecordsFault origin gs fault.Memory = Unit {0}
IsRecordsFault origin gs (fault.Text f) = ⊥
IsRecordsFault origin gs (fault.Zone e) = IsFault origin gs e

-- why a text makes no zone: its first fault, or what is wrong with its records; of memory nothing is said
abbrev pub IsTextFault : Name → List ℕ → TextFault → Type 0
IsTextFault origin text fault.Memory = Unit {0}
IsTextFault origin text (fault.Text f) = EndsIn f (zone_of origin text)
IsTextFault origin text (fault.Zone e) = (records : List PlacedRecord) × IsText origin text records × IsFault (lower origin) (map given_of records) e

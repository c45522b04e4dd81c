-- The zone of a file and of those that it includes, put among those that a program that isn't written in Rattle keeps
use Rattle.std.specs.Prelude.{◌≡◌, ◌≢◌, ◌⊎◌, ℕ, List, [], map, Option, Some, None, Ok, IsErr, Result}
use Rattle.std.specs.Str.{IsUtf8}
use Rattle.call_handles.specs.Rooms.{HasText, IsUntouched}
use Rattle.zone_proto.specs.Names.{Name, lower}
use Rattle.zone_file.specs.declared.placed.PlacedRecord.{PlacedRecord}
use Rattle.zone_builder.specs.declared.given.GivenRecord.{GivenRecord}
use Rattle.zone_texts.specs.Inclusions.{Files, records_of}
use Rattle.zone_database.specs.declared.database.ZoneDatabase.{ZoneDatabase}
use Rattle.zone_database.specs.declared.zone.Zone.{Zone}
use Rattle.zone_database.specs.Calls.{origin_of}
use Rattle.zone_database.specs.Databases.{with_zone, zones_in}
use Rattle.zone_database.specs.Texts.{given_of, IsZoneOf}
use Rattle.file_calls.specs.declared.outcome.FileOutcome.{FileOutcome}
use Rattle.file_calls.specs.declared.outcome.FileOutcome.TheVariants.{Done, Closed, BadName, BadText, NoMemory, WantsFiles, BadFileName}

-- a zone has the records of a file with those that it includes (RFC 1035 section 5.1), whose relative names an origin completes
pub record IsZoneOfFiles (files : Files) (origin : Name) (file : List ℕ) (z : Zone) : Type 0 where
  pub records : List PlacedRecord
  pub read : records_of files origin file ≡ Some records
  pub zone : IsZoneOf (lower origin) (map given_of records) z

-- the zone of an origin that a file makes is among the others, in place of the one of its origin if there is one; or nothing changes: the
-- files make none, others are wanted, or no memory was found
abbrev pub PutsFiles : Files → Name → List ℕ → List Zone → FileOutcome → List Zone → Type 0
PutsFiles files origin file old Done new = (z : Zone) × IsZoneOfFiles files origin file z × (new ≡ with_zone z old)
PutsFiles files origin file old BadText new = new ≡ old
PutsFiles files origin file old WantsFiles new = new ≡ old
PutsFiles files origin file old NoMemory new = new ≡ old
PutsFiles files origin file old outcome new = ⊥

-- the same for an origin and a file's name that are given as octets: nothing changes, either, where that is no name, or this isn't UTF-8
abbrev pub IsLoaded : Files → List ℕ → List ℕ → List Zone → FileOutcome → List Zone → Type 0
IsLoaded files origin file old Done new = (name : Name) × (origin_of origin ≡ Ok name) × PutsFiles files name file old Done new
IsLoaded files origin file old BadName new = IsErr (origin_of origin) × (new ≡ old)
IsLoaded files origin file old BadFileName new = (IsUtf8 file → ⊥) × (new ≡ old)
IsLoaded files origin file old BadText new = new ≡ old
IsLoaded files origin file old WantsFiles new = new ≡ old
IsLoaded files origin file old NoMemory new = new ≡ old
IsLoaded files origin file old outcome new = ⊥

-- the same of a handle, which may hold no zones
abbrev pub LoadsHeld : Files → List ℕ → List ℕ → Option ZoneDatabase → FileOutcome → Option ZoneDatabase → Type 0
LoadsHeld files origin file None outcome new = ((outcome ≡ Closed) ⊎ (outcome ≡ NoMemory)) × (new ≡ None)
LoadsHeld files origin file (Some c) outcome new = (after : ZoneDatabase) × IsLoaded files origin file (zones_in c) outcome (zones_in after) × (new ≡ Some after)

-- which files are wanted: some where that is told, and none where all that are included were read
abbrev pub IsWanting : FileOutcome → List (List ℕ) → Type 0
IsWanting WantsFiles names = names ≢ []
IsWanting Done names = names ≡ []
IsWanting BadText names = names ≡ []
IsWanting outcome names = Unit {0}

-- what is reported about files: warnings where the call is done, faults where they make no zone, and nothing elsewhere
abbrev pub IsReported : FileOutcome → ℕ → List ℕ → List ℕ → Type 0
IsReported Done written before after = HasText written before after
IsReported BadText written before after = HasText written before after
IsReported outcome written before after = IsUntouched written before after

-- ---- steps, which no public call is about

-- a zone is among the others; or no memory was found
abbrev pub PutsZone : Zone → List Zone → FileOutcome → List Zone → Type 0
PutsZone z old Done new = new ≡ with_zone z old
PutsZone z old NoMemory new = new ≡ old
PutsZone z old outcome new = ⊥

-- the zone of these records is; or they make none, or no memory was found
abbrev pub PutsRecords : Name → List GivenRecord → List Zone → FileOutcome → List Zone → Type 0
PutsRecords origin gs old Done new = (z : Zone) × IsZoneOf origin gs z × (new ≡ with_zone z old)
PutsRecords origin gs old BadText new = new ≡ old
PutsRecords origin gs old NoMemory new = new ≡ old
PutsRecords origin gs old outcome new = ⊥

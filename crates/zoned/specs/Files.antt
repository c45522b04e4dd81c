-- The zone of a file, and of those that it includes (RFC 1035 section 5.1)
use Rattle.std.specs.Prelude.{◌≡◌, ◌⊎◌, ℕ, List, [], map, Option, Some, unwrap_or}
use Rattle.zone_proto.specs.Names.{Name, lower}
use Rattle.file_origins.specs.Origins.{origin_of}
use Rattle.zone_file.specs.declared.error.ZoneFault.{ZoneFault}
use Rattle.zone_file.specs.declared.placed.PlacedRecord.{PlacedRecord}
use Rattle.zone_file.specs.Zones.{EndsIn, zone_of}
use Rattle.zone_texts.specs.Inclusions.{Files, records_of}
use Rattle.zone_database.specs.declared.zone.Zone.{Zone}
use Rattle.zone_database.specs.Files.{IsZoneOfFile}
use Rattle.zone_database.specs.Texts.{given_of, IsZoneOf}

-- a zone has exactly the records of a text; or the text is no zone file by itself, as where it includes another
abbrev pub IsZoneOfFileAlone : Option Name → List ℕ → Zone → Type 0
IsZoneOfFileAlone named text z = IsZoneOfFile named text z ⊎ ((f : ZoneFault) × EndsIn f (zone_of (unwrap_or named []) text))

-- A zone has exactly the records of a file with those that it includes. The origin that is named completes the relative names of the
-- file, and the root does where none is.
pub record IsZoneOfFiles (named : Option Name) (files : Files) (file : List ℕ) (z : Zone) : Type 0 where
  pub records : List PlacedRecord
  pub read : records_of files (unwrap_or named []) file ≡ Some records
  pub zone : IsZoneOf (lower (origin_of named records)) (map given_of records) z

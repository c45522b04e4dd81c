-- The zone of a file
use Rattle.std.specs.Prelude.{ℕ, List, [], map, Option, unwrap_or}
use Rattle.zone_proto.specs.Names.{Name, lower}
use Rattle.file_origins.specs.Origins.{origin_of}
use Rattle.zone_file.specs.declared.placed.PlacedRecord.{PlacedRecord}
use Rattle.zone_database.specs.declared.zone.Zone.{Zone}
use Rattle.zone_database.specs.Texts.{given_of, IsText, IsZoneOf}

-- A zone has the records of a text. The origin that is named completes the relative names of the text, and the root does where none is.
pub record IsZoneOfFile (named : Option Name) (text : List ℕ) (z : Zone) : Type 0 where
  pub records : List PlacedRecord
  pub read : IsText (unwrap_or named []) text records
  pub zone : IsZoneOf (lower (origin_of named records)) (map given_of records) z

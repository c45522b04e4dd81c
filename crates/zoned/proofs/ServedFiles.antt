-- The zone of a file, from the records that are read of it and of those that it includes
use Rattle.std.proofs.Common.{◌≡◌, ℕ, List, [], map, Option, Some, unwrap_or, inl, inr}
use Rattle.zone_proto.specs.Names.{Name, lower}
use Rattle.zone_file.specs.declared.placed.PlacedRecord.{PlacedRecord}
use Rattle.zone_builder.specs.declared.loading.Loaded.{Loaded}
use Rattle.zone_database.specs.declared.zone.Zone.{Zone}
use Rattle.zone_database.specs.Texts.{given_of, IsLoaded}
use Rattle.zone_database.specs.Zones.{zone_of_records}
use Rattle.zone_database.proofs.TextFacts.{served_so}
use Rattle.file_origins.specs.Origins.{origin_of}
use Rattle.zone_texts.specs.Inclusions.{Files, records_of}
use Rattle.zone_texts.specs.Readings.{IsReadOf}
use Rattle.zoned.specs.Files.{IsZoneOfFileAlone, IsZoneOfFiles}

-- what was loaded of these records is, once it is served, the zone of the file that has them, if that is one by itself
pub made_alone : (named : Option Name) (text : List ℕ) (rs : List PlacedRecord) (loaded : Loaded) (z : Zone) → IsReadOf (unwrap_or named []) text rs → IsLoaded (lower (origin_of named rs)) (map given_of rs) loaded → z ≡ zone_of_records loaded.origin loaded.records → IsZoneOfFileAlone named text z
made_alone named text rs loaded z (inl is) h served =
    inl (record { records = rs; read = is; zone = served_so (lower (origin_of named rs)) (map given_of rs) loaded z h served })
made_alone named text rs loaded z (inr ends) h served = inr ends

-- and the zone of the file with those that it includes
pub made_whole : (named : Option Name) (files : Files) (file : List ℕ) (rs : List PlacedRecord) (loaded : Loaded) (z : Zone) → records_of files (unwrap_or named []) file ≡ Some rs → IsLoaded (lower (origin_of named rs)) (map given_of rs) loaded → z ≡ zone_of_records loaded.origin loaded.records → IsZoneOfFiles named files file z
made_whole named files file rs loaded z is h served =
    record { records = rs; read = is; zone = served_so (lower (origin_of named rs)) (map given_of rs) loaded z h served }

-- The zone of a file, which a secondary wrote
use Rattle.std.specs.Prelude.{◌≡◌, ℕ, List, map}
use Rattle.zone_proto.specs.Names.{lower, Name}
use Rattle.zone_proto.specs.declared.record.Record.{Record}
use Rattle.zone_file.specs.Zones.{zone_of, Read}
use Rattle.zone_file.specs.declared.placed.PlacedRecord.{PlacedRecord}
use Rattle.zone_map.specs.Zones.{Sets}
use Rattle.transferred_zones.specs.TransferredZones.{IsZoneOf}

abbrev pub given_in : PlacedRecord → Record
given_in p = p.given

-- records are those of the text of a zone file with this origin
abbrev pub AreRecordsOf : Name → List ℕ → List Record → Type 0
AreRecordsOf origin text rs = (ps : List PlacedRecord) × (zone_of origin text ≡ map Read ps) × (rs ≡ map given_in ps)

-- a zone has all records of a file, and no others
abbrev pub IsZoneOfFile : Name → List ℕ → Sets → Type 0
IsZoneOfFile origin text m = (rs : List Record) × AreRecordsOf origin text rs × IsZoneOf (lower origin) rs m

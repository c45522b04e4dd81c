-- Whether a zone is ready to be published
use Rattle.std.specs.Prelude.{◌≡◌, ◌&&◌, ℕ, Bool, true, List, [], map, Option, Some, None, unwrap_or}
use Rattle.std.specs.List.{list_all}
use Rattle.zone_proto.specs.Names.{Name, lower}
use Rattle.zone_map.specs.Zones.{Sets}
use Rattle.zone_file.specs.declared.placed.PlacedRecord.{PlacedRecord}
use Rattle.file_origins.specs.Origins.{origin_of}
use Rattle.zone_texts.specs.Inclusions.{Files, records_of}
use Rattle.zone_texts.specs.Readings.{IsReadOf}
use Rattle.zone_builder.specs.declared.given.GivenRecord.{GivenRecord}
use Rattle.zone_builder.specs.Faults.{IsFaultless}
use Rattle.zone_database.specs.declared.zone.Zone.{Zone}
use Rattle.zone_database.specs.Texts.{given_of, IsZoneOf}
use Rattle.zone_publication.specs.declared.dates.Period.{Period}
use Rattle.zone_publication.specs.declared.finding.Finding.{Finding}
use Rattle.zone_publication.specs.Findings.{findings}
use Rattle.zone_publication.specs.Warnings.{is_allowed}
use Rattle.zone_check.specs.Digests.{are_digests_right}

-- nothing that is found of it at a moment is a fault, with hosts strictly judged or not, and its ZONEMD records are right; where no
-- moment is given, nothing is asked
abbrev pub is_ready : Bool → Option Period → Name → Sets → Bool
is_ready strict None origin m = true
is_ready strict (Some period) origin m = list_all (λ (f : Finding). is_allowed strict f.what) (findings origin period m) && are_digests_right origin m

-- what has the status 0 unless it is printed: a zone of these records can be made, and it is ready
pub record IsFit (strict : Bool) (period : Option Period) (origin : Name) (gs : List GivenRecord) : Type 0 where
  pub faultless : IsFaultless origin gs
  pub ready : (z : Zone) → IsZoneOf origin gs z → is_ready strict period origin z.inner.records ≡ true

-- the records that were read of a text make such a zone
abbrev pub IsReadFit : Bool → Option Period → Option Name → List ℕ → List PlacedRecord → Type 0
IsReadFit strict period named text records = IsReadOf (unwrap_or named []) text records × IsFit strict period (lower (origin_of named records)) (map given_of records)

-- the same of a file with those that it includes
abbrev pub AreReadFit : Bool → Option Period → Option Name → Files → List ℕ → List PlacedRecord → Type 0
AreReadFit strict period named files file records =
    (records_of files (unwrap_or named []) file ≡ Some records) × IsFit strict period (lower (origin_of named records)) (map given_of records)

-- a zone has the records of a file with those that it includes
pub record IsZoneOfFiles (named : Option Name) (files : Files) (file : List ℕ) (z : Zone) : Type 0 where
  pub records : List PlacedRecord
  pub read : records_of files (unwrap_or named []) file ≡ Some records
  pub zone : IsZoneOf (lower (origin_of named records)) (map given_of records) z

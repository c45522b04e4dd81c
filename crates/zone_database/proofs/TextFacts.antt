-- The zone that a text makes, from the records that are read of it
use Rattle.std.proofs.Common.{◌≡◌, ℕ, List, map, sym, ap, subst}
use Rattle.zone_proto.specs.Names.{Name, lower}
use Rattle.zone_file.specs.declared.placed.PlacedRecord.{PlacedRecord}
use Rattle.zone_builder.specs.declared.given.GivenRecord.{GivenRecord}
use Rattle.zone_builder.specs.declared.loading.Loaded.{Loaded}
use Rattle.zone_database.specs.declared.reading.TextFault.{TextFault}
use Rattle.zone_database.specs.declared.reading.TextFault.TheVariants as fault
use Rattle.zone_database.specs.declared.zone.Zone.{Zone}
use Rattle.zone_database.specs.Texts.{given_of, IsLoaded, IsRecordsFault, IsText, IsTextFault, IsZoneOf, IsZoneOfText}
use Rattle.zone_database.specs.Zones.{zone_of_records}

-- what was loaded is the zone that is served
pub served_so : (origin : Name) (gs : List GivenRecord) (loaded : Loaded) (z : Zone) → IsLoaded origin gs loaded → z ≡ zone_of_records loaded.origin loaded.records → IsZoneOf origin gs z
served_so origin gs loaded z h is = subst (IsZoneOf origin gs) (sym is) (record { faultless = h.faultless; made = ap (λ o. zone_of_records o loaded.records) h.at; sets = h.sets; zone = h.zone })

-- the zone of the records of a text is that of the text
pub made_so : (origin : Name) (text : List ℕ) (rs : List PlacedRecord) (z : Zone) → IsText origin text rs → IsZoneOf (lower origin) (map given_of rs) z → IsZoneOfText origin text z
made_so origin text rs z is zone = record { records = rs; read = is; zone = zone }

-- what is wrong with the records of a text is wrong with the text
pub wrong_so : (origin : Name) (text : List ℕ) (rs : List PlacedRecord) (e : TextFault) → IsText origin text rs → IsRecordsFault (lower origin) (map given_of rs) e → IsTextFault origin text e
wrong_so origin text rs fault.Memory is wrong = tt
wrong_so origin text rs (fault.Text f) is wrong = absurd wrong
wrong_so origin text rs (fault.Zone e) is wrong = (rs, is, wrong)

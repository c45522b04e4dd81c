-- What is read of a zone file with those that it includes (RFC 1035 section 5.1)
use Rattle.std.specs.Prelude.{◌≡◌, ◌⊎◌, ◌++◌, ◌∷◌, [], ℕ, List, length, map, nat_lt, if◌then◌else◌}
use Rattle.zone_proto.specs.Names.{Name}
use Rattle.zone_file.specs.declared.error.ZoneFault.{ZoneFault}
use Rattle.zone_file.specs.declared.placed.PlacedRecord.{PlacedRecord}
use Rattle.zone_texts.specs.declared.fault.FileFault.{FileFault}
use Rattle.zone_texts.specs.declared.state.Reading.{Reading}
use Rattle.zone_file.specs.Zones.{EndsIn, Read, zone_of}

-- a text is that of a zone file by itself, with these records; or it isn't, as where it includes another
abbrev pub IsReadOf : Name → List ℕ → List PlacedRecord → Type 0
IsReadOf origin text records = (zone_of origin text ≡ map Read records) ⊎ ((f : ZoneFault) × EndsIn f (zone_of origin text))

-- faults, of which so many are kept, and one more
abbrev pub with_fault : ℕ → List FileFault → FileFault → List FileFault
with_fault most fs f = if nat_lt (length fs) most then fs ++ f ∷ [] else fs

-- no fault was found
abbrev pub IsFaultless : Reading → Type 0
IsFaultless r = (r.faults.items ≡ []) × (r.more_faults ≡ 0)

-- The zone of a file that is to be signed
use Rattle.std.specs.Prelude.{not, List, filter, map, Some}
use Rattle.zone_proto.specs.Data.{type_of}
use Rattle.zone_file.specs.declared.placed.PlacedRecord.{PlacedRecord}
use Rattle.zone_builder.specs.declared.given.GivenRecord.{GivenRecord}
use Rattle.zone_planner.specs.Zones.{is_made_anew}

-- a record with its place, as a zone is made of it
abbrev pub given_of : PlacedRecord → GivenRecord
given_of p = record { «record» = p.given; place = Some p.place }

-- the records that a zone is made of which is to be signed: all but those of types that are made anew
abbrev pub unsigned : List PlacedRecord → List GivenRecord
unsigned ps = map given_of (filter (λ (p : PlacedRecord). not (is_made_anew (type_of p.given.rdata))) ps)

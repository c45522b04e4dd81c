-- What is read of printed records
use Rattle.std.specs.Prelude.{List, [], ◌∷◌, Option, Some, None, option_map}
use Rattle.zone_proto.specs.declared.record.Record.{Record}
use Rattle.zone_file.specs.Zones.{Outcome, Read, Stopped}
use Rattle.zone_file_writer.specs.Printable.{IsPrintable}

-- the records of a zone file, if it has no fault
abbrev pub records_of : List Outcome → Option (List Record)
records_of [] = Some []
records_of (Read r ∷ os) = option_map (λ rs. r.given ∷ rs) (records_of os)
records_of (Stopped f ∷ os) = None

-- each of these records is read as it is printed
abbrev pub ArePrintable : List Record → Type 0
ArePrintable [] = Unit {0}
ArePrintable (r ∷ rs) = IsPrintable r × ArePrintable rs

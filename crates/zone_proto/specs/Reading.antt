-- A reader of the program as one of `Parse`
use Rattle.std.specs.Prelude.{Option, Some, None}
use Rattle.zone_proto.specs.declared.parser.Reader as declared
use Rattle.zone_proto.specs.declared.error.ProtoError.{ProtoError}
use Rattle.zone_proto.specs.declared.error.ProtoError.TheVariants.{BadText}
use Rattle.zone_proto.specs.Parse.{Reader}
use Rattle.zone_proto.specs.Vectors.{octets_of}

abbrev pub reader_of : declared.Reader → Reader
reader_of r = record { mode = r.mode; labels = octets_of r.labels.items; label = r.label.items }

-- where nothing is read, bad text is the fault
abbrev pub fault_of_none : {A : Type 0} → Option A → Option ProtoError
fault_of_none None = Some BadText
fault_of_none (Some x) = None

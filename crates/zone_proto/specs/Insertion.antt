-- How the program tests and makes an insertion
use Rattle.std.specs.Prelude.{ℕ, List, [], ◌∷◌, ◌++◌, Bool, true, false, if◌then◌else◌, nat_le, Option, Some, None}
use Rattle.zone_proto.specs.Data.{type_of}
use Rattle.zone_proto.specs.Sets.{is_single, soa_serial, first_serial, stores}
use Rattle.zone_proto.specs.declared.rdata.RData.{RData}
use Rattle.zone_proto.specs.declared.record.Record.{Record}

-- by the serials of a new and a stored SOA, whether one record alone may stand, and whether the data are stored
abbrev pub refused_by : Option ℕ → Option ℕ → Bool → Bool → Bool
refused_by (Some new) (Some old) single stored = nat_le new old
refused_by (Some new) None single stored = false
refused_by None old true stored = false
refused_by None old false stored = stored

-- whether data are refused beside the stored records
abbrev pub is_refused : List Record → RData → Bool
is_refused rs d = refused_by (soa_serial d) (first_serial rs) (is_single (type_of d)) (stores rs d)

-- the records after one was taken
abbrev pub records_with : List Record → Record → List Record
records_with rs r = if is_single (type_of r.rdata) then r ∷ [] else rs ++ r ∷ []

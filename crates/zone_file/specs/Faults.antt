-- A fault of an entry, with the word that is at its place
use Rattle.std.specs.Prelude.{◌≡◌, ℕ, ◌==◌, ◌&&◌, List, [], ◌∷◌, Bool, Option, Some, None, Result, Ok, Err, if◌then◌else◌}
use Rattle.zone_scanner.specs.declared.place.Place.{Place}
use Rattle.zone_scanner.specs.declared.fault.EntryFault.{EntryFault}
use Rattle.zone_scanner.specs.declared.fault.EntryError.{EntryError}
use Rattle.zone_scanner.specs.declared.fault.EntryError.TheVariants as entries
use Rattle.zone_scanner.specs.Entries.{WordText}
use Rattle.record_fields.specs.declared.fault.Reason.TheVariants as reason
use Rattle.record_fields.specs.declared.fault.Fault.{Fault}
use Rattle.zone_file.specs.declared.error.ZoneFault.{ZoneFault}
use Rattle.zone_file.specs.declared.error.ZoneError.{ZoneError}
use Rattle.zone_file.specs.declared.error.ZoneError.TheVariants as errors
use Rattle.zone_file.specs.declared.error.InputError.{InputError}
use Rattle.zone_file.specs.declared.error.InputError.TheVariants as inputs

abbrev pub same_place : Place → Place → Bool
same_place p q = p.line == q.line && p.column == q.column

-- the octets of the word that begins at a place, if one does
abbrev pub octets_at : Place → List WordText → Option (List ℕ)
octets_at p [] = None
octets_at p (w ∷ ws) = if same_place w.place p then Some w.octets else octets_at p ws

-- a fault with the word at its place
abbrev pub at_word : List WordText → Fault → ZoneFault
at_word ws f = record { place = f.place; reason = f.reason; word = octets_at f.place ws }

abbrev pub with_word : {X : Type 0} → List WordText → Result X Fault → Result X ZoneFault
with_word ws (Ok x) = Ok x
with_word ws (Err f) = Err (at_word ws f)

-- a text that can't be cut into entries is no zone file for that reason; no word is there
abbrev pub as_fault : EntryFault → ZoneFault
as_fault f = record { place = f.place; reason = reason.Entry f.reason; word = None }

-- and a call that isn't answered entries
abbrev pub error_of : EntryError → ZoneError
error_of entries.Memory = errors.Memory
error_of (entries.Fault f) = errors.Fault (as_fault f)

-- what is wrong with the text of an input is wrong with the input
abbrev pub input_error_of : ZoneError → InputError
input_error_of errors.Memory = inputs.Memory
input_error_of (errors.Fault f) = inputs.Fault f

-- what a call answered, seen by `view`, is what is read, unless memory ran out
abbrev pub Refuses : {Y : Type 0} → ZoneError → Result Y ZoneFault → Type 0
Refuses errors.Memory read = Unit {0}
Refuses (errors.Fault f) read = read ≡ Err f

abbrev pub Answers : {X Y : Type 0} → (X → Y) → Result X ZoneError → Result Y ZoneFault → Type 0
Answers view (Ok x) read = read ≡ Ok (view x)
Answers view (Err e) read = Refuses e read

-- Data that the words to the end of an entry write together, read as one line
use Rattle.std.specs.Prelude.{ℕ, List, [], ◌∷◌, ◌++◌, Option, Result, Ok, Err, if◌then◌else◌}
use Rattle.zone_scanner.specs.declared.place.Place.{Place}
use Rattle.zone_scanner.specs.Entries.{WordText}
use Rattle.record_fields.specs.declared.fault.Reason.{Reason}
use Rattle.record_fields.specs.declared.fault.Reason.TheVariants as reason
use Rattle.record_fields.specs.declared.fault.Fault.{Fault}
use Rattle.record_fields.specs.Readings.{fault, or_else_fault, ◌>>=◌}
use Rattle.record_fields.specs.Fields.{Left, Reading, left_at}
use Rattle.record_fields.specs.Locations.{location_of_line}

-- words, none in quotes, each behind a space
abbrev pub line_of : List WordText → Result (List ℕ) Fault
line_of [] = Ok []
line_of (w ∷ ws) =
    if w.quoted then Err (fault w.place reason.Quoted) else (line_of ws >>= λ more. Ok ((32 ∷ w.octets) ++ more))

-- Where they aren't of the form that is read, the fault is at the first of them, or at the word before them where there is none.
abbrev pub first_place : Place → List WordText → Place
first_place p [] = p
first_place p (w ∷ ws) = w.place

abbrev pub next_line : (List ℕ → Option (List ℕ)) → Reason → Left → Reading (List ℕ)
next_line read why l =
    line_of l.words >>= λ line.
    (or_else_fault (read line) (fault (first_place l.place l.words) why) >>= λ os. Ok (os, left_at l.place []))

-- a location (RFC 1876 section 3)
abbrev pub next_location : Left → Reading (List ℕ)
next_location = next_line location_of_line reason.Location

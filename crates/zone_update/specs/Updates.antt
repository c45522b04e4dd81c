-- An update of a zone (RFC 2136 section 3): the sets after it, or why it is refused
use Rattle.std.specs.Prelude.{◌≡◌, ℕ, Bool, true, false, ◌==◌, ◌&&◌, ◌||◌, if◌then◌else◌, List, [], ◌∷◌, Option, Some, None, option_and_then, option_map, is_some, unwrap_or, Result, Ok, Err}
use Rattle.zone_proto.specs.Names.{Name}
use Rattle.zone_proto.specs.Sets.{RRset, first_serial}
use Rattle.zone_proto.specs.Stepping.{stepped}
use Rattle.zone_proto.specs.Types.{SOA}
use Rattle.zone_map.specs.Zones.{Sets, set_at, put}
use Rattle.zone_update.specs.Entries.{◌>>=◌, IsRefusal}
use Rattle.zone_update.specs.Demands.{met}
use Rattle.zone_update.specs.Changes.{changes_of}
use Rattle.zone_update.specs.Processing.{processed}
use Rattle.zone_update.specs.declared.change.Change.{Change}
use Rattle.zone_update.specs.declared.entry.Entry.{Entry}
use Rattle.zone_update.specs.declared.refusal.Refusal.{Refusal}

-- sets, and whether they were changed
pub record Course : Type 0 where
  pub sets : Sets
  pub changed : Bool

-- the changes one after the other (section 3.4.2.7); sets that change keep the serial that the zone has before
unfoldable pub run : Name → ℕ → Course → List Change → Course
run origin serial c [] = c
run origin serial c (change ∷ changes) =
    run origin serial
    (record { sets = unwrap_or (processed serial c.sets origin change) c.sets; changed = c.changed || is_some (processed serial c.sets origin change) })
    changes

-- the serial of the zone's SOA
abbrev pub zone_serial : Name → Sets → Option ℕ
zone_serial origin m = option_and_then (λ (s : RRset). first_serial s.records) (set_at m origin SOA)

abbrev pub same_serial : Option ℕ → Option ℕ → Bool
same_serial (Some a) (Some b) = a == b
same_serial _ _ = false

-- the zone with the next serial
abbrev pub with_next_serial : Name → Sets → Sets
with_next_serial origin m =
    unwrap_or (option_map (λ (s : RRset). put m origin SOA (record (stepped s) { signatures = [] })) (set_at m origin SOA)) m

-- Where sets were changed and the SOA has the serial of before, the serial goes on by one (section 3.6).
abbrev pub finished : Name → Sets → Course → Sets
finished origin before c =
    if c.changed && same_serial (zone_serial origin before) (zone_serial origin c.sets) then with_next_serial origin c.sets else c.sets

-- the serial of a zone, 0 without an SOA
abbrev pub serial_before : Name → Sets → ℕ
serial_before origin m = unwrap_or (zone_serial origin m) 0

-- The prerequisites are looked at, then all of the update section, and then the changes are made: so whatever is refused leaves the zone
-- as it was.
abbrev pub updated : Name → Sets → List Entry → List Entry → Result Sets Refusal
updated origin m prerequisites changes =
    met origin m prerequisites >>= λ _.
    changes_of origin changes >>= λ cs.
    Ok (finished origin m (run origin (serial_before origin m) (record { sets = m; changed = false }) cs))

-- the same before the serial goes on by itself: the sets once all changes are made, and whether they were changed
abbrev pub course_of : Name → Sets → List Entry → List Entry → Result Course Refusal
course_of origin m prerequisites changes =
    met origin m prerequisites >>= λ _.
    changes_of origin changes >>= λ cs.
    Ok (run origin (serial_before origin m) (record { sets = m; changed = false }) cs)

-- a call gives the sets that are changed, or none where none are; or it refuses as is defined, unless memory ran out
abbrev pub GivesChanged : Result (Option Sets) Refusal → Result Course Refusal → Type 0
GivesChanged (Ok (Some after)) made = made ≡ Ok (record { sets = after; changed = true })
GivesChanged (Ok None) made = (s : Sets) × (made ≡ Ok (record { sets = s; changed = false }))
GivesChanged (Err e) made = IsRefusal e made

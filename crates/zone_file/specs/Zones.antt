-- What is read of a whole zone file
use Rattle.std.specs.Prelude.{◌≡◌, ℕ, List, [], ◌∷◌, ◌++◌, map, Option, Some, None, Result, Ok, Err}
use Rattle.zone_proto.specs.Names.{Name}
use Rattle.zone_scanner.specs.Entries.{Event, Whole, Broken, events_of}
use Rattle.zone_scanner.specs.Steps.{Reader, events_from}
use Rattle.zone_file.specs.declared.error.ZoneFault.{ZoneFault}
use Rattle.zone_file.specs.declared.context.Context.{Context}
use Rattle.zone_file.specs.declared.placed.PlacedRecord.{PlacedRecord}
use Rattle.zone_file.specs.Faults.{as_fault}
use Rattle.zone_file.specs.Records.{read_entry}

-- a record with its place, or the first fault, with which reading ends
pub data Outcome : Type 0 where
  Read : PlacedRecord → Outcome
  Stopped : ZoneFault → Outcome

abbrev pub with_record : Option PlacedRecord → List Outcome → List Outcome
with_record None os = os
with_record (Some r) os = Read r ∷ os

abbrev pub outcome_then : Result (Context × Option PlacedRecord) ZoneFault → (Context → List Outcome) → List Outcome
outcome_then (Ok x) more = with_record x.1 (more x.0)
outcome_then (Err f) more = Stopped f ∷ []

-- entries, one after the other
abbrev pub outcomes : List Event → Context → List Outcome
outcomes [] c = []
outcomes (Broken f ∷ es) c = Stopped (as_fault f) ∷ []
outcomes (Whole e ∷ es) c = outcome_then (read_entry c e) (outcomes es)

-- before the first entry of a zone file, which is of this origin
abbrev pub context_of : Name → Context
context_of origin = record { origin = origin; owner = None; ttl = None; last_ttl = None }

-- what is read of a whole text
abbrev pub zone_of : Name → List ℕ → List Outcome
zone_of origin text = outcomes (events_of text) (context_of origin)

-- reading ends in this fault, behind some records
abbrev pub EndsIn : ZoneFault → List Outcome → Type 0
EndsIn f os = (rs : List PlacedRecord) × (os ≡ map Read rs ++ Stopped f ∷ [])

-- what has been read of a text that comes in pieces, and what is read of the rest of it
pub record Standing : Type 0 where
  pub reader : Reader
  pub context : Context

abbrev pub outcomes_from : List ℕ → Standing → List Outcome
outcomes_from text z = outcomes (events_from text z.reader) z.context

-- The records that a `$GENERATE` stands for, as BIND has it: one for each number of a range
use Rattle.std.specs.Prelude.{ℕ, zero, suc, ◌+◌, ◌-◌, ◌/◌, ◌==◌, ◌||◌, List, [], ◌∷◌, ◌++◌, Bool, true, false, nat_lt, Option, Some, None, Result, Ok, Err, option_map, option_and_then, if◌then◌else◌}
use Rattle.std.specs.List.{flat_map}
use Rattle.line_text.specs.Numbers.{number_within}
use Rattle.zone_scanner.specs.declared.place.Place.{Place}
use Rattle.zone_scanner.specs.Entries.{EntryWords, WordText, Event, Whole, Broken, events_of}
use Rattle.record_fields.specs.declared.fault.Fault.{Fault}
use Rattle.record_fields.specs.declared.fault.Reason.{Reason}
use Rattle.record_fields.specs.declared.fault.Reason.TheVariants.{Missing, Quoted, Surplus}
use Rattle.zone_file.specs.declared.context.Context.{Context}
use Rattle.zone_file.specs.declared.error.ZoneFault.{ZoneFault}
use Rattle.zone_file.specs.declared.placed.PlacedRecord.{PlacedRecord}
use Rattle.zone_file.specs.Records.{read_entry}
use Rattle.zone_texts.specs.declared.pattern.Range.{Range}
use Rattle.zone_texts.specs.Patterns.{cut_at, filled}

-- ---- the range: FIRST-LAST or FIRST-LAST/STEP

abbrev pub number : List ℕ → Option ℕ
number = number_within 10 4294967295

abbrev pub range_from : Option ℕ → Option ℕ → Option ℕ → Option Range
range_from (Some first) (Some last) (Some step) = Some (record { first = first; last = last; step = step })
range_from _ _ _ = None

abbrev pub range_behind : Option ℕ → List ℕ → Option (List ℕ × List ℕ) → Option Range
range_behind first behind None = range_from first (number behind) (Some 1)
range_behind first behind (Some x) = range_from first (number x.0) (number x.1)

abbrev pub range_of_parts : Option (List ℕ × List ℕ) → Option Range
range_of_parts None = None
range_of_parts (Some x) = range_behind (number x.0) x.1 (cut_at 47 x.1)

abbrev pub count_of : Range → ℕ
count_of r = if r.step == 0 then 0 else (r.last - r.first) / r.step + 1

-- from the first number to one that isn't less, of 31 bits, by steps of 1 or more; of 65536 numbers at most
abbrev pub is_range : Range → Bool
is_range r =
    if r.step == 0 || (nat_lt r.last r.first || nat_lt 2147483647 r.last) then false
    else (if nat_lt 65536 (count_of r) then false else true)

abbrev pub if_range : Option Range → Option Range
if_range None = None
if_range (Some r) = if is_range r then Some r else None

abbrev pub range_of : List ℕ → Option Range
range_of word = if_range (range_of_parts (cut_at 45 word))

-- ---- the words: the verb, a range, an owner, then TTL, class and type, of which the type alone has to be there, and data

pub record Template : Type 0 where
  pub owner : WordText
  pub middle : List WordText
  pub data_word : WordText

abbrev pub template : WordText → List WordText → WordText → Option Template
template owner middle d = if owner.quoted then None else Some (record { owner = owner; middle = middle; data_word = d })

abbrev pub template_of : WordText → List WordText → Option Template
template_of owner (t ∷ d ∷ []) = template owner (t ∷ []) d
template_of owner (c ∷ t ∷ d ∷ []) = template owner (c ∷ t ∷ []) d
template_of owner (l ∷ c ∷ t ∷ d ∷ []) = template owner (l ∷ c ∷ t ∷ []) d
template_of owner _ = None

-- what is wrong with these words, and at which: an owner in quotes; a word that is missing behind the last one; one too many behind
-- the data
abbrev pub fault_at : Reason → WordText → Option Fault
fault_at reason w = Some (record { place = w.place; reason = reason })

abbrev pub words_fault : WordText → List WordText → Option Fault
words_fault owner [] = fault_at Missing owner
words_fault owner (t ∷ []) = fault_at Missing t
words_fault owner (l ∷ c ∷ t ∷ d ∷ surplus ∷ ws) = fault_at Surplus surplus
words_fault owner _ = None

abbrev pub template_fault : WordText → List WordText → Option Fault
template_fault owner ws = if owner.quoted then fault_at Quoted owner else words_fault owner ws

-- ---- the line of a number: the owner and the data as they are filled in, with the other words between them

abbrev pub middle_text : List WordText → List ℕ
middle_text ws = flat_map (λ (w : WordText). 32 ∷ w.octets) ws

abbrev pub line_text : Option (List ℕ) → List ℕ → Option (List ℕ) → Option (List ℕ)
line_text (Some owner) middle (Some d) = Some (owner ++ (middle ++ (32 ∷ d ++ 10 ∷ [])))
line_text _ middle _ = None

abbrev pub line_for : Template → ℕ → Option (List ℕ)
line_for t n = line_text (filled t.owner.quoted n t.owner.octets) (middle_text t.middle) (filled t.data_word.quoted n t.data_word.octets)

-- ---- its record: that of the one entry that the line is, behind what is left of the entries before

abbrev pub only_entry : List Event → Option EntryWords
only_entry (Whole e ∷ []) = Some e
only_entry _ = None

abbrev pub given_by : Result (Context × Option PlacedRecord) ZoneFault → Option PlacedRecord
given_by (Ok x) = x.1
given_by (Err f) = None

abbrev pub at_place : Place → PlacedRecord → PlacedRecord
at_place p r = record { place = p; given = r.given }

unfoldable pub record_of_line : Context → List ℕ → Option PlacedRecord
record_of_line c line = option_and_then (λ (e : EntryWords). given_by (read_entry c e)) (only_entry (events_of line))

abbrev pub record_for : Context → Place → Template → ℕ → Option PlacedRecord
record_for c p t n = option_map (at_place p) (option_and_then (record_of_line c) (line_for t n))

-- ---- the records of all numbers, each at the place of the verb

abbrev pub before_all : PlacedRecord → Option (List PlacedRecord) → Option (List PlacedRecord)
before_all r rs = option_map (λ qs. r ∷ qs) rs

abbrev pub records_from : Context → Place → Template → (step count first : ℕ) → Option (List PlacedRecord)
records_from c p t step zero n = Some []
records_from c p t step (suc k) n = option_and_then (λ r. before_all r (records_from c p t step k (n + step))) (record_for c p t n)

abbrev pub records_by : Context → Place → Option Range → Option Template → Option (List PlacedRecord)
records_by c p (Some r) (Some t) = records_from c p t r.step (count_of r) r.first
records_by c p _ _ = None

abbrev pub generated : Context → (Place → Place) → List WordText → Option (List PlacedRecord)
generated c placed (verb ∷ range ∷ owner ∷ ws) = records_by c (placed verb.place) (range_of range.octets) (template_of owner ws)
generated c placed _ = None

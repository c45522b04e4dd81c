-- How the program reads a text, octet by octet from the left. No public call is about it: what the entries of a text
-- are is said in `Entries`, and a law says that both are the same.
use Rattle.std.specs.Prelude.{◌≡◌, ℕ, List, [], ◌∷◌, ◌++◌, Bool, true, false, Option, Some, None, Result, Ok, Err}
use Rattle.zone_scanner.specs.declared.place.Place.{Place}
use Rattle.zone_scanner.specs.declared.fault.EntryFault.{EntryFault}
use Rattle.zone_scanner.specs.declared.fault.EntryError.{EntryError}
use Rattle.zone_scanner.specs.declared.fault.EntryError.TheVariants as errors
use Rattle.zone_scanner.specs.declared.signs.Sign.{Sign}
use Rattle.zone_scanner.specs.declared.signs.Sign.TheVariants.{Blank, LineEnd, Opens, Closes, Quote, Unquote, Octet, Wrong}
use Rattle.zone_scanner.specs.declared.signs.Mode.{Mode}
use Rattle.zone_scanner.specs.declared.signs.Mode.TheVariants.{Plain}
use Rattle.zone_scanner.specs.declared.reader.Hand.{Hand as HandKind}
use Rattle.zone_scanner.specs.declared.reader.Hand.TheVariants as kind
use Rattle.zone_scanner.specs.Signs.{sign_of, mode_after, place_behind, joins, fault_at_end, first_place}
use Rattle.zone_scanner.specs.Entries.{EntryWords, WordText, Event, Broken, entry_of, with_entry, fault_at, open_after, size_after, first_fault, unclosed}

-- where the reader stands: at the beginning of a line; where no word goes on; or where one does, with these octets so far
pub data Hand : Type 0 where
  Start : Hand
  Between : Hand
  Going : WordText → Hand

-- what was read of a line: whether it is indented, its words that are whole, and where the reader comes after them
pub record LineSoFar : Type 0 where
  pub indented : Bool
  pub words : List WordText
  pub hand : Hand

-- what was read of a text
pub record Reader : Type 0 where
  pub mode : Mode
  pub place : Place
  pub joined : Bool
  pub group : Option Place
  pub size : ℕ
  pub line : LineSoFar

abbrev pub no_line : LineSoFar
no_line = record { indented = false; words = []; hand = Start }

abbrev pub start_of_text : Reader
start_of_text = record { mode = Plain; place = first_place; joined = false; group = None; size = 0; line = no_line }

abbrev pub word_at : Place → Bool → Bool → List ℕ → WordText
word_at p quoted joined t = record { place = p; quoted = quoted; joined = joined; octets = t }

-- where the reader stands, by the fields of the program's reader
abbrev pub hand_of : HandKind → Place → Bool → Bool → List ℕ → Hand
hand_of kind.Start p quoted joined t = Start
hand_of kind.Between p quoted joined t = Between
hand_of kind.InWord p quoted joined t = Going (word_at p quoted joined t)

abbrev pub line_of : Bool → List WordText → Hand → LineSoFar
line_of indented ws h = record { indented = indented; words = ws; hand = h }

-- the words up to here, the one that goes on too
abbrev pub settled_at : Hand → List WordText → List WordText
settled_at Start ws = ws
settled_at Between ws = ws
settled_at (Going w) ws = ws ++ w ∷ []

abbrev pub settled : LineSoFar → List WordText
settled l = settled_at l.hand l.words

-- no word goes on
abbrev pub apart : LineSoFar → LineSoFar
apart l = record { indented = l.indented; words = settled l; hand = Between }

-- a blank, which at the beginning of a line says that the line is indented
abbrev pub indented_by : Hand → Bool → Bool
indented_by Start indented = true
indented_by Between indented = indented
indented_by (Going w) indented = indented

abbrev pub with_blank : LineSoFar → LineSoFar
with_blank l = record { indented = indented_by l.hand l.indented; words = settled l; hand = Between }

-- a word that begins, in quotes or not
abbrev pub begun : Bool → Place → Bool → LineSoFar → LineSoFar
begun quoted p joined l = record { indented = l.indented; words = settled l; hand = Going (word_at p quoted joined []) }

-- an octet of a word: the first of one, or of the one that goes on
abbrev pub word_with : Hand → Place → Bool → ℕ → WordText
word_with Start p joined b = word_at p false joined (b ∷ [])
word_with Between p joined b = word_at p false joined (b ∷ [])
word_with (Going w) p joined b = word_at w.place w.quoted w.joined (w.octets ++ b ∷ [])

abbrev pub with_octet : Place → Bool → ℕ → LineSoFar → LineSoFar
with_octet p joined b l = record { indented = l.indented; words = l.words; hand = Going (word_with l.hand p joined b) }

-- octets of a word that nothing stands between, one or more
abbrev pub word_of : Hand → Place → Bool → List ℕ → WordText
word_of Start p joined t = word_at p false joined t
word_of Between p joined t = word_at p false joined t
word_of (Going w) p joined t = word_at w.place w.quoted w.joined (w.octets ++ t)

abbrev pub with_octets : Place → Bool → List ℕ → LineSoFar → LineSoFar
with_octets p joined t l = record { indented = l.indented; words = l.words; hand = Going (word_of l.hand p joined t) }

-- the line behind a sign, and the entry that ends with it, if one does
abbrev pub line_end : Option Place → LineSoFar → LineSoFar
line_end (Some q) l = with_blank l
line_end None l = no_line

abbrev pub line_behind : Sign → Place → Bool → Option Place → LineSoFar → LineSoFar
line_behind Blank p joined group l = with_blank l
line_behind LineEnd p joined group l = line_end group l
line_behind Opens p joined group l = apart l
line_behind Closes p joined group l = apart l
line_behind Quote p joined group l = begun true p joined l
line_behind Unquote p joined group l = apart l
line_behind (Octet b) p joined group l = with_octet p joined b l
line_behind (Wrong f) p joined group l = apart l

abbrev pub entry_in : Option Place → LineSoFar → Option EntryWords
entry_in (Some q) l = None
entry_in None l = entry_of l.indented (settled l)

abbrev pub entry_at : Sign → Option Place → LineSoFar → Option EntryWords
entry_at Blank group l = None
entry_at LineEnd group l = entry_in group l
entry_at Opens group l = None
entry_at Closes group l = None
entry_at Quote group l = None
entry_at Unquote group l = None
entry_at (Octet b) group l = None
entry_at (Wrong f) group l = None

-- A reading, or its fault
abbrev pub unless_fault : {X : Type 0} → Option EntryFault → X → Result X EntryFault
unless_fault (Some f) x = Err f
unless_fault None x = Ok x

-- what a sign makes of what was read
abbrev pub reader_behind : Reader → Sign → ℕ → Reader
reader_behind r x b = record {
  mode = mode_after r.mode r.place b;
  place = place_behind r.place b;
  joined = joins x;
  group = open_after x r.place r.group;
  size = size_after x r.group r.size;
  line = line_behind x r.place r.joined r.group r.line;
}

abbrev pub Taken : Type 0
Taken = Result (Option EntryWords × Reader) EntryFault

abbrev pub take_sign : Reader → Sign → ℕ → Taken
take_sign r x b = unless_fault (fault_at x r.place r.group r.size) (entry_at x r.group r.line, reader_behind r x b)

-- and an octet
abbrev pub step : Reader → ℕ → Taken
step r b = take_sign r (sign_of r.mode r.place b) b

-- at the end of the text
abbrev pub end_of : Reader → Result (Option EntryWords) EntryFault
end_of r = unless_fault (first_fault (fault_at_end r.mode r.place) (unclosed r.group)) (entry_of r.line.indented (settled r.line))

abbrev pub last_events : Result (Option EntryWords) EntryFault → List Event
last_events (Ok e) = with_entry e []
last_events (Err f) = Broken f ∷ []

abbrev pub go_on : Taken → (Reader → List Event) → List Event
go_on (Ok t) events = with_entry t.0 (events t.1)
go_on (Err f) events = Broken f ∷ []

-- the events of the rest of a text, behind what was read
abbrev pub events_from : List ℕ → Reader → List Event
events_from [] r = last_events (end_of r)
events_from (b ∷ s) r = go_on (step r b) (events_from s)

-- a call failed by this fault, unless memory ran out
abbrev pub Fails : {X : Type 0} → EntryError → Result X EntryFault → Type 0
Fails errors.Memory read = Unit {0}
Fails (errors.Fault f) read = read ≡ Err f

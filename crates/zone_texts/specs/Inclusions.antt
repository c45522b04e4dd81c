-- What is read of a zone file with those that it includes (RFC 1035 section 5.1). "$INCLUDE inserts the named file into the current
-- file, and may optionally specify a domain name that sets the relative domain name origin for the included file."
use Rattle.std.specs.Prelude.{ℕ, zero, suc, ◌+◌, ◌==◌, min, List, [], ◌∷◌, ◌++◌, count_by, Bool, true, false, Option, Some, None, Result, Ok, Err, codes, option_map, option_and_then, if◌then◌else◌}
use Rattle.zone_proto.specs.Data.{same_octets}
use Rattle.zone_proto.specs.Names.{Name}
use Rattle.zone_scanner.specs.declared.place.Place.{Place}
use Rattle.zone_scanner.specs.Entries.{EntryWords, WordText, Event, Whole, Broken, events_of}
use Rattle.zone_tokens.specs.Types.{upper}
use Rattle.record_fields.specs.declared.fault.Fault.{Fault}
use Rattle.record_fields.specs.Fields.{Left, if_none_left, left_at, next_any_word, next_name}
use Rattle.record_fields.specs.Readings.{◌>>=◌}
use Rattle.zone_file.specs.declared.context.Context.{Context}
use Rattle.zone_file.specs.declared.error.ZoneFault.{ZoneFault}
use Rattle.zone_file.specs.declared.placed.PlacedRecord.{PlacedRecord}
use Rattle.zone_file.specs.Records.{is_control, read_entry}
use Rattle.zone_file.specs.Zones.{context_of}
use Rattle.zone_texts.specs.declared.directives.Directive.{Directive}
use Rattle.zone_texts.specs.declared.directives.Directive.TheVariants.{Includes, Generates, Neither}
use Rattle.zone_texts.specs.declared.directives.Inclusion.{Inclusion}
use Rattle.zone_texts.specs.Generation.{generated}

-- what is known of files: which name a word names that stands in the file of a name, and the text of the file of each name
pub record Files : Type 0 where
  pub beside : List ℕ → List ℕ → List ℕ
  pub text : List ℕ → List ℕ

-- what was read so far: what the next entry takes from those before it, the records, and how many lines the files have
pub record Gathered : Type 0 where
  pub context : Context
  pub records : List PlacedRecord
  pub lines : ℕ

abbrev pub gathered : Context → List PlacedRecord → ℕ → Gathered
gathered c rs n = record { context = c; records = rs; lines = n }

-- ---- lines, which are numbered through all files in the order in which they are read

abbrev pub most_lines : ℕ
most_lines = 18446744073709551615

-- a text has a line more than it has line feeds
abbrev pub with_lines : ℕ → List ℕ → ℕ
with_lines n text = min (n + min (count_by (λ b. b == 10) text + 1) most_lines) most_lines

-- a place in a file before which so many lines were read
abbrev pub placed_behind : ℕ → Place → Place
placed_behind n p = if n == 0 then p else record { line = min (p.line + n) most_lines; column = p.column }

abbrev pub moved : ℕ → PlacedRecord → PlacedRecord
moved n r = record { place = placed_behind n r.place; given = r.given }

-- ---- which entries

abbrev pub directive_by : List ℕ → Directive
directive_by verb =
    if same_octets verb (codes "$INCLUDE") then Includes
    else (if same_octets verb (codes "$GENERATE") then Generates
    else Neither)

abbrev pub directive_of : Bool → List WordText → Directive
directive_of indented [] = Neither
directive_of indented (w ∷ ws) = if is_control indented w then directive_by (upper w.octets) else Neither

-- ---- $INCLUDE

-- behind the name of a file an origin may stand, and nothing else
abbrev pub origin_at : Name → Place → List WordText → Result (Option Name) Fault
origin_at origin p [] = Ok None
origin_at origin p (w ∷ ws) = next_name origin (left_at p (w ∷ ws)) >>= λ n. if_none_left (Some n.0) n.1.words

abbrev pub inclusion_of : Name → Left → Result (List ℕ × Option Name) Fault
inclusion_of origin l = next_any_word l >>= λ f. (origin_at origin f.1.place f.1.words >>= λ o. Ok (f.0.octets, o))

-- the file that is included begins with the origin that is named for it, if one is, and otherwise with what is left of the entries
-- before
abbrev pub origin_in : Option Name → Context → Context
origin_in None c = c
origin_in (Some origin) c = record c { origin = origin }

abbrev pub entered : Option Name → Gathered → Gathered
entered origin g = record g { context = origin_in origin g.context }

-- behind it the origin is as before, "regardless of changes to the relative origin made within the included file", and so is the
-- owner
abbrev pub left_with : Context → Gathered → Gathered
left_with c g = record g { context = record g.context { origin = c.origin; owner = c.owner } }

abbrev pub included : (List ℕ → Gathered → Option Gathered) → (List ℕ → List ℕ) → List ℕ → Option Name → Gathered → Option Gathered
included inner beside named origin g = option_map (left_with g.context) (inner (beside named) (entered origin g))

abbrev pub included_by : (List ℕ → Gathered → Option Gathered) → (List ℕ → List ℕ) → Result (List ℕ × Option Name) Fault → Gathered → Option Gathered
included_by inner beside (Ok x) g = included inner beside x.0 x.1 g
included_by inner beside (Err f) g = None

-- ---- entries

-- a record, or none, with what the entries behind it take from it; nothing is read of what has a fault
abbrev pub with_moved : ℕ → Option PlacedRecord → List PlacedRecord → List PlacedRecord
with_moved before None rs = rs
with_moved before (Some r) rs = rs ++ moved before r ∷ []

abbrev pub with_entry : ℕ → Result (Context × Option PlacedRecord) ZoneFault → Gathered → Option Gathered
with_entry before (Ok x) g = Some (gathered x.0 (with_moved before x.1 g.records) g.lines)
with_entry before (Err f) g = None

-- the records of a $GENERATE, from which the entries behind it take nothing
abbrev pub with_records : Option (List PlacedRecord) → Gathered → Option Gathered
with_records None g = None
with_records (Some rs) g = Some (record g { records = g.records ++ rs })

abbrev pub included_in : (List ℕ → Gathered → Option Gathered) → (List ℕ → List ℕ) → List WordText → Gathered → Option Gathered
included_in inner beside [] g = Some g
included_in inner beside (w ∷ ws) g = included_by inner beside (inclusion_of g.context.origin (left_at w.place ws)) g

abbrev pub entry_by : Directive → (List ℕ → Gathered → Option Gathered) → (List ℕ → List ℕ) → ℕ → EntryWords → Gathered → Option Gathered
entry_by Includes inner beside before e g = included_in inner beside e.words g
entry_by Generates inner beside before e g = with_records (generated g.context (placed_behind before) e.words) g
entry_by Neither inner beside before e g = with_entry before (read_entry g.context e) g

unfoldable pub entry_read : (List ℕ → Gathered → Option Gathered) → (List ℕ → List ℕ) → ℕ → EntryWords → Gathered → Option Gathered
entry_read inner beside before e g = entry_by (directive_of e.indented e.words) inner beside before e g

-- what is left of an entry that was taken: nothing, or a file that it includes
abbrev pub left_to : (List ℕ → Gathered → Option Gathered) → (List ℕ → List ℕ) → Option Inclusion → Gathered → Option Gathered
left_to inner beside None g = Some g
left_to inner beside (Some x) g = included inner beside x.name.items x.origin g

-- entries, one after the other, of a text before which so many lines were read
abbrev pub entries_read : (List ℕ → Gathered → Option Gathered) → (List ℕ → List ℕ) → ℕ → List Event → Gathered → Option Gathered
entries_read inner beside before [] g = Some g
entries_read inner beside before (Broken f ∷ es) g = None
entries_read inner beside before (Whole e ∷ es) g = option_and_then (entries_read inner beside before es) (entry_read inner beside before e g)

-- ---- files

-- the file of a name, and those that it includes: one within the other, so many at most
unfoldable pub file_read : Files → ℕ → List ℕ → Gathered → Option Gathered
file_read files zero name g = None
file_read files (suc depth) name g =
    entries_read (file_read files depth) (files.beside name) g.lines (events_of (files.text name))
    (record g { lines = with_lines g.lines (files.text name) })

-- at most ten files are open at once
abbrev pub most_open : ℕ
most_open = 10

-- the records of a zone file of an origin with those that it includes; none where one of them has a fault
abbrev pub records_of : Files → Name → List ℕ → Option (List PlacedRecord)
records_of files origin name = option_map (λ (g : Gathered). g.records) (file_read files most_open name (gathered (context_of origin) [] 0))

-- What is left to read of a text behind a part of it. No public call is about it.
use Rattle.std.specs.Prelude.{◌≡◌, ◌<◌, ℕ, List, drop, Option, Some, None, option_and_then, string_bytes}
use Rattle.zone_scanner.specs.declared.fault.EntryFault.{EntryFault}
use Rattle.zone_scanner.specs.Entries.{Event}
use Rattle.zone_scanner.specs.Steps.{events_from}
use Rattle.zone_texts.specs.declared.reading.Next.{Next}
use Rattle.zone_texts.specs.declared.reading.Next.TheVariants as next
use Rattle.zone_texts.specs.declared.reading.Opened.{Opened}
use Rattle.zone_texts.specs.declared.state.Reading.{Reading}
use Rattle.zone_texts.specs.GoingOn.{GoesOnAt, fault_in}
use Rattle.zone_texts.specs.Inclusions.{Files, Gathered, entries_read, included, with_lines}
use Rattle.zone_texts.specs.Readings.{IsFaultless}

-- nothing; what can't be cut isn't read; a file that is included, and then the rest
abbrev pub read_behind : (List ℕ → Gathered → Option Gathered) → (List ℕ → List ℕ) → ℕ → List ℕ → Next → Gathered → Option Gathered
read_behind inner beside before text next.End g = Some g
read_behind inner beside before text (next.Cut count) g = None
read_behind inner beside before text (next.Include x behind count) g =
    option_and_then (entries_read inner beside before (events_from (drop count text) behind)) (included inner beside x.name.items x.origin g)

-- a part of a text whose entries from some place on are these goes on so: not at all, where they have no fault; behind the line of the
-- fault, where they have one; with the rest of them behind a file that is included
abbrev pub GoesOnWith : List Event → List ℕ → Next → Type 0
GoesOnWith es text next.End = fault_in es ≡ None
GoesOnWith es text (next.Cut count) = (f : EntryFault) × ((fault_in es ≡ Some f) × GoesOnAt text f.place.line count)
GoesOnWith es text (next.Include x behind count) = fault_in es ≡ fault_in (events_from (drop count text) behind)

-- what can't be cut is told
abbrev pub IsTold : Reading → Next → Type 0
IsTold r next.End = Unit {0}
IsTold r (next.Cut count) = IsFaultless r → ⊥
IsTold r (next.Include x behind count) = Unit {0}

-- a file was opened: it is the one that the word names, with its text, and its lines are counted
pub record IsOpened (files : Files) (file word : List ℕ) (depth old new : ℕ) (o : Opened) : Type 0 where
  pub deep : 0 < depth
  pub name : string_bytes o.name ≡ files.beside file word
  pub text : o.text.items ≡ files.text (files.beside file word)
  pub before : o.part.before ≡ old
  pub lines : new ≡ with_lines old o.text.items
  pub begin : o.part.lines ≡ 0

-- Parts of a text, read one after the other
use Rattle.std.proofs.Common.{◌≡◌, ℕ, zero, suc, ◌+◌, ◌-◌, ◌<◌, List, [], ◌∷◌, ◌++◌, drop, length, Option, Some, None, refl, sym, ap, ◌∙◌, arith, subst}
use Rattle.std.specs.Prelude.{option_map, option_and_then, string_bytes}
use Rattle.std.proofs.Math.Seq.{drop-length}
use Rattle.std.proofs.lemmas.List.{append-nil, drop-drop}
use Rattle.zone_proto.specs.Names.{Name}
use Rattle.zone_scanner.specs.Entries.{EntryWords, Event, Whole, Broken, events_of, with_entry}
use Rattle.zone_scanner.specs.Steps.{Reader, events_from}
use Rattle.zone_file.specs.declared.context.Context.{Context}
use Rattle.zone_file.specs.declared.placed.PlacedRecord.{PlacedRecord}
use Rattle.zone_texts.specs.declared.reading.Opened.{Opened}
use Rattle.zone_texts.specs.Inclusions.{Files, Gathered, entered, entries_read, entry_read, file_read, gathered, included, left_with, origin_in, with_lines}
use Rattle.zone_texts.specs.Parts.{IsOpened}

-- what is left of a text behind a part of it in which no entry ends, and behind one in which one does
abbrev TakesFrom : Option EntryWords → (count : ℕ) → (old new : Reader) → List ℕ → Type 0
TakesFrom e count old new s = (more : List ℕ) → events_from (s ++ more) old ≡ with_entry e (events_from (drop count s ++ more) new)

pub no_entry_more : (text : List ℕ) (at count : ℕ) (old new : Reader) (s : List ℕ) → s ≡ drop at text
    → ((more : List ℕ) → events_from (s ++ more) old ≡ with_entry None (events_from (drop count s ++ more) new))
    → events_from (drop at text) old ≡ events_from (drop (at + count) text) new
no_entry_more text at count old new s same taken =
    let behind : TakesFrom None count old new (drop at text) = subst (TakesFrom None count old new) same taken in
    sym (ap (λ (s : List ℕ). events_from s old) (append-nil (drop at text))) ∙ behind []
    ∙ ap (λ (s : List ℕ). events_from s new) (append-nil (drop count (drop at text)) ∙ drop-drop count at text)

pub one_entry_more : (text : List ℕ) (at count : ℕ) (old new : Reader) (e : EntryWords) (s : List ℕ) → s ≡ drop at text
    → ((more : List ℕ) → events_from (s ++ more) old ≡ with_entry (Some e) (events_from (drop count s ++ more) new))
    → events_from (drop at text) old ≡ Whole e ∷ events_from (drop (at + count) text) new
one_entry_more text at count old new e s same taken =
    let behind : TakesFrom (Some e) count old new (drop at text) = subst (TakesFrom (Some e) count old new) same taken in
    sym (ap (λ (s : List ℕ). events_from s old) (append-nil (drop at text))) ∙ behind []
    ∙ ap (λ (s : List ℕ). Whole e ∷ events_from s new) (append-nil (drop count (drop at text)) ∙ drop-drop count at text)

-- an entry, and what it leaves to be read before the others
pub next_entry : (inner : List ℕ → Gathered → Option Gathered) (beside : List ℕ → List ℕ) (n : ℕ) (es rest : List Event) (e : EntryWords) (g : Gathered) (y : Option Gathered)
    → es ≡ Whole e ∷ rest → entry_read inner beside n e g ≡ y
    → entries_read inner beside n es g ≡ option_and_then (entries_read inner beside n rest) y
next_entry inner beside n es rest e g y h k = rw (h, k) refl

-- behind the last entry, with which a text ends, nothing is left to be read
pub last_included : (inner : List ℕ → Gathered → Option Gathered) (beside : List ℕ → List ℕ) (n : ℕ) (text : List ℕ) (last new : Reader) (e : EntryWords) (g : Gathered) (y : Option Gathered)
    → ((s : List ℕ) → events_from s new ≡ events_of s) → events_from [] last ≡ Whole e ∷ []
    → entry_read inner beside n e g ≡ y
    → entries_read inner beside n (events_from [] last) g ≡ option_and_then (entries_read inner beside n (events_from (drop (length text) text) new)) y
last_included inner beside n text last new e g y begin ends taken =
    let none : drop (length text) text ≡ [] = drop-length text in
    let end : events_from [] new ≡ [] = begin [] in
    next_entry inner beside n (events_from [] last) [] e g y ends taken
    ∙ sym (ap (λ (es : List Event). option_and_then (entries_read inner beside n es) y) (ap (λ (s : List ℕ). events_from s new) none ∙ end))

-- the file that a word names, where it is read by itself
pub file_included : (files : Files) (depth : ℕ) (name word : List ℕ) (origin : Option Name) (g h : Gathered) (text : List ℕ)
    → 0 < depth → text ≡ files.text (files.beside name word)
    → entries_read (file_read files (depth - 1)) (files.beside (files.beside name word)) g.lines (events_of text)
    (record (entered origin g) { lines = with_lines g.lines text }) ≡ Some h
    → included (file_read files depth) (files.beside name) word origin g ≡ Some (left_with g.context h)
unfolding file_read
file_included files zero name word origin g h text deep same is = absurd (omega arith)
file_included files (suc depth) name word origin g h text deep same is =
    let e : suc depth - 1 ≡ depth = omega arith in
    ap (option_map (left_with g.context)) (rw (e, same) at is)

pub included_so : (files : Files) (depth : ℕ) (name word : List ℕ) (origin : Option Name) (c : Context) (rs : List PlacedRecord) (n m : ℕ) (o : Opened) (h : Gathered)
    → IsOpened files name word depth n m o
    → entries_read (file_read files (depth - 1)) (files.beside (string_bytes o.name)) o.part.before (events_of o.text.items) (gathered (origin_in origin c) rs m) ≡ Some h
    → included (file_read files depth) (files.beside name) word origin (gathered c rs n) ≡ Some (left_with c h)
included_so files depth name word origin c rs n m o h opened is =
    file_included files depth name word origin (gathered c rs n) h o.text.items opened.deep opened.text
    (rw (opened.name, opened.before, opened.lines) at is)

-- behind a file that is included the text goes on
pub goes_on : (inner : List ℕ → Gathered → Option Gathered) (beside : List ℕ → List ℕ) (n : ℕ) (es rest : List Event) (g h : Gathered) (x : Option Gathered)
    → entries_read inner beside n es g ≡ option_and_then (entries_read inner beside n rest) x → x ≡ Some h
    → entries_read inner beside n es g ≡ entries_read inner beside n rest h
goes_on inner beside n es rest g h x is e = is ∙ ap (option_and_then (entries_read inner beside n rest)) e

pub goes_on_behind : (inner : List ℕ → Gathered → Option Gathered) (beside : List ℕ → List ℕ) (n m : ℕ) (start : Option Gathered) (es rest : List Event) (g h : Gathered) (x : Option Gathered)
    → start ≡ entries_read inner beside n es g → m ≡ n
    → entries_read inner beside m es g ≡ option_and_then (entries_read inner beside m rest) x → x ≡ Some h
    → start ≡ entries_read inner beside n rest h
goes_on_behind inner beside n m start es rest g h x begin same is e = begin ∙ goes_on inner beside n es rest g h x (rw same at is) e

pub goes_on_with : (inner : List ℕ → Gathered → Option Gathered) (beside : List ℕ → List ℕ) (n : ℕ) (start : Option Gathered) (here there : List ℕ) (reader last : Reader) (g h : Gathered)
    → start ≡ entries_read inner beside n (events_from there last) h
    → here ≡ there → reader ≡ last → g ≡ h
    → start ≡ entries_read inner beside n (events_from here reader) g
goes_on_with inner beside n start here there reader last g h is texts readers states = rw (texts, readers, states) is

-- a file that was opened, and read to its end, is included
pub included_whole : (files : Files) (depth : ℕ) (name word named : List ℕ) (origin : Option Name) (c begin left : Context) (rs own : List PlacedRecord) (n m : ℕ) (o : Opened) (opened text : List ℕ) (h : Gathered)
    → named ≡ word → IsOpened files name named depth n m o → opened ≡ string_bytes o.name → text ≡ o.text.items
    → begin ≡ origin_in origin c → own ≡ rs
    → entries_read (file_read files (depth - 1)) (files.beside opened) o.part.before (events_of text) (gathered begin own m) ≡ Some h
    → left ≡ record h.context { origin = c.origin; owner = c.owner }
    → included (file_read files depth) (files.beside name) word origin (gathered c rs n) ≡ Some (gathered left h.records h.lines)
included_whole files depth name word named origin c begin left rs own n m o opened text h words is names texts begins records run back =
    included_so files depth name word origin c rs n m o h (rw words at is) (rw (names, texts, begins, records) at run)
    ∙ ap (λ (x : Context). Some (gathered x h.records h.lines)) (sym back)

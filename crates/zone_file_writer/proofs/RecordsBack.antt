-- What is printed of records is read as these records, whatever the origin is.
use Rattle.std.proofs.Common.{◌≡◌, ◌≢◌, ◌≤◌, ◌<◌, ℕ, List, [], ◌∷◌, ◌++◌, length, true, false, Option, Some, Ok, Result, refl, sym, ap, subst, ◌∙◌, arith, append_assoc, codes}
use Rattle.std.specs.Prelude.{nat_lt, option_map}
use Rattle.std.specs.Fmt.{decimal}
use Rattle.std.specs.Char.{digit_value}
use Rattle.std.specs.Str.Parse.{AllDigits}
use Rattle.std.proofs.lemmas.Fmt.{decimal_is_IsNumeral}
use Rattle.zone_proto.specs.TextForm.{is_digit}
use Rattle.std.proofs.lemmas.Bool.Decides.{leb_tells, nat_tests}
use Rattle.zone_proto.specs.declared.record.Record.{Record}
use Rattle.zone_proto.specs.declared.rdata.RData.{RData}
use Rattle.zone_proto.specs.declared.rdata.RData.TheVariants as V
use Rattle.zone_proto.specs.Names.{Name}
use Rattle.zone_proto.specs.Text.{name_text}
use Rattle.zone_proto.specs.TypeText.{class_text}
use Rattle.zone_proto.specs.Data.{type_of}
use Rattle.line_text.specs.Parts.{joined}
use Rattle.zone_scanner.specs.declared.place.Place.{Place}
use Rattle.zone_scanner.specs.Signs.{first_place}
use Rattle.zone_scanner.specs.Entries.{Event, Whole}
use Rattle.zone_scanner.specs.Steps.{events_from}
use Rattle.zone_scanner.proofs.EntryLaw.{reads_text}
use Rattle.zone_file.specs.declared.error.ZoneFault.{ZoneFault}
use Rattle.zone_file.specs.declared.context.Context.{Context}
use Rattle.zone_file.specs.declared.placed.PlacedRecord.{PlacedRecord}
use Rattle.zone_file.specs.Data.{data_size}
use Rattle.zone_file.specs.Records.{begins_with_digit, begins_with_dollar, class_in, placed_at, read_entry, read_record, ttl_and_class}
use Rattle.zone_file.specs.Zones.{context_of, outcome_then, outcomes, zone_of}
use Rattle.zone_file_writer.specs.Laws.{ArePrintable, records_of}
use Rattle.zone_file_writer.specs.Printable.{IsPrintable, IsPrintableData, IsRecordType}
use Rattle.zone_file_writer.specs.Words.{PrintedWord, Bare, type_word, words_text}
use Rattle.zone_file_writer.specs.Printing.{lines_text, master_data_text, master_text}
use Rattle.zone_file_writer.proofs.Lines.{AreWordTexts, IsBareText, line_read, next_line, start_at, words_from}
use Rattle.zone_file_writer.proofs.WordTexts.{decimal_text, name_is_text, plain_in_word, type_is_text}
use Rattle.zone_file_writer.proofs.NamesBack.{first_is, first_of_name, name_there}
use Rattle.zone_file_writer.proofs.NumbersBack.{ttl_back, type_back}
use Rattle.zone_file_writer.proofs.DataBack.{data_read}
use Rattle.zone_file_writer.proofs.DataTexts.{data_are_texts, data_words, text_is}
use Rattle.zone_file_writer.proofs.PlacedWords.{behind, left}
use Rattle.zone_file_writer.proofs.RowsBack.{some_form}

-- ---- the words of a record of class IN

abbrev pub record_words : Record → List PrintedWord
record_words r = Bare (name_text r.name) ∷ Bare (decimal r.ttl) ∷ Bare (codes "IN") ∷ Bare (type_word (type_of r.rdata)) ∷ data_words r.rdata

type_in : (d : RData) → IsPrintableData d → IsRecordType (record { 0 = type_of d })
type_in (V.A a) h = record { range = omega arith; records = refl }
type_in (V.AAAA a) h = record { range = omega arith; records = refl }
type_in (V.NS n) h = record { range = omega arith; records = refl }
type_in (V.CNAME n) h = record { range = omega arith; records = refl }
type_in (V.ANAME n) h = record { range = omega arith; records = refl }
type_in (V.SOA d) h = record { range = omega arith; records = refl }
type_in (V.MX d) h = record { range = omega arith; records = refl }
type_in (V.SRV d) h = record { range = omega arith; records = refl }
type_in (V.DNSKEY d) h = record { range = omega arith; records = refl }
type_in (V.NSEC d) h = record { range = omega arith; records = refl }
type_in (V.NSEC3 d) h = record { range = omega arith; records = refl }
type_in (V.NSEC3PARAM d) h = record { range = omega arith; records = refl }
type_in (V.RRSIG d) h = record { range = omega arith; records = refl }
type_in (V.Other d) h = h.record_type

class_is : (c : ℕ) → c ≡ 1 → class_text c ≡ codes "IN"
class_is c e = rw e refl

-- words of data are some
some_words : (a : List ℕ) (d : RData) → IsPrintableData d → joined 32 (a ∷ master_data_text d ∷ []) ≡ words_text (Bare a ∷ data_words d)
some_words a d h = ap (λ (s : List ℕ). a ++ 32 ∷ s) (text_is d h) ∙ by (data_words d) (not_none d h)
  where
    not_none : (x : RData) → IsPrintableData x → data_words x ≢ []
    not_none (V.A y) g = λ e. cc
    not_none (V.AAAA y) g = λ e. cc
    not_none (V.NS y) g = λ e. cc
    not_none (V.CNAME y) g = λ e. cc
    not_none (V.ANAME y) g = λ e. cc
    not_none (V.SOA y) g = λ e. cc
    not_none (V.MX y) g = λ e. cc
    not_none (V.SRV y) g = λ e. cc
    not_none (V.DNSKEY y) g = λ e. cc
    not_none (V.NSEC y) g = λ e. cc
    not_none (V.NSEC3 y) g = λ e. cc
    not_none (V.NSEC3PARAM y) g = λ e. cc
    not_none (V.RRSIG y) g = λ e. cc
    not_none (V.Other y) g = some_form y.record_type.0 y.octets g.octets

    by : (ws : List PrintedWord) → ws ≢ [] → a ++ 32 ∷ words_text ws ≡ words_text (Bare a ∷ ws)
    by [] g = absurd (g refl)
    by (w ∷ ws) g = refl

pub words_of_record : (r : Record) → IsPrintable r → master_text r ≡ words_text (record_words r)
words_of_record r h =
    ap (λ (c : List ℕ). joined 32 (name_text r.name ∷ decimal r.ttl ∷ c ∷ type_word (type_of r.rdata) ∷ master_data_text r.rdata ∷ [])) (class_is r.dns_class.0 h.class)
    ∙ ap (λ (s : List ℕ). joined 32 (name_text r.name ∷ decimal r.ttl ∷ codes "IN" ∷ s ∷ [])) (some_words (type_word (type_of r.rdata)) r.rdata h.rdata)
    ∙ more (name_text r.name) (decimal r.ttl) (codes "IN") (type_word (type_of r.rdata)) (data_words r.rdata)
  where
    more : (a b c e : List ℕ) (ws : List PrintedWord) → joined 32 (a ∷ b ∷ c ∷ words_text (Bare e ∷ ws) ∷ []) ≡ words_text (Bare a ∷ Bare b ∷ Bare c ∷ Bare e ∷ ws)
    more a b c e ws = refl

class_text_is : IsBareText (codes "IN")
class_text_is = plain_in_word (codes "IN") refl

words_are_texts : (r : Record) → IsPrintable r → AreWordTexts (record_words r)
words_are_texts r h = (
  name_is_text r.name h.owner,
  (
    decimal_text r.ttl (omega (arith, h.ttl)),
    (class_text_is, (type_is_text (type_of r.rdata) (type_in r.rdata h.rdata).range, data_are_texts r.rdata h.rdata h.size)),
  ),
)

-- ---- and what is read of them

digits_begin : (ds : List ℕ) → AllDigits 10 ds → 0 < length ds → begins_with_digit ds ≡ true
digits_begin [] h some = absurd (omega arith)
digits_begin (c ∷ cs) h some = digit c h.0
  where
    digit : (c : ℕ) → digit_value c < 10 → is_digit c ≡ true
    digit c k = grind (arith, nat_tests, leb_tells)

ttl_there : (n : ℕ) (q p : Place) (ts : List PrintedWord) → n < 2147483648
    → ttl_and_class (left q p (Bare (decimal n) ∷ Bare (codes "IN") ∷ ts))
    ≡ Ok (Some n, left (behind p (Bare (decimal n))) (behind (behind p (Bare (decimal n))) (Bare (codes "IN"))) ts)
ttl_there n q p ts h =
    let written = decimal_is_IsNumeral n (omega arith) in
    rw (digits_begin (decimal n) written.0.1 written.0.0, ttl_back n h) refl

no_dollar : (s : List ℕ) → first_is s 36 ≡ false → begins_with_dollar s ≡ false
no_dollar [] h = refl
no_dollar (b ∷ s) h = h

fits : (n : ℕ) → n ≤ 65535 → nat_lt 65535 n ≡ false
fits n h = grind (arith, leb_tells)

bounded : (n : ℕ) → n < 2147483648 → nat_lt 2147483647 n ≡ false
bounded n h = grind (arith, leb_tells)

in_class : (r : Record) → r.dns_class.0 ≡ 1 → class_in r.name r.ttl r.rdata ≡ r
in_class r e = let made : ℕ → Record = λ k. record { name = r.name; dns_class = record { 0 = k }; ttl = r.ttl; rdata = r.rdata } in ap made (sym e)

abbrev after : Context → Record → Context
after c r = record c { owner = Some r.name; last_ttl = Some r.ttl }

words_read : (r : Record) (c : Context) (p : Place) → IsPrintable r
    → read_record c false p (left p p (record_words r)) ≡ Ok (after c r, class_in r.name r.ttl r.rdata)
unfolding read_record
words_read r c p h =
    let a : Place = behind p (Bare (name_text r.name)) in
    let b : Place = behind a (Bare (decimal r.ttl)) in
    let t : Place = behind b (Bare (codes "IN")) in
    let made = data_read c.origin r.rdata t (behind t (Bare (type_word (type_of r.rdata)))) h.rdata h.size in
    rw (
      name_there c.origin r.name h.owner,
      ttl_there r.ttl p a (Bare (type_word (type_of r.rdata)) ∷ data_words r.rdata) h.ttl,
      type_back (record { 0 = type_of r.rdata }) (type_in r.rdata h.rdata),
      made.is,
      fits (data_size r.rdata) h.size,
      bounded r.ttl h.ttl,
    )
    refl

pub record_read : (r : Record) (c : Context) (p : Place) → IsPrintable r
    → read_entry c (record { indented = false; words = words_from p (record_words r) }) ≡ Ok (after c r, Some (placed_at p r))
record_read r c p h =
    rw (no_dollar (name_text r.name) (first_of_name r.name h.owner).1, words_read r c p h, in_class r h.class) refl

-- ---- lines of records

line_of_record : (r : Record) (rest : List ℕ) (p : Place) → IsPrintable r
    → events_from (master_text r ++ 10 ∷ rest) (start_at p)
    ≡ Whole (record { indented = false; words = words_from p (record_words r) }) ∷ events_from rest (start_at (next_line p (words_text (record_words r))))
line_of_record r rest p h =
    let text : master_text r ≡ words_text (record_words r) = words_of_record r h in
    ap (λ (s : List ℕ). events_from (s ++ 10 ∷ rest) (start_at p)) text
    ∙ line_read (Bare (name_text r.name)) (Bare (decimal r.ttl) ∷ Bare (codes "IN") ∷ Bare (type_word (type_of r.rdata)) ∷ data_words r.rdata) rest p (words_are_texts r h) (subst (λ (s : List ℕ). length s ≤ 1048576) text h.entry)

lines_read : (rs : List Record) (c : Context) (p : Place) → ArePrintable rs → records_of (outcomes (events_from (lines_text rs) (start_at p)) c) ≡ Some rs
lines_read [] c p h = refl
lines_read (r ∷ rs) c p h =
    let q : Place = next_line p (words_text (record_words r)) in
    ap (λ (s : List ℕ). records_of (outcomes (events_from s (start_at p)) c)) (append_assoc (master_text r) (10 ∷ []) (lines_text rs))
    ∙ ap (λ (es : List Event). records_of (outcomes es c)) (line_of_record r (lines_text rs) p h.0)
    ∙ ap (λ (x : Result (Context × Option PlacedRecord) ZoneFault). records_of (outcome_then x (outcomes (events_from (lines_text rs) (start_at q))))) (record_read r c p h.0)
    ∙ ap (option_map (λ (vs : List Record). r ∷ vs)) (lines_read rs (after c r) q h.1)

pub zone_back : (origin : Name) (rs : List Record) → ArePrintable rs → records_of (zone_of origin (lines_text rs)) ≡ Some rs
zone_back origin rs h =
    ap (λ (es : List Event). records_of (outcomes es (context_of origin))) (sym (reads_text (lines_text rs)))
    ∙ lines_read rs (context_of origin) first_place h

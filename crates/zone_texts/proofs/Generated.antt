-- The records of a `$GENERATE`, one after the other, and its patterns, octet by octet
use Rattle.std.proofs.Common.{◌≡◌, ℕ, zero, suc, ◌+◌, ◌-◌, ◌<◌, ◌≤◌, length, drop, List, [], ◌∷◌, ◌++◌, Bool, Option, Some, None, refl, sym, ap, ◌∙◌, append_assoc, arith}
use Rattle.std.specs.Prelude.{option_map, option_and_then}
use Rattle.std.proofs.Math.ListN.{drop_of_length-le}
use Rattle.std.proofs.lemmas.List.{append-nil}
use Rattle.zone_scanner.specs.declared.place.Place.{Place}
use Rattle.zone_scanner.specs.Entries.{EntryWords, Event, Whole, events_of, with_entry}
use Rattle.zone_scanner.specs.Steps.{Reader, events_from}
use Rattle.zone_file.specs.declared.context.Context.{Context}
use Rattle.zone_file.specs.declared.placed.PlacedRecord.{PlacedRecord}
use Rattle.zone_texts.specs.declared.pattern.Before.{Before}
use Rattle.zone_texts.specs.Generation.{Template, before_all, record_for, records_from}
use Rattle.zone_texts.specs.Patterns.{after_octet, before_rest, filled_from, inside_after, octet_text}

-- ---- records

abbrev behind : List PlacedRecord → Option (List PlacedRecord) → Option (List PlacedRecord)
behind old rs = option_map (λ qs. old ++ qs) rs

one_more : (old : List PlacedRecord) (r : PlacedRecord) (x : Option PlacedRecord) (rest : Option (List PlacedRecord)) → x ≡ Some r
    → behind old (option_and_then (λ q. before_all q rest) x) ≡ behind (old ++ r ∷ []) rest
one_more old r None rest e = absurd cc
one_more old r (Some q) None e = refl
one_more old r (Some q) (Some rs) e =
    let same : q ≡ r = cc in
    ap (λ (p : PlacedRecord). Some (old ++ p ∷ rs)) same ∙ ap (λ (ps : List PlacedRecord). Some ps) (sym (append_assoc old (r ∷ []) rs))

pub next_record : (c : Context) (p : Place) (t : Template) (step left n m : ℕ) (old new : List PlacedRecord) (r : PlacedRecord)
    → 0 < left → m ≡ n + step → record_for c p t n ≡ Some r → new ≡ old ++ r ∷ []
    → behind old (records_from c p t step left n) ≡ behind new (records_from c p t step (left - 1) m)
next_record c p t step zero n m old new r h sum is e = absurd (omega arith)
next_record c p t step (suc left) n m old new r h sum is e =
    let less : suc left - 1 ≡ left = omega arith in
    rw (less, e, sum) (one_more old r (record_for c p t n) (records_from c p t step left (n + step)) is)

pub last_record : (c : Context) (p : Place) (t : Template) (step left n : ℕ) (old : List PlacedRecord) → left ≡ 0
    → behind old (records_from c p t step left n) ≡ Some old
last_record c p t step left n old e = rw e (ap (λ (ps : List PlacedRecord). Some ps) (append-nil old))

-- ---- lines

-- the entry with which a line ends is the only one, where nothing is left behind it
pub one_entry : (line : List ℕ) (old new : Reader) (count : ℕ) (e : EntryWords)
    → ((text : List ℕ) → events_from text old ≡ events_of text)
    → ((more : List ℕ) → events_from (line ++ more) old ≡ with_entry (Some e) (events_from (drop count line ++ more) new))
    → length line ≤ count → events_from [] new ≡ []
    → events_of line ≡ Whole e ∷ []
one_entry line old new count e begin taken whole ends =
    let none : drop count line ≡ [] = drop_of_length-le line whole in
    let all : events_from (line ++ []) old ≡ Whole e ∷ events_from (drop count line ++ []) new = taken [] in
    sym (begin line) ∙ sym (ap (λ (s : List ℕ). events_from s old) (append-nil line)) ∙ all
    ∙ ap (λ (s : List ℕ). Whole e ∷ events_from (s ++ []) new) none ∙ ap (λ (es : List Event). Whole e ∷ es) ends

-- ---- patterns

abbrev put : List ℕ → Option (List ℕ) → Option (List ℕ)
put old s = option_map (λ t. old ++ t) s

joined : (old new : List ℕ) (x rest : Option (List ℕ)) → put old x ≡ Some new → put old (option_and_then (λ t. before_rest t rest) x) ≡ put new rest
joined old new None rest e = absurd cc
joined old new (Some t) None e = refl
joined old new (Some t) (Some r) e =
    let same : old ++ t ≡ new = cc in
    ap (λ (s : List ℕ). Some s) (sym (append_assoc old t r) ∙ ap (λ (s : List ℕ). s ++ r) same)

pub next_octet : (quoted : Bool) (n : ℕ) (before : Before) (inside : List ℕ) (b : ℕ) (s old new : List ℕ)
    → option_map (λ t. old ++ t) (octet_text quoted n before inside b) ≡ Some new
    → option_map (λ t. old ++ t) (filled_from quoted n before inside (b ∷ s))
    ≡ option_map (λ t. new ++ t) (filled_from quoted n (after_octet before b) (inside_after before inside b) s)
next_octet quoted n before inside b s old new h = joined old new (octet_text quoted n before inside b) (filled_from quoted n (after_octet before b) (inside_after before inside b) s) h

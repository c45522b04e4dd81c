-- A text that is a zone file by itself is read as one that includes no other
use Rattle.std.proofs.Common.{◌≡◌, ℕ, List, [], ◌∷◌, ◌++◌, Bool, true, false, Option, Some, None, Result, Ok, Err, refl, sym, ap, subst, ◌∙◌, append_assoc}
use Rattle.std.specs.Prelude.{nat_eq, ◌&&◌, map, codes}
use Rattle.std.specs.Cmp.Lexicographic.{pointwise}
use Rattle.std.proofs.lemmas.Bool.{eqb-true}
use Rattle.std.proofs.lemmas.List.{append-nil}
use Rattle.zone_proto.specs.Data.{same_octets}
use Rattle.zone_scanner.specs.Entries.{EntryWords, WordText, Event, Whole, Broken}
use Rattle.zone_tokens.specs.Types.{upper}
use Rattle.record_fields.specs.Fields.{Left, left_at}
use Rattle.record_fields.specs.Readings.{◌>>=◌}
use Rattle.zone_file.specs.declared.context.Context.{Context}
use Rattle.zone_file.specs.declared.error.ZoneFault.{ZoneFault}
use Rattle.zone_file.specs.declared.placed.PlacedRecord.{PlacedRecord}
use Rattle.zone_file.specs.Faults.{with_word}
use Rattle.zone_file.specs.Records.{is_control, read_control, read_entry, read_words}
use Rattle.zone_file.specs.Zones.{Outcome, Read, Stopped, outcome_then, outcomes, with_record}
use Rattle.zone_texts.specs.declared.directives.Directive.TheVariants.{Includes, Generates, Neither}
use Rattle.zone_texts.specs.Inclusions.{Gathered, directive_by, directive_of, entries_read, entry_read, gathered, moved, with_moved}

-- ---- what is read isn't an entry of $INCLUDE or $GENERATE

ends : (x y : ℕ) (xs ys : List ℕ) → (pointwise nat_eq xs ys ≡ true → xs ≡ ys) → (nat_eq x y && pointwise nat_eq xs ys) ≡ true → (x ∷ xs) ≡ (y ∷ ys)
ends x y xs ys ih h = by (nat_eq x y) refl h
  where
    by : (b : Bool) → nat_eq x y ≡ b → (b && pointwise nat_eq xs ys) ≡ true → (x ∷ xs) ≡ (y ∷ ys)
    by true e g = ap (λ (z : ℕ). z ∷ xs) (eqb-true x y e) ∙ ap (λ (zs : List ℕ). y ∷ zs) (ih g)
    by false e g = absurd cc

octets_same : (xs ys : List ℕ) → pointwise nat_eq xs ys ≡ true → xs ≡ ys
octets_same [] [] h = refl
octets_same [] (y ∷ ys) h = absurd cc
octets_same (x ∷ xs) [] h = absurd cc
octets_same (x ∷ xs) (y ∷ ys) h = ends x y xs ys (octets_same xs ys) h

abbrev Controlled : Context → List ℕ → Left → (Context × Option PlacedRecord) → Type 0
Controlled c verb l y = (read_control c verb l >>= λ d. Ok (d, None)) ≡ Ok y

include_fails : (c : Context) (l : Left) (y : Context × Option PlacedRecord) (ws : List WordText) → l.words ≡ ws → Controlled c (codes "$INCLUDE") l y → directive_by (codes "$INCLUDE") ≡ Neither
unfolding read_control
include_fails c l y [] e h = let none : l.words ≡ [] = e in absurd (let g = rw none at h in cc)
include_fails c l y (w ∷ ws) e h = let some : l.words ≡ w ∷ ws = e in absurd (let g = rw some at h in cc)

generate_fails : (c : Context) (l : Left) (y : Context × Option PlacedRecord) → Controlled c (codes "$GENERATE") l y → directive_by (codes "$GENERATE") ≡ Neither
unfolding read_control
generate_fails c l y h = absurd cc

controlled : (c : Context) (verb : List ℕ) (l : Left) (y : Context × Option PlacedRecord) → Controlled c verb l y → directive_by verb ≡ Neither
controlled c verb l y h = by (same_octets verb (codes "$INCLUDE")) refl
  where
    other : (b : Bool) → same_octets verb (codes "$INCLUDE") ≡ false → same_octets verb (codes "$GENERATE") ≡ b → directive_by verb ≡ Neither
    other true differs e =
        let P : List ℕ → Type 0 = λ v. Controlled c v l y → directive_by v ≡ Neither in
        subst P (sym (octets_same verb (codes "$GENERATE") e)) (generate_fails c l y) h
    other false differs e = rw (differs, e) refl

    by : (b : Bool) → same_octets verb (codes "$INCLUDE") ≡ b → directive_by verb ≡ Neither
    by true e =
        let P : List ℕ → Type 0 = λ v. Controlled c v l y → directive_by v ≡ Neither in
        subst P (sym (octets_same verb (codes "$INCLUDE") e)) (λ k. include_fails c l y l.words refl k) h
    by false e = other (same_octets verb (codes "$GENERATE")) e refl

words_neither : (c : Context) (indented : Bool) (ws : List WordText) (y : Context × Option PlacedRecord) → read_words c indented ws ≡ Ok y → directive_of indented ws ≡ Neither
words_neither c indented [] y h = refl
words_neither c indented (w ∷ ws) y h = by (is_control indented w) refl
  where
    by : (b : Bool) → is_control indented w ≡ b → directive_of indented (w ∷ ws) ≡ Neither
    by true e = rw e (controlled c (upper w.octets) (left_at w.place ws) y (rw e at h))
    by false e = rw e refl

is_read : (ws : List WordText) (x : Result (Context × Option PlacedRecord) Rattle.record_fields.specs.declared.fault.Fault.Fault) (y : Context × Option PlacedRecord) → with_word ws x ≡ Ok y → x ≡ Ok y
is_read ws (Ok z) y h = cc
is_read ws (Err f) y h = absurd cc

pub neither : (c : Context) (e : EntryWords) (y : Context × Option PlacedRecord) → read_entry c e ≡ Ok y → directive_of e.indented e.words ≡ Neither
neither c e y h = words_neither c e.indented e.words y (is_read e.words (read_words c e.indented e.words) y h)

-- ---- entries

pub record IsReadAs (inner : List ℕ → Gathered → Option Gathered) (beside : List ℕ → List ℕ) (es : List Event) (g : Gathered) (rs : List PlacedRecord) : Type 0 where
  pub behind : Gathered
  pub read : entries_read inner beside 0 es g ≡ Some behind
  pub records : behind.records ≡ g.records ++ rs

same_moved : (r : Option PlacedRecord) (rs : List PlacedRecord) → with_moved 0 r rs ≡ (elim r as (λ _. List PlacedRecord) [ None ↦ rs | Some q ↦ rs ++ q ∷ [] ])
same_moved None rs = refl
same_moved (Some q) rs = refl

entry_neither : (inner : List ℕ → Gathered → Option Gathered) (beside : List ℕ → List ℕ) (e : EntryWords) (c d : Context) (r : Option PlacedRecord) (rs : List PlacedRecord) (n : ℕ)
    → read_entry c e ≡ Ok (d, r)
    → entry_read inner beside 0 e (gathered c rs n) ≡ Some (gathered d (with_moved 0 r rs) n)
unfolding entry_read
entry_neither inner beside e c d r rs n h = rw (neither c e (d, r) h, h) refl

abbrev Others : (List ℕ → Gathered → Option Gathered) → (List ℕ → List ℕ) → List Event → ℕ → Type 0
Others inner beside es n = (d : Context) (qs rest : List PlacedRecord) → outcomes es d ≡ map Read rest → IsReadAs inner beside es (gathered d qs n) rest

pub alone : (inner : List ℕ → Gathered → Option Gathered) (beside : List ℕ → List ℕ) (es : List Event) (c : Context) (rs all : List PlacedRecord) (n : ℕ)
    → outcomes es c ≡ map Read all → IsReadAs inner beside es (gathered c rs n) all
alone inner beside [] c rs [] n h = record { behind = gathered c rs n; read = refl; records = sym (append-nil rs) }
alone inner beside [] c rs (a ∷ all) n h = absurd cc
alone inner beside (Broken f ∷ es) c rs [] n h = absurd cc
alone inner beside (Broken f ∷ es) c rs (a ∷ all) n h = absurd cc
alone inner beside (Whole e ∷ es) c rs all n h = by (λ d qs rest g. alone inner beside es d qs rest n g) (read_entry c e) refl h
  where
    more : Others inner beside es n → (d : Context) (r : Option PlacedRecord) (qs rest : List PlacedRecord) → read_entry c e ≡ Ok (d, r) → with_moved 0 r rs ≡ qs
        → qs ++ rest ≡ rs ++ all → outcomes es d ≡ map Read rest → IsReadAs inner beside (Whole e ∷ es) (gathered c rs n) all
    more others d r qs rest k same joined g =
        let ih = others d (with_moved 0 r rs) rest g in
        record {
          behind = ih.behind;
          read = rw (entry_neither inner beside e c d r rs n k) ih.read;
          records = ih.records ∙ ap (λ (x : List PlacedRecord). x ++ rest) same ∙ joined;
        }

    given : Others inner beside es n → (d : Context) (r : Option PlacedRecord) (rest : List PlacedRecord) → read_entry c e ≡ Ok (d, r) → all ≡ rest → with_record r (outcomes es d) ≡ map Read rest → IsReadAs inner beside (Whole e ∷ es) (gathered c rs n) all
    given others d None rest k same g = more others d None rs rest k refl (ap (λ (x : List PlacedRecord). rs ++ x) (sym same)) g
    given others d (Some q) [] k same g = absurd cc
    given others d (Some q) (a ∷ rest) k same g =
        let first : q ≡ a = cc in
        let behind : outcomes es d ≡ map Read rest = cc in
        more others d (Some q) (rs ++ q ∷ []) rest k refl
        (append_assoc rs (q ∷ []) rest ∙ ap (λ (x : PlacedRecord). rs ++ x ∷ rest) first ∙ ap (λ (x : List PlacedRecord). rs ++ x) (sym same)) behind

    stops : (f : ZoneFault) (qs : List PlacedRecord) → Stopped f ∷ [] ≡ map Read qs → IsReadAs inner beside (Whole e ∷ es) (gathered c rs n) all
    stops f [] g = absurd cc
    stops f (a ∷ qs) g = absurd cc

    by : Others inner beside es n → (x : Result (Context × Option PlacedRecord) ZoneFault) → read_entry c e ≡ x → outcome_then x (outcomes es) ≡ map Read all → IsReadAs inner beside (Whole e ∷ es) (gathered c rs n) all
    by others (Ok (d, r)) k g = given others d r all k refl g
    by others (Err f) k g = stops f all g

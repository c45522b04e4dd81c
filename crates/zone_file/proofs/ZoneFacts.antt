-- Entries read one after the other
use Rattle.std.proofs.Common.{◌≡◌, ℕ, List, [], ◌∷◌, ◌++◌, Option, Ok, Err, refl, sym, ap, subst, ◌∙◌}
use Rattle.std.specs.Prelude.{map}
use Rattle.std.proofs.lemmas.List.{append-nil}
use Rattle.zone_proto.specs.Names.{Name}
use Rattle.zone_scanner.specs.declared.fault.EntryFault.{EntryFault}
use Rattle.zone_scanner.specs.declared.fault.EntryError.{EntryError}
use Rattle.zone_scanner.specs.declared.fault.EntryError.TheVariants as entries
use Rattle.zone_scanner.specs.Entries.{EntryWords, Event, Whole, Broken}
use Rattle.zone_file.specs.declared.context.Context.{Context}
use Rattle.zone_file.specs.declared.placed.PlacedRecord.{PlacedRecord}
use Rattle.zone_file.specs.declared.error.ZoneFault.{ZoneFault}
use Rattle.zone_file.specs.declared.error.ZoneError.TheVariants as errors
use Rattle.zone_file.specs.Faults.{as_fault, error_of}
use Rattle.zone_file.specs.Records.{read_entry}
use Rattle.zone_file.specs.Zones.{EndsIn, Outcome, Read, Standing, Stopped, outcomes, outcomes_from, with_record, zone_of}

pub same_outcomes : (c : Context) (es fs : List Event) → es ≡ fs → outcomes es c ≡ outcomes fs c
same_outcomes c es fs h = ap (λ (x : List Event). outcomes x c) h

pub entry_read : (es rest : List Event) (e : EntryWords) (c d : Context) (r : Option PlacedRecord)
    → es ≡ Whole e ∷ rest → read_entry c e ≡ Ok (d, r) → outcomes es c ≡ with_record r (outcomes rest d)
entry_read es rest e c d r h k = rw (h, k) refl

pub entry_wrong : (es rest : List Event) (e : EntryWords) (c : Context) (f : ZoneFault)
    → es ≡ Whole e ∷ rest → read_entry c e ≡ Err f → outcomes es c ≡ Stopped f ∷ []
entry_wrong es rest e c f h k = rw (h, k) refl

pub text_wrong : (es : List Event) (c : Context) (x : EntryError) (f : ZoneFault)
    → error_of x ≡ errors.Fault f → ((g : EntryFault) → x ≡ entries.Fault g → es ≡ Broken g ∷ []) → outcomes es c ≡ Stopped f ∷ []
text_wrong es c entries.Memory f h k = absurd (cc)
text_wrong es c (entries.Fault g) f h k =
    let same : as_fault g ≡ f = cc in
    rw (k g refl) (ap (λ (x : ZoneFault). Stopped x ∷ []) same)

pub ruleset readings = (entry_read, entry_wrong, text_wrong)

-- ---- whole texts: what was read so far, and the rest of it

-- one record more, or none
pub one_more : (rs qs : List PlacedRecord) (all os others : List Outcome) (r : Option PlacedRecord)
    → all ≡ map Read rs ++ os → os ≡ with_record r others
    → ((more : List Outcome) → map Read rs ++ with_record r more ≡ map Read qs ++ more)
    → all ≡ map Read qs ++ others
one_more rs qs all os others r h k p = h ∙ ap (λ (x : List Outcome). map Read rs ++ x) k ∙ p others

-- the last record, or none
pub last_one : (rs qs : List PlacedRecord) (os : List Outcome) (r : Option PlacedRecord)
    → os ≡ with_record r []
    → ((more : List Outcome) → map Read rs ++ with_record r more ≡ map Read qs ++ more)
    → map Read rs ++ os ≡ map Read qs
last_one rs qs os r k p = ap (λ (x : List Outcome). map Read rs ++ x) k ∙ p [] ∙ append-nil (map Read qs)

-- a fault behind what was read
pub stops : (rs : List PlacedRecord) (all os : List Outcome) (f : ZoneFault) → all ≡ map Read rs ++ os → os ≡ Stopped f ∷ [] → EndsIn f all
stops rs all os f h k = (rs, h ∙ ap (λ (x : List Outcome). map Read rs ++ x) k)

-- a text whose records are taken as one piece, behind none
of_text : (origin : Name) (text : List ℕ) (y : Standing) (ps : List PlacedRecord) → ps ≡ [] → ((t : List ℕ) → outcomes_from t y ≡ zone_of origin t)
    → map Read ps ++ outcomes_from (text ++ []) y ≡ zone_of origin text
of_text origin text y ps none start =
    ap (λ (rs : List PlacedRecord). map Read rs ++ outcomes_from (text ++ []) y) none ∙ start (text ++ []) ∙ ap (zone_of origin) (append-nil text)

pub whole_text : (origin : Name) (text : List ℕ) (y z : Standing) (ps rs qs : List PlacedRecord)
    → ps ≡ [] → ((t : List ℕ) → outcomes_from t y ≡ zone_of origin t)
    → ((more : List ℕ) → map Read ps ++ outcomes_from (text ++ more) y ≡ map Read rs ++ outcomes_from more z)
    → map Read rs ++ outcomes_from [] z ≡ map Read qs
    → zone_of origin text ≡ map Read qs
whole_text origin text y z ps rs qs none start h k = sym (of_text origin text y ps none start) ∙ h [] ∙ k

pub piece_ends : (origin : Name) (text : List ℕ) (y : Standing) (ps : List PlacedRecord) (f : ZoneFault)
    → ps ≡ [] → ((t : List ℕ) → outcomes_from t y ≡ zone_of origin t)
    → ((more : List ℕ) → EndsIn f (map Read ps ++ outcomes_from (text ++ more) y))
    → EndsIn f (zone_of origin text)
piece_ends origin text y ps f none start h = subst (EndsIn f) (of_text origin text y ps none start) (h [])

pub text_ends : (origin : Name) (text : List ℕ) (y z : Standing) (ps rs : List PlacedRecord) (f : ZoneFault)
    → ps ≡ [] → ((t : List ℕ) → outcomes_from t y ≡ zone_of origin t)
    → ((more : List ℕ) → map Read ps ++ outcomes_from (text ++ more) y ≡ map Read rs ++ outcomes_from more z)
    → EndsIn f (map Read rs ++ outcomes_from [] z)
    → EndsIn f (zone_of origin text)
text_ends origin text y z ps rs f none start h k = subst (EndsIn f) (sym (h []) ∙ of_text origin text y ps none start) k

pub ruleset ends = (last_one, stops)

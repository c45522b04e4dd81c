-- Printed parameters of a service are read as their octets.
use Rattle.std.proofs.Common.{◌≡◌, ℕ, List, [], ◌∷◌, map, Bool, true, false, cond, ◌==◌, Result, Ok, Err, refl, ap, arith, eqb-true, eq-eqb, Decides}
use Rattle.std.proofs.lemmas.Bool.Decides.{leb_tells}
use Rattle.zone_proto.specs.Data.{same_octets}
use Rattle.zone_scanner.specs.declared.place.Place.{Place}
use Rattle.zone_scanner.specs.Signs.{place_behind}
use Rattle.service_parameters.specs.declared.fault.ParameterFault.{ParameterFault}
use Rattle.service_parameters.specs.declared.fault.ParameterFault.TheVariants as faults
use Rattle.service_parameters.specs.Parameters.{KeyValue, whole, with_word}
use Rattle.record_fields.specs.Fields.{left_at}
use Rattle.record_fields.specs.Parameters.{next_parameters, parameters_of}
use Rattle.record_fields.specs.Texts.{generic, is_generic}
use Rattle.zone_file_writer.specs.BareWords.{are_of_word, goes_on, is_bare}
use Rattle.zone_file_writer.specs.Parameters.{are_octets, are_read, read_texts, then_read, with_printed}
use Rattle.zone_file_writer.specs.Words.{Bare}
use Rattle.zone_file_writer.proofs.Lines.{AreWordTexts, IsBareText, IsInWord, IsOrdinary, place_after, words_from}
use Rattle.zone_file_writer.proofs.PlacedWords.{left}
use Rattle.zone_file_writer.proofs.WordTexts.{ordinary}
use Rattle.std.proofs.lemmas.Slice.Eq.{slice_eq-Decides}

-- ---- bare words

goes_on_is : (b : ℕ) → goes_on b ≡ true → IsOrdinary b
goes_on_is b h = ordinary b (grind (arith, leb_tells)) (grind arith)

no_end : (b : ℕ) → goes_on b ≡ true → ((b == 10) ≡ false) × ((b == 13) ≡ false)
no_end b h = ((goes_on_is b h).feed, (goes_on_is b h).carriage)

in_word_of : (e : Bool) (t : List ℕ) → are_of_word e t ≡ true → IsInWord e t
in_word_of false [] h = tt
in_word_of true [] h = absurd (cc)
in_word_of false (b ∷ t) h = by (goes_on b) refl h (in_word_of (b == 92) t)
  where
    by : (c : Bool) → goes_on b ≡ c → cond c (are_of_word (b == 92) t) false ≡ true → (are_of_word (b == 92) t ≡ true → IsInWord (b == 92) t) → IsInWord false (b ∷ t)
    by true e g more = (goes_on_is b e, more g)
    by false e g more = absurd (cc)
in_word_of true (b ∷ t) h = by (goes_on b) refl h (in_word_of false t)
  where
    by : (c : Bool) → goes_on b ≡ c → cond c (are_of_word false t) false ≡ true → (are_of_word false t ≡ true → IsInWord false t) → IsInWord true (b ∷ t)
    by true e g more = ((no_end b e).0, (no_end b e).1, more g)
    by false e g more = absurd (cc)

pub record IsBareWord (t : List ℕ) : Type 0 where
  pub text : IsBareText t
  pub own : same_octets t generic ≡ false

pub bare_word : (t : List ℕ) → is_bare t ≡ true → IsBareWord t
bare_word [] h = absurd (cc)
bare_word (b ∷ t) h = by (same_octets (b ∷ t) generic) refl h
  where
    by : (c : Bool) → same_octets (b ∷ t) generic ≡ c → cond c false (are_of_word false (b ∷ t)) ≡ true → IsBareWord (b ∷ t)
    by true e g = absurd (cc)
    by false e g = record { text = in_word_of false (b ∷ t) g; own = e }

-- ---- words that are read

-- words that are printed so are read, each by itself
pub record AreWords (ps qs : List KeyValue) (ts : List (List ℕ)) : Type 0 where
  pub texts : AreWordTexts (map Bare ts)
  pub own : (p : Place) → is_generic (words_from p (map Bare ts)) ≡ false
  pub read : (p : Place) → parameters_of ps (words_from p (map Bare ts)) ≡ Ok qs

given_word : (ps qs : List KeyValue) (t : List ℕ) → with_printed ps t ≡ Ok qs → (is_bare t ≡ true) × (with_word ps t ≡ Ok qs)
given_word ps qs t h = by (is_bare t) refl h
  where
    by : (c : Bool) → is_bare t ≡ c → cond c (with_word ps t) (Err faults.Key) ≡ Ok qs → (is_bare t ≡ true) × (with_word ps t ≡ Ok qs)
    by true e g = (e, g)
    by false e g = absurd (cc)

first_read : (ps rs qs : List KeyValue) (t : List ℕ) (ts : List (List ℕ)) (p : Place) → with_word ps t ≡ Ok rs
    → parameters_of rs (words_from (place_behind (place_after p t) 32) (map Bare ts)) ≡ Ok qs → parameters_of ps (words_from p (map Bare (t ∷ ts))) ≡ Ok qs
first_read ps rs qs t [] p word more = rw word more
first_read ps rs qs t (u ∷ ts) p word more = rw word more

abbrev read_or : List KeyValue → Result (List KeyValue) ParameterFault → List KeyValue
read_or ps (Ok qs) = qs
read_or ps (Err f) = ps

texts_read : (ps qs : List KeyValue) (ts : List (List ℕ)) → read_texts ps ts ≡ Ok qs → AreWords ps qs ts
texts_read ps qs [] h = record { texts = tt; own = λ p. refl; read = λ p. ap (λ (rs : List KeyValue). Ok rs) (ap (read_or ps) h) }
texts_read ps qs (t ∷ ts) h = by (with_printed ps t) refl h (λ rs. texts_read rs qs ts)
  where
    by : (r : Result (List KeyValue) ParameterFault) → with_printed ps t ≡ r → then_read r (λ rs. read_texts rs ts) ≡ Ok qs
        → ((rs : List KeyValue) → read_texts rs ts ≡ Ok qs → AreWords rs qs ts) → AreWords ps qs (t ∷ ts)
    by (Err f) e g others = absurd (cc)
    by (Ok rs) e g others =
        let word = given_word ps rs t e in
        let bare = bare_word t word.0 in
        let more = others rs g in
        record {
          texts = (bare.text, more.texts);
          own = λ p. bare.own;
          read = λ p. first_read ps rs qs t ts p word.1 (more.read (place_behind (place_after p t) 32));
        }

-- ---- parameters

pub record IsPrinted (os : List ℕ) (ts : List (List ℕ)) : Type 0 where
  pub texts : AreWordTexts (map Bare ts)
  pub own : (p : Place) → is_generic (words_from p (map Bare ts)) ≡ false
  pub read : (q p : Place) → next_parameters (left q p (map Bare ts)) ≡ Ok (os, left_at q [])

number_Decides : (a b : ℕ) → Decides (a == b) (a ≡ b)
number_Decides a b = (λ e. eqb-true a b e, λ e. eq-eqb a b e)

pub same : (xs ys : List ℕ) → same_octets xs ys ≡ true → xs ≡ ys
same xs ys h = (slice_eq-Decides number_Decides xs ys (same_octets xs ys) refl).0 h

pub parameters_back : (os : List ℕ) (ts : List (List ℕ)) → are_read os (read_texts [] ts) ≡ true → IsPrinted os ts
parameters_back os ts h = by (read_texts [] ts) refl h
  where
    at : (ps : List KeyValue) → AreWords [] ps ts → (r : Result (List ℕ) ParameterFault) → whole ps ≡ r → are_octets os r ≡ true → IsPrinted os ts
    at ps words (Err f) e g = absurd (cc)
    at ps words (Ok read) e g =
        let octets : read ≡ os = same read os g in
        record { texts = words.texts; own = words.own; read = λ q p. rw (words.read p, e, octets) refl }

    by : (r : Result (List KeyValue) ParameterFault) → read_texts [] ts ≡ r → are_read os r ≡ true → IsPrinted os ts
    by (Err f) e g = absurd (cc)
    by (Ok ps) e g = at ps (texts_read [] ps ts e) (whole ps) refl g

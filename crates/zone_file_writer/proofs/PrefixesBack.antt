-- Printed address prefixes, and the printed address of an access point, are read as their octets.
use Rattle.std.proofs.Common.{◌≡◌, ℕ, zero, suc, ◌+◌, ◌/◌, ◌%◌, ◌==◌, ◌&&◌, List, [], ◌∷◌, ◌++◌, length, take, drop, Bool, true, false, cond, Option, Some, None, Ok, refl, ap, ◌∙◌, arith, eqb-true}
use Rattle.std.specs.Prelude.{nat_le, nat_lt, not, option_map}
use Rattle.std.proofs.lemmas.Bool.Decides.{nat_tests}
use Rattle.line_text.proofs.PrintedWords.{and_both}
use Rattle.message_reading.specs.Octets.{◌>>=◌, octet_of, octets_of, short_of}
use Rattle.zone_scanner.specs.declared.place.Place.{Place}
use Rattle.zone_tokens.specs.Hex.{hex_text}
use Rattle.record_fields.specs.Parts.{access_point_of_word, without_dots}
use Rattle.record_fields.specs.Prefixes.{prefix_of_word}
use Rattle.record_fields.specs.Texts.{is_generic, prefixes_of}
use Rattle.zone_file_writer.specs.BareWords.{is_bare}
use Rattle.zone_file_writer.specs.Locations.{is_octets}
use Rattle.zone_file_writer.specs.Others.{hex_digit, hex_digits}
use Rattle.zone_file_writer.specs.Prefixes.{item_front, prefix_text, prefix_word, prefixes_within, without_sign, word_if_read}
use Rattle.zone_file_writer.specs.Words.{PrintedWord, Bare}
use Rattle.zone_file_writer.proofs.FieldsBack.{AreOctets, joined_cut}
use Rattle.zone_file_writer.proofs.Lines.{AreWordTexts, IsOrdinary, IsWordText, words_from}
use Rattle.zone_file_writer.proofs.LocationsBack.{read_is}
use Rattle.zone_file_writer.proofs.NamesBack.{not_generic}
use Rattle.zone_file_writer.proofs.NumbersBack.{digits_back}
use Rattle.zone_file_writer.proofs.ParametersBack.{IsBareWord, bare_word}
use Rattle.zone_file_writer.proofs.PlacedWords.{behind}
use Rattle.zone_file_writer.proofs.WordTexts.{in_word}

-- a word that a prefix is printed as
pub record IsPrefix (first : List ℕ) (w : PrintedWord) : Type 0 where
  pub text : IsWordText w
  pub own : (p : Place) (ws : List PrintedWord) → is_generic (words_from p (w ∷ ws)) ≡ false
  pub read : (p : Place) (ws : List PrintedWord) (more : List ℕ) → prefixes_of (words_from (behind p w) ws) ≡ Ok more
      → prefixes_of (words_from p (w ∷ ws)) ≡ Ok (first ++ more)

abbrev IsPrefixIf : List ℕ → Option PrintedWord → Type 0
IsPrefixIf first None = Unit {0}
IsPrefixIf first (Some w) = IsPrefix first w

-- what stands bare, with `!` in front or not
sign_ordinary : IsOrdinary 33
sign_ordinary = record {
  space = refl;
  tab = refl;
  comment = refl;
  feed = refl;
  carriage = refl;
  opens = refl;
  closes = refl;
  quoted = refl;
}

signed_word : (t : List ℕ) → is_bare (without_sign t) ≡ true → IsBareWord t
signed_word [] h = absurd (cc)
signed_word (b ∷ t) h = by (b == 33) refl h
  where
    by : (c : Bool) → (b == 33) ≡ c → is_bare (cond c t (b ∷ t)) ≡ true → IsBareWord (b ∷ t)
    by false e g = bare_word (b ∷ t) g
    by true e g =
        let is : b ≡ 33 = eqb-true b 33 e in
        rw is (record { text = (sign_ordinary, in_word t (bare_word t g).text); own = not_generic 33 t refl })

prefix_back : (first : List ℕ) → IsPrefixIf first (prefix_word first)
prefix_back first = by (prefix_text first)
  where
    at : (t : List ℕ) (b : Bool) → (is_bare (without_sign t) && is_octets first (prefix_of_word t)) ≡ b → IsPrefixIf first (cond b (Some (Bare t)) None)
    at t false e = tt
    at t true e =
        let both = and_both (is_bare (without_sign t)) (is_octets first (prefix_of_word t)) e in
        let word = signed_word t both.0 in
        let is : prefix_of_word t ≡ Some first = read_is first (prefix_of_word t) both.1 in
        record { text = word.text; own = λ p ws. word.own; read = λ p ws more h. rw (is, h) refl }

    by : (o : Option (List ℕ)) → IsPrefixIf first (o >>= word_if_read first)
    by None = tt
    by (Some t) = at t (is_bare (without_sign t) && is_octets first (prefix_of_word t)) refl

-- prefixes to the end
pub record ArePrefixes (os : List ℕ) (ws : List PrintedWord) : Type 0 where
  pub texts : AreWordTexts ws
  pub own : (p : Place) → is_generic (words_from p ws) ≡ false
  pub read : (p : Place) → prefixes_of (words_from p ws) ≡ Ok os

abbrev pub ArePrefixesIf : List ℕ → Option (List PrintedWord) → Type 0
ArePrefixesIf os None = Unit {0}
ArePrefixesIf os (Some ws) = ArePrefixes os ws

-- the octets of a prefix, and those behind it
abbrev IsCutIf : List ℕ → Option (List ℕ × List ℕ) → Type 0
IsCutIf os None = Unit {0}
IsCutIf os (Some x) = x.0 ++ x.1 ≡ os

front_cut : (n : ℕ) (os : List ℕ) → IsCutIf os (octets_of n os)
front_cut n os = by (nat_le n (length os))
  where
    by : (b : Bool) → IsCutIf os (cond b (Some (take n os, drop n os)) None)
    by true = joined_cut n os
    by false = tt

item_cut : (os : List ℕ) → IsCutIf os (item_front os)
item_cut os = at_family (short_of os)
  where
    at_count : (o : Option (ℕ × List ℕ)) → IsCutIf os (o >>= λ count. octets_of (4 + count.0 % 128) os)
    at_count None = tt
    at_count (Some count) = front_cut (4 + count.0 % 128) os

    at_bits : (o : Option (ℕ × List ℕ)) → IsCutIf os (o >>= λ bits. octet_of bits.1 >>= λ count. octets_of (4 + count.0 % 128) os)
    at_bits None = tt
    at_bits (Some bits) = at_count (octet_of bits.1)

    at_family : (o : Option (ℕ × List ℕ)) → IsCutIf os (o >>= λ family. octet_of family.1 >>= λ bits. octet_of bits.1 >>= λ count. octets_of (4 + count.0 % 128) os)
    at_family None = tt
    at_family (Some family) = at_bits (octet_of family.1)

abbrev beside : List ℕ → Option PrintedWord → Option (PrintedWord × List ℕ)
beside rest o = o >>= λ w. Some (w, rest)

pub prefixes_back : (n : ℕ) (os : List ℕ) → ArePrefixesIf os (prefixes_within n os)
prefixes_back n [] = record { texts = tt; own = λ p. refl; read = λ p. refl }
prefixes_back zero (b ∷ os) = tt
prefixes_back (suc n) (b ∷ os) = by (item_front (b ∷ os)) (item_cut (b ∷ os)) (prefixes_back n)
  where
    at : (first rest : List ℕ) → first ++ rest ≡ b ∷ os → (w : PrintedWord) → IsPrefix first w → (o : Option (List PrintedWord)) → ArePrefixesIf rest o
        → ArePrefixesIf (b ∷ os) (option_map (λ ws. w ∷ ws) o)
    at first rest all w this None more = tt
    at first rest all w this (Some ws) more = record {
      texts = (this.text, more.texts);
      own = λ p. this.own p ws;
      read = λ p. this.read p ws rest (more.read (behind p w)) ∙ ap Ok all;
    }

    word : (first rest : List ℕ) → first ++ rest ≡ b ∷ os → (o : Option PrintedWord) → IsPrefixIf first o → ArePrefixesIf rest (prefixes_within n rest)
        → ArePrefixesIf (b ∷ os) (beside rest o >>= λ x. option_map (λ ws. x.0 ∷ ws) (prefixes_within n x.1))
    word first rest all None this more = tt
    word first rest all (Some w) this more = at first rest all w this (prefixes_within n rest) more

    by : (o : Option (List ℕ × List ℕ)) → IsCutIf (b ∷ os) o → ((rest : List ℕ) → ArePrefixesIf rest (prefixes_within n rest))
        → ArePrefixesIf (b ∷ os) ((o >>= λ x. beside x.1 (prefix_word x.0)) >>= λ x. option_map (λ ws. x.0 ∷ ws) (prefixes_within n x.1))
    by None all others = tt
    by (Some x) all others = word x.0 x.1 all (prefix_word x.0) (prefix_back x.0) (others x.1)

-- ---- access points

not_dot : (d : ℕ) → not (hex_digit d == 46) ≡ true
not_dot d = by (nat_lt d 10)
  where
    by : (b : Bool) → not (cond b (48 + d) (55 + d) == 46) ≡ true
    by true = grind (arith, nat_tests)
    by false = grind (arith, nat_tests)

no_dots : (os : List ℕ) → without_dots (hex_digits os) ≡ hex_digits os
no_dots [] = refl
no_dots (o ∷ os) = rw (not_dot (o / 16), not_dot (o % 16), no_dots os) refl

pub access_point_back : (o : ℕ) (os : List ℕ) → AreOctets (o ∷ os) → access_point_of_word (48 ∷ 120 ∷ hex_digits (o ∷ os)) ≡ Some (o ∷ os)
access_point_back o os h = ap hex_text (no_dots (o ∷ os)) ∙ digits_back o os h

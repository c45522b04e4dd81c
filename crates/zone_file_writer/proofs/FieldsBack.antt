-- A field that is printed is read as its octets.
use Rattle.std.proofs.Common.{◌≡◌, ◌≤◌, ◌<◌, ◌^◌, ℕ, zero, suc, ◌+◌, ◌*◌, ◌/◌, ◌%◌, List, [], ◌∷◌, ◌++◌, length, take, drop, Bool, true, false, cond, Option, Some, None, Ok, refl, sym, ap, subst, ◌∙◌, arith}
use Rattle.std.specs.Prelude.{nat_le}
use Rattle.std.specs.Fmt.{decimal}
use Rattle.std.specs.List.{AllByRecursion}
use Rattle.std.proofs.lemmas.Bool.Decides.{leb_tells}
use Rattle.zone_proto.specs.Names.{Name, IsName, wire_form}
use Rattle.zone_proto.specs.Data.{same_octets}
use Rattle.zone_proto.specs.declared.record_type.RecordType.{RecordType}
use Rattle.line_text.specs.Addresses.{ipv4_text, ipv6_text}
use Rattle.line_text.specs.Numbers.{number_within}
use Rattle.message_reading.specs.Octets.{◌>>=◌, counted_of, octet_of, octets_of, short_of}
use Rattle.zone_scanner.specs.declared.place.Place.{Place}
use Rattle.zone_tokens.specs.Addresses.{ipv4_of_word}
use Rattle.zone_tokens.specs.Strings.{string_of_word}
use Rattle.zone_tokens.specs.Types.{algorithm_named, certificate_type_named, digest_type_named}
use Rattle.record_fields.specs.declared.fault.Reason.{Reason}
use Rattle.record_fields.specs.declared.fault.Reason.TheVariants as reason
use Rattle.record_fields.specs.declared.field.Field.{Field}
use Rattle.record_fields.specs.declared.field.Field.TheVariants as F
use Rattle.record_fields.specs.Fields.{Left, is_of_messages, next, record_type_named}
use Rattle.record_fields.specs.Parts.{as_octets, groups_of_word, is_tag, long, octet, pairs_of_word, scheme_named, short, tag_of_word}
use Rattle.record_fields.specs.Rows.{next_field}
use Rattle.record_fields.specs.Texts.{generic, is_generic}
use Rattle.zone_file_writer.specs.Labels.{is_wire_form, labels_of}
use Rattle.zone_file_writer.specs.Others.{string_word}
use Rattle.zone_file_writer.specs.Printable.{IsRecordType}
use Rattle.zone_file_writer.specs.Rows.{field_words, if_name, if_tag, name_front, name_length, name_word, number_word, one_word, pairs_text, pairs_word}
use Rattle.zone_file_writer.specs.Strings.{escaped, strings_of}
use Rattle.zone_file_writer.specs.Words.{PrintedWord, Bare, type_word}
use Rattle.zone_file_writer.proofs.AddressesBack.{ipv4_back}
use Rattle.zone_file_writer.proofs.LabelFacts.{named}
use Rattle.zone_file_writer.proofs.Lines.{AreWordTexts, IsBareText, words_from}
use Rattle.zone_file_writer.proofs.NamesBack.{first_of_name, name_there, not_generic}
use Rattle.zone_file_writer.proofs.NumbersBack.{u8_back, u16_back, u32_back, algorithm_back, type_back}
use Rattle.zone_file_writer.proofs.OwnFirst.{decimal_own, ipv4_own}
use Rattle.zone_file_writer.proofs.PartsBack.{IsPart, groups_back, groups_part, pairs_back, pairs_part}
use Rattle.zone_file_writer.proofs.PlacedWords.{last_from, left, place_from}
use Rattle.zone_file_writer.proofs.StringFacts.{counted, front, octets_front, text_back}
use Rattle.zone_file_writer.proofs.TypesBack.{type_own}
use Rattle.zone_file_writer.proofs.WordTexts.{decimal_text, ipv4_is_text, name_is_text, quoted_is_text, tag_in_word, tag_itself, tag_plain, type_is_text}

abbrev pub AreOctets : List ℕ → Type 0
AreOctets os = AllByRecursion (λ b. b < 256) os

abbrev pub is_filled : List PrintedWord → Bool
is_filled [] = false
is_filled (w ∷ ws) = true

-- words that a field is printed as: they are read as the octets at the front, whatever words follow
pub record IsBack (origin : Name) (f : Field) (os : List ℕ) (ws : List PrintedWord) (rest : List ℕ) : Type 0 where
  pub front : List ℕ
  pub all : front ++ rest ≡ os
  pub octets : AreOctets rest
  pub texts : AreWordTexts ws
  pub filled : is_filled ws ≡ true
  pub own : (p : Place) → is_generic (words_from p ws) ≡ false
  pub read : (q p : Place) (more : List PrintedWord)
      → next_field origin f (left q p (ws ++ more)) ≡ Ok (front, left (last_from q p ws) (place_from p ws) more)

abbrev pub IsBackIf : Name → Field → List ℕ → Option (List PrintedWord × List ℕ) → Type 0
IsBackIf origin f os None = Unit {0}
IsBackIf origin f os (Some x) = IsBack origin f os x.0 x.1

-- a number, which is read by itself and has octets of this form
number_field : (origin : Name) (f : Field) (read : List ℕ → Option ℕ) (why : Reason) (form : ℕ → List ℕ)
    → ((l : Left) → next_field origin f l ≡ as_octets form (next read why l))
    → (n : ℕ) (os rest : List ℕ) → n < 2 ^ 64 → read (decimal n) ≡ Some n → form n ++ rest ≡ os → AreOctets rest → IsBack origin f os (number_word n ∷ []) rest
number_field origin f read why form is n os rest small back all octets = record {
  front = form n;
  all = all;
  octets = octets;
  texts = (decimal_text n small, tt);
  filled = refl;
  own = λ p. decimal_own n small;
  read = λ q p more. is (left q p (number_word n ∷ more)) ∙ rw back refl;
}

-- a word without quotes, which is read by itself
word_field : (origin : Name) (f : Field) (read : List ℕ → Option (List ℕ)) (why : Reason) → ((l : Left) → next_field origin f l ≡ next read why l)
    → (t front os rest : List ℕ) → IsBareText t → same_octets t generic ≡ false → read t ≡ Some front → front ++ rest ≡ os → AreOctets rest
    → IsBack origin f os (Bare t ∷ []) rest
word_field origin f read why is t front os rest text own back all octets = record {
  front = front;
  all = all;
  octets = octets;
  texts = (text, tt);
  filled = refl;
  own = λ p. own;
  read = λ q p more. is (left q p (Bare t ∷ more)) ∙ rw back refl;
}

-- ---- numbers

short_all : (a b : ℕ) (rest : List ℕ) → a < 256 → b < 256 → short (a * 256 + b) ++ rest ≡ a ∷ b ∷ rest
short_all a b rest h k =
    let high : (a * 256 + b) / 256 ≡ a = omega arith in
    let low : (a * 256 + b) % 256 ≡ b = omega arith in
    rw (high, low) refl

long_all : (a b c d : ℕ) (rest : List ℕ) → AreOctets (a ∷ b ∷ c ∷ d ∷ []) → long ((a * 256 + b) * 65536 + (c * 256 + d)) ++ rest ≡ a ∷ b ∷ c ∷ d ∷ rest
long_all a b c d rest (h, (i, (j, (k, l)))) =
    let high : ((a * 256 + b) * 65536 + (c * 256 + d)) / 65536 ≡ a * 256 + b = omega arith in
    let low : ((a * 256 + b) * 65536 + (c * 256 + d)) % 65536 ≡ c * 256 + d = omega arith in
    rw (high, low, short_all a b (short (c * 256 + d) ++ rest) h i) (ap (λ (t : List ℕ). a ∷ b ∷ t) (short_all c d rest j k))

octet_field : (origin : Name) (f : Field) (read : List ℕ → Option ℕ) (why : Reason) → ((l : Left) → next_field origin f l ≡ as_octets octet (next read why l))
    → ((n : ℕ) → n < 256 → read (decimal n) ≡ Some n) → (os : List ℕ) → AreOctets os → IsBackIf origin f os (one_word number_word (octet_of os))
octet_field origin f read why is back [] h = tt
octet_field origin f read why is back (b ∷ rest) h =
    number_field origin f read why octet is b (b ∷ rest) rest (omega (arith, h.0)) (back b h.0) refl h.1

short_field : (origin : Name) (f : Field) (read : List ℕ → Option ℕ) (why : Reason) → ((l : Left) → next_field origin f l ≡ as_octets short (next read why l))
    → ((n : ℕ) → n < 65536 → read (decimal n) ≡ Some n) → (os : List ℕ) → AreOctets os → IsBackIf origin f os (one_word number_word (short_of os))
short_field origin f read why is back [] h = tt
short_field origin f read why is back (a ∷ []) h = tt
short_field origin f read why is back (a ∷ b ∷ rest) h =
    let small : a * 256 + b < 65536 = omega (arith, h.0, h.1.0) in
    number_field origin f read why short is (a * 256 + b) (a ∷ b ∷ rest) rest (omega arith) (back (a * 256 + b) small) (short_all a b rest h.0 h.1.0) h.1.1

long_field : (origin : Name) (os : List ℕ) → AreOctets os → IsBackIf origin F.Number32 os (field_words F.Number32 os)
long_field origin [] h = tt
long_field origin (a ∷ []) h = tt
long_field origin (a ∷ b ∷ []) h = tt
long_field origin (a ∷ b ∷ c ∷ []) h = tt
long_field origin (a ∷ b ∷ c ∷ d ∷ rest) h =
    let small : (a * 256 + b) * 65536 + (c * 256 + d) < 4294967296 = omega (arith, h.0, h.1.0, h.1.1.0, h.1.1.1.0) in
    number_field origin F.Number32 (number_within 10 4294967295) reason.Number32 long (λ l. refl) ((a * 256 + b) * 65536 + (c * 256 + d)) (a ∷ b ∷ c ∷ d ∷ rest) rest (omega arith)
    (u32_back ((a * 256 + b) * 65536 + (c * 256 + d)) small) (long_all a b c d rest (h.0, (h.1.0, (h.1.1.0, (h.1.1.1.0, tt))))) h.1.1.1.1

digest_type_back : (n : ℕ) → n < 256 → digest_type_named (decimal n) ≡ Some n
digest_type_back n h = rw (u8_back n h) refl

certificate_type_back : (n : ℕ) → n < 65536 → certificate_type_named (decimal n) ≡ Some n
certificate_type_back n h = rw (u16_back n h) refl

-- ---- octets of a count

pub record IsCut (n : ℕ) (os first rest : List ℕ) : Type 0 where
  pub size : length first ≡ n
  pub all : first ++ rest ≡ os
  pub first_octets : AreOctets first
  pub rest_octets : AreOctets rest

take_drop : (n : ℕ) (os : List ℕ) → n ≤ length os → length (take n os) ≡ n
take_drop zero os h = refl
take_drop (suc n) [] h = absurd (omega arith)
take_drop (suc n) (b ∷ os) h = omega (arith, take_drop n os (omega arith))

pub joined_cut : (n : ℕ) (os : List ℕ) → take n os ++ drop n os ≡ os
joined_cut zero os = refl
joined_cut (suc n) [] = refl
joined_cut (suc n) (b ∷ os) = ap (λ (t : List ℕ). b ∷ t) (joined_cut n os)

pub cut : (n : ℕ) (os : List ℕ) → n ≤ length os → AreOctets os → IsCut n os (take n os) (drop n os)
cut n os h octets =
    let parts = octets_front (take n os) (drop n os) (subst AreOctets (sym (joined_cut n os)) octets) in
    record { size = take_drop n os h; all = joined_cut n os; first_octets = parts.0; rest_octets = parts.1 }

-- a field of so many octets
abbrev IsCutBack : Name → Field → ℕ → (List ℕ → PrintedWord) → Type 0
IsCutBack origin f n word = (os first rest : List ℕ) → IsCut n os first rest → IsBack origin f os (word first ∷ []) rest

counted_field : (origin : Name) (f : Field) (n : ℕ) (word : List ℕ → PrintedWord) → IsCutBack origin f n word → (os : List ℕ) → AreOctets os
    → IsBackIf origin f os (one_word word (octets_of n os))
counted_field origin f n word back os h = by (nat_le n (length os)) refl
  where
    by : (b : Bool) → nat_le n (length os) ≡ b → IsBackIf origin f os (one_word word (cond b (Some (take n os, drop n os)) None))
    by false e = tt
    by true e = let within : n ≤ length os = grind (arith, leb_tells) in back os (take n os) (drop n os) (cut n os within h)

ipv4_field : (origin : Name) → IsCutBack origin F.Ipv4 4 (λ a. Bare (ipv4_text a))
ipv4_field origin os first rest h =
    word_field origin F.Ipv4 ipv4_of_word reason.Ipv4 (λ l. refl) (ipv4_text first) first os rest (ipv4_is_text first h.size h.first_octets)
    (ipv4_own first h.size h.first_octets) (ipv4_back first h.size h.first_octets) h.all h.rest_octets

groups_field : (origin : Name) → IsCutBack origin F.Groups 8 (λ g. Bare (ipv6_text g))
groups_field origin os [] rest h = absurd (omega (arith, h.size))
groups_field origin os (a ∷ []) rest h = absurd (omega (arith, h.size))
groups_field origin os (a ∷ b ∷ []) rest h = absurd (omega (arith, h.size))
groups_field origin os (a ∷ b ∷ c ∷ []) rest h = absurd (omega (arith, h.size))
groups_field origin os (a ∷ b ∷ c ∷ d ∷ []) rest h = absurd (omega (arith, h.size))
groups_field origin os (a ∷ b ∷ c ∷ d ∷ e ∷ []) rest h = absurd (omega (arith, h.size))
groups_field origin os (a ∷ b ∷ c ∷ d ∷ e ∷ f ∷ []) rest h = absurd (omega (arith, h.size))
groups_field origin os (a ∷ b ∷ c ∷ d ∷ e ∷ f ∷ g ∷ []) rest h = absurd (omega (arith, h.size))
groups_field origin os (a ∷ b ∷ c ∷ d ∷ e ∷ f ∷ g ∷ i ∷ []) rest h =
    let part = groups_part a b c d e f g i h.first_octets in
    word_field origin F.Groups groups_of_word reason.Groups (λ l. refl) (ipv6_text (a ∷ b ∷ c ∷ d ∷ e ∷ f ∷ g ∷ i ∷ [])) (a ∷ b ∷ c ∷ d ∷ e ∷ f ∷ g ∷ i ∷ []) os rest part.text part.own
    (groups_back a b c d e f g i h.first_octets) h.all h.rest_octets
groups_field origin os (a ∷ b ∷ c ∷ d ∷ e ∷ f ∷ g ∷ i ∷ j ∷ more) rest h = absurd (omega (arith, h.size))

pairs_field : (origin : Name) (f : Field) (n : ℕ) (why : Reason) → ((l : Left) → next_field origin f l ≡ next (pairs_of_word n) why l) → 0 < n → IsCutBack origin f n pairs_word
pairs_field origin f n why is some os [] rest h = absurd (omega (arith, h.size))
pairs_field origin f n why is some os (o ∷ first) rest h =
    let part = pairs_part o first h.first_octets in
    word_field origin f (pairs_of_word n) why is (pairs_text (o ∷ first)) (o ∷ first) os rest part.text part.own (pairs_back n o first h.size h.first_octets) h.all h.rest_octets

-- ---- names

-- a name at the front, and what is read of its text
pub record IsNameFront (os first rest : List ℕ) (n : Name) : Type 0 where
  pub name : IsName n
  pub wire : wire_form n ≡ first
  pub all : first ++ rest ≡ os
  pub octets : AreOctets rest

abbrev pub IsNameFrontIf : List ℕ → Option (List ℕ × List ℕ) → Type 0
IsNameFrontIf os None = Unit {0}
IsNameFrontIf os (Some x) = IsNameFront os x.0 x.1 (labels_of x.0)

pub name_cut : (os : List ℕ) → AreOctets os → IsNameFrontIf os (name_front os)
name_cut os h = by (name_length (strings_of os).0)
  where
    at : (n : ℕ) (b : Bool) → is_wire_form (take n os) ≡ b → IsNameFrontIf os (cond b (Some (take n os, drop n os)) None)
    at n false e = tt
    at n true e =
        let parts = octets_front (take n os) (drop n os) (subst AreOctets (sym (joined_cut n os)) h) in
        let of = named (take n os) parts.0 e in
        record { name = of.name; wire = of.wire; all = joined_cut n os; octets = parts.1 }

    by : (o : Option ℕ) → IsNameFrontIf os (o >>= if_name os)
    by None = tt
    by (Some n) = at n (is_wire_form (take n os)) refl

name_field : (origin : Name) (os : List ℕ) → AreOctets os → IsBackIf origin F.Name os (field_words F.Name os)
name_field origin os h = by (name_front os) (name_cut os h)
  where
    by : (o : Option (List ℕ × List ℕ)) → IsNameFrontIf os o → IsBackIf origin F.Name os (one_word name_word o)
    by None of = tt
    by (Some x) of = record {
      front = x.0;
      all = of.all;
      octets = of.octets;
      texts = (name_is_text (labels_of x.0) of.name, tt);
      filled = refl;
      own = λ p. (first_of_name (labels_of x.0) of.name).2;
      read = λ q p more. rw (name_there origin (labels_of x.0) of.name, of.wire) refl;
    }

-- ---- types

type_field : (origin : Name) (os : List ℕ) → AreOctets os → IsBackIf origin F.RecordType os (field_words F.RecordType os)
type_field origin [] h = tt
type_field origin (a ∷ []) h = tt
type_field origin (a ∷ b ∷ rest) h = by (is_of_messages (a * 256 + b)) refl
  where
    by : (c : Bool) → is_of_messages (a * 256 + b) ≡ c
        → IsBackIf origin F.RecordType (a ∷ b ∷ rest) (cond c None (Some (Bare (type_word (a * 256 + b)) ∷ [], rest)))
    by true e = tt
    by false e =
        let small : a * 256 + b < 65536 = omega (arith, h.0, h.1.0) in
        let t : RecordType = record { 0 = a * 256 + b } in
        let is : IsRecordType t = record { range = small; records = e } in
        let back : record_type_named (type_word (a * 256 + b)) ≡ Some t = type_back t is in
        record {
          front = short (a * 256 + b);
          all = short_all a b rest h.0 h.1.0;
          octets = h.1.1;
          texts = (type_is_text (a * 256 + b) small, tt);
          filled = refl;
          own = λ p. type_own (a * 256 + b);
          read = λ q p more. rw back refl;
        }

scheme_back : (n : ℕ) → n < 256 → scheme_named (decimal n) ≡ Some n
scheme_back n h = rw (u8_back n h) refl

-- ---- strings and tags

pub string_back : (s : List ℕ) → AreOctets s → length s < 256 → string_of_word (escaped s) ≡ Some (counted s)
string_back s h k = let short : nat_le (length s) 255 ≡ true = grind (arith, leb_tells) in rw (text_back s h, short) refl

-- a string at the front of octets
pub record IsStringFront (os s rest : List ℕ) : Type 0 where
  pub all : counted s ++ rest ≡ os
  pub short : length s < 256
  pub string_octets : AreOctets s
  pub rest_octets : AreOctets rest

abbrev pub IsStringFrontIf : List ℕ → Option (List ℕ × List ℕ) → Type 0
IsStringFrontIf os None = Unit {0}
IsStringFrontIf os (Some x) = IsStringFront os x.0 x.1

pub string_cut : (os : List ℕ) → AreOctets os → IsStringFrontIf os (counted_of os)
string_cut os h = by (counted_of os) refl
  where
    by : (o : Option (List ℕ × List ℕ)) → counted_of os ≡ o → IsStringFrontIf os o
    by None e = tt
    by (Some (s, rest)) e =
        let all : counted s ++ rest ≡ os = (front os s rest e).all in
        let parts = octets_front (counted s) rest (subst AreOctets (sym all) h) in
        record { all = all; short = parts.0.0; string_octets = parts.0.1; rest_octets = parts.1 }

string_field : (origin : Name) (os : List ℕ) → AreOctets os → IsBackIf origin F.Text os (field_words F.Text os)
string_field origin os h = by (counted_of os) (string_cut os h)
  where
    by : (o : Option (List ℕ × List ℕ)) → IsStringFrontIf os o → IsBackIf origin F.Text os (one_word string_word o)
    by None of = tt
    by (Some x) of = record {
      front = counted x.0;
      all = of.all;
      octets = of.rest_octets;
      texts = (quoted_is_text x.0 of.string_octets, tt);
      filled = refl;
      own = λ p. refl;
      read = λ q p more. rw (string_back x.0 of.string_octets of.short) refl;
    }

tag_text : (tag : List ℕ) → is_tag tag ≡ true → IsPart tag × (escaped tag ≡ tag)
tag_text [] h = absurd (cc)
tag_text (b ∷ s) h =
    let text : IsBareText (b ∷ s) = tag_in_word (b ∷ s) h in
    (record { text = text; own = not_generic b s (tag_plain b s h) }, tag_itself (b ∷ s) h)

tag_back : (tag : List ℕ) → is_tag tag ≡ true → length tag < 256 → tag_of_word tag ≡ Some (counted tag)
tag_back tag h k = let short : nat_le (length tag) 255 ≡ true = grind (arith, leb_tells) in rw (h, short) refl

tag_field : (origin : Name) (os : List ℕ) → AreOctets os → IsBackIf origin F.Tag os (field_words F.Tag os)
tag_field origin os h = by (counted_of os) (string_cut os h)
  where
    at : (tag rest : List ℕ) → IsStringFront os tag rest → (b : Bool) → is_tag tag ≡ b → IsBackIf origin F.Tag os (cond b (Some (Bare (escaped tag) ∷ [], rest)) None)
    at tag rest of false e = tt
    at tag rest of true e =
        let known = tag_text tag e in
        subst (λ (t : List ℕ). IsBack origin F.Tag os (Bare t ∷ []) rest) (sym known.1)
        (word_field origin F.Tag tag_of_word reason.Tag (λ l. refl) tag (counted tag) os rest known.0.text known.0.own (tag_back tag e of.short) of.all of.rest_octets)

    by : (o : Option (List ℕ × List ℕ)) → IsStringFrontIf os o → IsBackIf origin F.Tag os (o >>= if_tag)
    by None of = tt
    by (Some x) of = at x.0 x.1 of (is_tag x.0) refl

-- ---- the fields of one word

pub simple_back : (origin : Name) (f : Field) (os : List ℕ) → AreOctets os → (IsBackIf origin F.Gateway os (field_words F.Gateway os))
    → (IsBackIf origin F.Relay os (field_words F.Relay os)) → (IsBackIf origin F.Identity os (field_words F.Identity os)) → IsBackIf origin f os (field_words f os)
simple_back origin F.Number8 os h gateway relay identity = octet_field origin F.Number8 (number_within 10 255) reason.Number8 (λ l. refl) u8_back os h
simple_back origin F.Number16 os h gateway relay identity = short_field origin F.Number16 (number_within 10 65535) reason.Number16 (λ l. refl) u16_back os h
simple_back origin F.Number32 os h gateway relay identity = long_field origin os h
simple_back origin F.Algorithm os h gateway relay identity = octet_field origin F.Algorithm algorithm_named reason.Algorithm (λ l. refl) algorithm_back os h
simple_back origin F.DigestType os h gateway relay identity = octet_field origin F.DigestType digest_type_named reason.DigestType (λ l. refl) digest_type_back os h
simple_back origin F.CertificateType os h gateway relay identity =
    short_field origin F.CertificateType certificate_type_named reason.CertificateType (λ l. refl) certificate_type_back os h
simple_back origin F.RecordType os h gateway relay identity = type_field origin os h
simple_back origin F.Scheme os h gateway relay identity = octet_field origin F.Scheme scheme_named reason.Scheme (λ l. refl) scheme_back os h
simple_back origin F.Ipv4 os h gateway relay identity = counted_field origin F.Ipv4 4 (λ a. Bare (ipv4_text a)) (ipv4_field origin) os h
simple_back origin F.Name os h gateway relay identity = name_field origin os h
simple_back origin F.Text os h gateway relay identity = string_field origin os h
simple_back origin F.Tag os h gateway relay identity = tag_field origin os h
simple_back origin F.Groups os h gateway relay identity = counted_field origin F.Groups 8 (λ g. Bare (ipv6_text g)) (groups_field origin) os h
simple_back origin F.Eui48 os h gateway relay identity =
    counted_field origin F.Eui48 6 pairs_word (pairs_field origin F.Eui48 6 reason.Eui48 (λ l. refl) (omega arith)) os h
simple_back origin F.Eui64 os h gateway relay identity =
    counted_field origin F.Eui64 8 pairs_word (pairs_field origin F.Eui64 8 reason.Eui64 (λ l. refl) (omega arith)) os h
simple_back origin F.Gateway os h gateway relay identity = gateway
simple_back origin F.Relay os h gateway relay identity = relay
simple_back origin F.Identity os h gateway relay identity = identity

-- Data of types that have a row in the table, printed field by field, are read as their octets.
use Rattle.std.proofs.Common.{◌≡◌, ◌≢◌, ℕ, zero, suc, List, [], ◌∷◌, ◌++◌, map, length, Bool, true, false, cond, ◌&&◌, Option, Some, None, Ok, refl, sym, ap, subst, ◌∙◌, append-nil}
use Rattle.std.specs.Prelude.{option_map}
use Rattle.std.specs.List.{flat_map}
use Rattle.base64.specs.Engines.{standard}
use Rattle.base64.specs.GeneralPurpose.{decoded_of}
use Rattle.line_text.proofs.PrintedWords.{and_both}
use Rattle.zone_proto.specs.declared.record_type.RecordType.{RecordType}
use Rattle.zone_proto.specs.Data.{same_octets}
use Rattle.zone_proto.specs.Names.{Name}
use Rattle.message_reading.specs.Octets.{◌>>=◌, counted_of}
use Rattle.message_reading.specs.TypeMaps.{types_of}
use Rattle.message_writing.specs.DataText as maps
use Rattle.zone_scanner.specs.declared.place.Place.{Place}
use Rattle.zone_tokens.specs.Hex.{hex_text}
use Rattle.record_fields.specs.declared.fault.Reason.{Reason}
use Rattle.record_fields.specs.declared.fault.Reason.TheVariants as reason
use Rattle.record_fields.specs.declared.field.Field.{Field}
use Rattle.record_fields.specs.declared.field.Ending.{Ending}
use Rattle.record_fields.specs.declared.field.Ending.TheVariants as E
use Rattle.record_fields.specs.declared.table.Row.{Row}
use Rattle.record_fields.specs.Fields.{Reading, left_at, next}
use Rattle.record_fields.specs.Locations.{location_of_line}
use Rattle.record_fields.specs.Parts.{access_point_of_word}
use Rattle.record_fields.specs.Rows.{fields_of, next_ending, next_fields, row_of}
use Rattle.record_fields.specs.Texts as words
use Rattle.record_fields.specs.Texts.{is_generic}
use Rattle.zone_file.specs.Data.{by_row, next_own_octets}
use Rattle.zone_file_writer.specs.Labels.{labels_of}
use Rattle.zone_file_writer.specs.declared.locations.Location.{Location}
use Rattle.zone_file_writer.specs.Locations as locations
use Rattle.zone_file_writer.specs.Locations.{is_octets, line_text, location_front, location_texts}
use Rattle.zone_file_writer.specs.Others.{base64_text, hex_digits, octets_words, string_word}
use Rattle.zone_file_writer.specs.Parameters.{are_read, if_read, read_texts, texts_within}
use Rattle.zone_file_writer.specs.Prefixes.{prefixes_within}
use Rattle.zone_file_writer.specs.Rows.{all_strings, ending_words, field_words, fields_words, name_front, name_word, names_within, other_words, row_words, some_words, string_alone, words_by_row, words_or_octets}
use Rattle.zone_file_writer.specs.Strings.{strings_of, strings_within}
use Rattle.zone_file_writer.specs.TypeLists.{ascend_from, if_map_of}
use Rattle.zone_file_writer.specs.Words.{PrintedWord, Bare}
use Rattle.zone_file_writer.proofs.Base64Facts.{base64_back, base64_is_text, base64_own}
use Rattle.zone_file_writer.proofs.FieldsBack.{AreOctets, IsBack, IsBackIf, IsNameFront, IsNameFrontIf, IsStringFrontIf, is_filled, name_cut, simple_back, string_back, string_cut}
use Rattle.zone_file_writer.proofs.HostsBack.{gateway_back, identity_back, relay_back}
use Rattle.zone_file_writer.proofs.Lines.{AreWordTexts, words_from}
use Rattle.zone_file_writer.proofs.LocationsBack.{location_back}
use Rattle.zone_file_writer.proofs.NamesBack.{first_of_name, name_there, not_generic}
use Rattle.zone_file_writer.proofs.NumbersBack.{digits_back}
use Rattle.zone_file_writer.proofs.ParametersBack.{parameters_back, same}
use Rattle.zone_file_writer.proofs.PlacedWords.{behind, last_from, left, place_from}
use Rattle.zone_file_writer.proofs.PrefixesBack.{ArePrefixesIf, access_point_back, prefixes_back}
use Rattle.zone_file_writer.proofs.StringFacts.{AreStrings, counted, joined_strings, strings_in, text_back}
use Rattle.zone_file_writer.proofs.OwnFirst.{hex_own}
use Rattle.zone_file_writer.proofs.TypesBack.{type_own, type_texts, types_are_texts, types_ascend, types_read}
use Rattle.zone_file_writer.proofs.WordTexts.{access_point_is_text, digits_are_text, name_is_text, quoted_is_text}

-- octets are read, and no word is left
pub record AreRead (os : List ℕ) (r : Reading (List ℕ)) : Type 0 where
  pub place : Place
  pub is : r ≡ Ok (os, left_at place [])

field_back : (origin : Name) (f : Field) (os : List ℕ) → AreOctets os → IsBackIf origin f os (field_words f os)
field_back origin f os h = simple_back origin f os h (gateway_back origin os h) (relay_back origin os h) (identity_back origin os h)

-- words that fields and an ending are printed as
record IsRowBack (origin : Name) (fs : List Field) (e : Ending) (os : List ℕ) (ws : List PrintedWord) : Type 0 where
  texts : AreWordTexts ws
  own : (p : Place) → is_generic (words_from p ws) ≡ false
  read : (q p : Place) → AreRead os (next_fields origin fs e (left q p ws))

abbrev IsRowBackIf : Name → List Field → Ending → List ℕ → Option (List PrintedWord) → Type 0
IsRowBackIf origin fs e os None = Unit {0}
IsRowBackIf origin fs e os (Some ws) = IsRowBack origin fs e os ws

-- ---- endings

nothing_back : (origin : Name) (os : List ℕ) → IsRowBackIf origin [] E.Nothing os (ending_words E.Nothing os)
nothing_back origin [] = record { texts = tt; own = λ p. refl; read = λ q p. record { place = q; is = refl } }
nothing_back origin (b ∷ os) = tt

strings_are_texts : (ss : List (List ℕ)) → AreStrings ss → AreWordTexts (map string_word ss)
strings_are_texts [] h = tt
strings_are_texts (s ∷ ss) h = (quoted_is_text s h.0, strings_are_texts ss h.2)

strings_read : (ss : List (List ℕ)) (p : Place) → AreStrings ss → words.strings_of (words_from p (map string_word ss)) ≡ Ok (flat_map counted ss)
strings_read [] p h = refl
strings_read (s ∷ ss) p h = rw (string_back s h.0 h.1, strings_read ss (behind p (string_word s)) h.2) refl

whole : (os : List ℕ) (ss : List (List ℕ)) → (n : ℕ) → strings_within n os ≡ (ss, []) → flat_map counted ss ≡ os
whole os ss n e =
    sym (append-nil (flat_map counted ss)) ∙ ap (λ (t : List (List ℕ) × List ℕ). flat_map counted t.0 ++ t.1) (sym e) ∙ joined_strings n os

texts_back : (origin : Name) (os : List ℕ) → AreOctets os → IsRowBackIf origin [] E.Texts os (ending_words E.Texts os)
texts_back origin os h = by (strings_of os) refl
  where
    by : (x : List (List ℕ) × List ℕ) → strings_of os ≡ x → IsRowBackIf origin [] E.Texts os (all_strings x)
    by ([], rest) e = tt
    by (s ∷ ss, o ∷ rest) e = tt
    by (s ∷ ss, []) e =
        let are : AreStrings (s ∷ ss) = subst (λ (x : List (List ℕ) × List ℕ). AreStrings x.0) e (strings_in (length os) os h) in
        record {
          texts = strings_are_texts (s ∷ ss) are;
          own = λ p. refl;
          read = λ q p. record { place = q; is = rw (strings_read (s ∷ ss) p are, whole os (s ∷ ss) (length os) e) refl };
        }

text_back_if_there : (origin : Name) (os : List ℕ) → AreOctets os → IsRowBackIf origin [] E.TextIfThere os (ending_words E.TextIfThere os)
text_back_if_there origin [] h = record { texts = tt; own = λ p. refl; read = λ q p. record { place = q; is = refl } }
text_back_if_there origin (b ∷ os) h = by (counted_of (b ∷ os)) (string_cut (b ∷ os) h)
  where
    by : (o : Option (List ℕ × List ℕ)) → IsStringFrontIf (b ∷ os) o → IsRowBackIf origin [] E.TextIfThere (b ∷ os) (string_alone o)
    by None of = tt
    by (Some (s, c ∷ rest)) of = tt
    by (Some (s, [])) of = record {
      texts = (quoted_is_text s of.string_octets, tt);
      own = λ p. refl;
      read = λ q p. record { place = p; is = rw (string_back s of.string_octets of.short, sym (append-nil (counted s)) ∙ of.all) refl };
    }

octets_back : (origin : Name) (os : List ℕ) → AreOctets os → IsRowBackIf origin [] E.Octets os (ending_words E.Octets os)
octets_back origin os h = record {
  texts = (quoted_is_text os h, tt);
  own = λ p. refl;
  read = λ q p. record { place = p; is = rw (text_back os h) refl };
}

-- one word, which is read as hex or as base64
hex_read : (t os : List ℕ) (q p : Place) → hex_text t ≡ Some os → words.next_hex (left q p (Bare t ∷ [])) ≡ Ok (os, left_at p [])
hex_read t os q p h = rw (append-nil t, h) refl

base64_read : (t os : List ℕ) (q p : Place) → decoded_of standard t ≡ Some os → words.next_base64 (left q p (Bare t ∷ [])) ≡ Ok (os, left_at p [])
base64_read t os q p h = rw (append-nil t, h) refl

hex_back : (origin : Name) (os : List ℕ) → AreOctets os → IsRowBackIf origin [] E.Hex os (ending_words E.Hex os)
hex_back origin [] h = tt
hex_back origin (o ∷ os) h = record {
  texts = (digits_are_text o os h, tt);
  own = λ p. hex_own o os h;
  read = λ q p. record { place = p; is = hex_read (hex_digits (o ∷ os)) (o ∷ os) q p (digits_back o os h) };
}

base64_there : (origin : Name) (e : Ending) (o : ℕ) (os : List ℕ) → AreOctets (o ∷ os)
    → ((q p : Place) → next_ending origin e (left q p (Bare (base64_text (o ∷ os)) ∷ [])) ≡ words.next_base64 (left q p (Bare (base64_text (o ∷ os)) ∷ [])))
    → IsRowBack origin [] e (o ∷ os) (Bare (base64_text (o ∷ os)) ∷ [])
base64_there origin e o os h is = record {
  texts = (base64_is_text o os h, tt);
  own = λ p. base64_own o os h;
  read = λ q p. record { place = p; is = is q p ∙ base64_read (base64_text (o ∷ os)) (o ∷ os) q p (base64_back (o ∷ os) h) };
}

base64_form : (origin : Name) (os : List ℕ) → AreOctets os → IsRowBackIf origin [] E.Base64 os (ending_words E.Base64 os)
base64_form origin [] h = tt
base64_form origin (o ∷ os) h = base64_there origin E.Base64 o os h (λ q p. refl)

base64_form_if_there : (origin : Name) (os : List ℕ) → AreOctets os → IsRowBackIf origin [] E.Base64IfThere os (ending_words E.Base64IfThere os)
base64_form_if_there origin [] h = record { texts = tt; own = λ p. refl; read = λ q p. record { place = q; is = refl } }
base64_form_if_there origin (o ∷ os) h = base64_there origin E.Base64IfThere o os h (λ q p. refl)

-- names to the end
record AreNames (origin : Name) (os : List ℕ) (ws : List PrintedWord) : Type 0 where
  texts : AreWordTexts ws
  own : (p : Place) → is_generic (words_from p ws) ≡ false
  read : (p : Place) → words.names_of origin (words_from p ws) ≡ Ok os

abbrev AreNamesIf : Name → List ℕ → Option (List PrintedWord) → Type 0
AreNamesIf origin os None = Unit {0}
AreNamesIf origin os (Some ws) = AreNames origin os ws

names_back : (origin : Name) (n : ℕ) (os : List ℕ) → AreOctets os → AreNamesIf origin os (names_within n os)
names_back origin n [] h = record { texts = tt; own = λ p. refl; read = λ p. refl }
names_back origin zero (b ∷ os) h = tt
names_back origin (suc n) (b ∷ os) h = by (name_front (b ∷ os)) (name_cut (b ∷ os) h) (names_back origin n)
  where
    at : (x : List ℕ × List ℕ) → IsNameFront (b ∷ os) x.0 x.1 (labels_of x.0) → (o : Option (List PrintedWord)) → AreNamesIf origin x.1 o
        → AreNamesIf origin (b ∷ os) (option_map (λ ws. name_word x.0 ∷ ws) o)
    at x of None more = tt
    at x of (Some ws) more = record {
      texts = (name_is_text (labels_of x.0) of.name, more.texts);
      own = λ p. (first_of_name (labels_of x.0) of.name).2;
      read = λ p. rw (name_there origin (labels_of x.0) of.name, more.read (behind p (name_word x.0)), of.wire, of.all) refl;
    }

    by : (o : Option (List ℕ × List ℕ)) → IsNameFrontIf (b ∷ os) o → ((rest : List ℕ) → AreOctets rest → AreNamesIf origin rest (names_within n rest))
        → AreNamesIf origin (b ∷ os) (o >>= λ x. option_map (λ ws. name_word x.0 ∷ ws) (names_within n x.1))
    by None of others = tt
    by (Some x) of others = at x of (names_within n x.1) (others x.1 of.octets)

names_form : (origin : Name) (os : List ℕ) → AreOctets os → IsRowBackIf origin [] E.Names os (ending_words E.Names os)
names_form origin os h = by (names_within (length os) os) (names_back origin (length os) os h)
  where
    by : (o : Option (List PrintedWord)) → AreNamesIf origin os o → IsRowBackIf origin [] E.Names os o
    by None are = tt
    by (Some ws) are = record { texts = are.texts; own = are.own; read = λ q p. record { place = q; is = rw (are.read p) refl } }

parameters_form : (origin : Name) (os : List ℕ) → IsRowBackIf origin [] E.Parameters os (ending_words E.Parameters os)
parameters_form origin os = by (texts_within (length os) os)
  where
    at : (ts : List (List ℕ)) (b : Bool) → are_read os (read_texts [] ts) ≡ b → IsRowBackIf origin [] E.Parameters os (cond b (Some (map Bare ts)) None)
    at ts false e = tt
    at ts true e =
        let back = parameters_back os ts e in
        record { texts = back.texts; own = back.own; read = λ q p. record { place = q; is = back.read q p } }

    by : (o : Option (List (List ℕ))) → IsRowBackIf origin [] E.Parameters os (o >>= if_read os [])
    by None = tt
    by (Some ts) = at ts (are_read os (read_texts [] ts)) refl

-- types to the end
types_form : (origin : Name) (os : List ℕ) → IsRowBackIf origin [] E.Types os (ending_words E.Types os)
types_form origin os = by (types_of os)
  where
    own : (ts : List RecordType) (p : Place) → is_generic (words_from p (type_texts ts)) ≡ false
    own [] p = refl
    own (t ∷ ts) p = type_own t.0

    at : (ts : List RecordType) (b : Bool) → (ascend_from 0 ts && same_octets (maps.types_text ts) os) ≡ b
        → IsRowBackIf origin [] E.Types os (cond b (Some (type_texts ts)) None)
    at ts false e = tt
    at ts true e =
        let both = and_both (ascend_from 0 ts) (same_octets (maps.types_text ts) os) e in
        let are = types_ascend 0 ts both.0 in
        record {
          texts = types_are_texts 0 ts are;
          own = own ts;
          read = λ q p. record { place = q; is = rw (types_read q p ts are, same (maps.types_text ts) os both.1) refl };
        }

    by : (o : Option (List RecordType)) → IsRowBackIf origin [] E.Types os (o >>= if_map_of os)
    by None = tt
    by (Some ts) = at ts (ascend_from 0 ts && same_octets (maps.types_text ts) os) refl

location_form : (origin : Name) (os : List ℕ) → AreOctets os → IsRowBackIf origin [] E.Location os (ending_words E.Location os)
location_form origin os h = by (location_front os) refl
  where
    at : (p : Location) → location_front os ≡ Some p → (b : Bool) → is_octets os (location_of_line (line_text (location_texts p))) ≡ b
        → IsRowBackIf origin [] E.Location os (cond b (Some (map Bare (location_texts p))) None)
    at p e false g = tt
    at p e true g =
        let back = location_back os p h e g in
        record { texts = back.texts; own = back.own; read = λ q r. record { place = q; is = back.read q r } }

    by : (o : Option Location) → location_front os ≡ o → IsRowBackIf origin [] E.Location os (o >>= λ p. locations.if_read os (location_texts p))
    by None e = tt
    by (Some p) e = at p e (is_octets os (location_of_line (line_text (location_texts p)))) refl

prefixes_form : (origin : Name) (os : List ℕ) → IsRowBackIf origin [] E.Prefixes os (ending_words E.Prefixes os)
prefixes_form origin os = by (prefixes_within (length os) os) (prefixes_back (length os) os)
  where
    by : (o : Option (List PrintedWord)) → ArePrefixesIf os o → IsRowBackIf origin [] E.Prefixes os o
    by None are = tt
    by (Some ws) are = record { texts = are.texts; own = are.own; read = λ q p. record { place = q; is = rw (are.read p) refl } }

one_read : (read : List ℕ → Option (List ℕ)) (why : Reason) (t os : List ℕ) (q p : Place) → read t ≡ Some os → next read why (left q p (Bare t ∷ [])) ≡ Ok (os, left_at p [])
one_read read why t os q p h = rw h refl

access_point_form : (origin : Name) (os : List ℕ) → AreOctets os → IsRowBackIf origin [] E.AccessPoint os (ending_words E.AccessPoint os)
access_point_form origin [] h = tt
access_point_form origin (o ∷ os) h = record {
  texts = (access_point_is_text o os h, tt);
  own = λ p. not_generic 48 (120 ∷ hex_digits (o ∷ os)) refl;
  read = λ q p. record {
    place = p;
    is = one_read access_point_of_word reason.AccessPoint (48 ∷ 120 ∷ hex_digits (o ∷ os)) (o ∷ os) q p (access_point_back o os h);
  };
}

ending_back : (origin : Name) (e : Ending) (os : List ℕ) → AreOctets os → IsRowBackIf origin [] e os (ending_words e os)
ending_back origin E.Nothing os h = nothing_back origin os
ending_back origin E.Texts os h = texts_back origin os h
ending_back origin E.TextIfThere os h = text_back_if_there origin os h
ending_back origin E.Octets os h = octets_back origin os h
ending_back origin E.Hex os h = hex_back origin os h
ending_back origin E.Base64 os h = base64_form origin os h
ending_back origin E.Base64IfThere os h = base64_form_if_there origin os h
ending_back origin E.Names os h = names_form origin os h
ending_back origin E.Parameters os h = parameters_form origin os
ending_back origin E.Types os h = types_form origin os
ending_back origin E.Location os h = location_form origin os h
ending_back origin E.Prefixes os h = prefixes_form origin os
ending_back origin E.AccessPoint os h = access_point_form origin os h

-- ---- rows

texts-append : (us ws : List PrintedWord) → AreWordTexts us → AreWordTexts ws → AreWordTexts (us ++ ws)
texts-append [] ws h k = k
texts-append (u ∷ us) ws h k = (h.0, texts-append us ws h.1 k)

own-append : (us ws : List PrintedWord) (p : Place) → is_filled us ≡ true → is_generic (words_from p us) ≡ false → is_generic (words_from p (us ++ ws)) ≡ false
own-append [] ws p some h = absurd (cc)
own-append (u ∷ us) ws p some h = h

field_then : (origin : Name) (f : Field) (fs : List Field) (e : Ending) (os rest : List ℕ) (us ws : List PrintedWord) → IsBack origin f os us rest → IsRowBack origin fs e rest ws
    → IsRowBack origin (f ∷ fs) e os (us ++ ws)
field_then origin f fs e os rest us ws this more = record {
  texts = texts-append us ws this.texts more.texts;
  own = λ p. own-append us ws p this.filled (this.own p);
  read = λ q p.
      let others = more.read (last_from q p us) (place_from p us) in
      record { place = others.place; is = rw (this.read q p ws, others.is, this.all) refl };
}

fields_back : (origin : Name) (fs : List Field) (e : Ending) (os : List ℕ) → AreOctets os → IsRowBackIf origin fs e os (fields_words fs e os)
fields_back origin [] e os h = ending_back origin e os h
fields_back origin (f ∷ fs) e os h = by (field_words f os) (field_back origin f os h) (fields_back origin fs e)
  where
    at : (x : List PrintedWord × List ℕ) → IsBack origin f os x.0 x.1 → (o : Option (List PrintedWord)) → IsRowBackIf origin fs e x.1 o
        → IsRowBackIf origin (f ∷ fs) e os (option_map (λ ws. x.0 ++ ws) o)
    at x this None more = tt
    at x this (Some ws) more = field_then origin f fs e os x.1 x.0 ws this more

    by : (o : Option (List PrintedWord × List ℕ)) → IsBackIf origin f os o → ((rest : List ℕ) → AreOctets rest → IsRowBackIf origin fs e rest (fields_words fs e rest))
        → IsRowBackIf origin (f ∷ fs) e os (o >>= λ x. option_map (λ ws. x.0 ++ ws) (fields_words fs e x.1))
    by None this others = tt
    by (Some x) this others = at x this (fields_words fs e x.1) (others x.1 this.octets)

-- ---- data of any type

-- words of data: in the form of the type, or as `\#`
pub data IsForm (origin : Name) (t : ℕ) (os : List ℕ) (ws : List PrintedWord) : Type 0 where
  own : is_filled ws ≡ true → AreWordTexts ws → ((p : Place) → is_generic (words_from p ws) ≡ false)
      → ((q p : Place) → AreRead os (next_own_octets origin t (left q p ws))) → IsForm origin t os ws
  any : ws ≡ octets_words os → IsForm origin t os ws

row_form : (origin : Name) (t : ℕ) (os : List ℕ) (r : Row) → row_of t ≡ Some r → (o : Option (List PrintedWord)) → IsRowBackIf origin (fields_of r.1) r.2 os o
    → IsForm origin t os (words_or_octets os (some_words o))
row_form origin t os r e None back = any refl
row_form origin t os r e (Some []) back = any refl
row_form origin t os r e (Some (w ∷ ws)) back =
    own refl back.texts back.own
    (λ q p. record { place = (back.read q p).place; is = ap (by_row origin (left q p (w ∷ ws))) e ∙ (back.read q p).is })

pub other_form : (origin : Name) (t : ℕ) (os : List ℕ) → AreOctets os → IsForm origin t os (other_words t os)
other_form origin t os h = by (row_of t) refl
  where
    by : (o : Option Row) → row_of t ≡ o → IsForm origin t os (words_or_octets os (words_by_row o os))
    by None e = any refl
    by (Some r) e = row_form origin t os r e (row_words r os) (fields_back origin (fields_of r.1) r.2 os h)

-- words of data are some
filled_some : (ws : List PrintedWord) → is_filled ws ≡ true → ws ≢ []
filled_some [] h = absurd (cc)
filled_some (w ∷ ws) h = λ e. cc

pub some_form : (t : ℕ) (os : List ℕ) → AreOctets os → other_words t os ≢ []
some_form t os h = by (other_words t os) (other_form [] t os h)
  where
    by : (ws : List PrintedWord) → IsForm [] t os ws → ws ≢ []
    by ws (own some texts first read) = filled_some ws some
    by ws (any e) = filled_some ws (ap is_filled e)

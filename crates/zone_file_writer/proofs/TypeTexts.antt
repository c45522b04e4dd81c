-- The words of a type bit map, put behind a text
use Rattle.std.proofs.Common.{◌≡◌, ℕ, List, [], ◌∷◌, ◌++◌, map, true, false, Option, Some, None, refl, sym, ap}
use Rattle.zone_proto.specs.declared.record_type.RecordType.{RecordType}
use Rattle.message_reading.specs.TypeMaps.{types_of}
use Rattle.zone_file_writer.specs.Rows.{behind_spaces, ended}
use Rattle.zone_file_writer.specs.TypeLists.{if_map_of, is_map_of, types_words}
use Rattle.zone_file_writer.specs.Words.{Bare, type_word, types_text}

spaced : (ts : List RecordType) → types_text ts ≡ behind_spaces (map (λ t. Bare (type_word t.0)) ts)
spaced [] = refl
spaced (t ∷ ts) = ap (λ (s : List ℕ). (32 ∷ type_word t.0) ++ s) (spaced ts)

pub types_printed : (os text new : List ℕ) (ts : List RecordType) → true ≡ is_map_of os ts → new ≡ text ++ types_text ts → Some new ≡ ended text (if_map_of os ts)
types_printed os text new ts is h = rw (sym is, h) (ap (λ (s : List ℕ). Some (text ++ s)) (spaced ts))

pub other_map : (os text : List ℕ) (ts : List RecordType) → false ≡ is_map_of os ts → ended text (if_map_of os ts) ≡ None
other_map os text ts is = rw (sym is) refl

pub listed : (os text : List ℕ) (ts : List RecordType) (r : Option (List ℕ)) → Some ts ≡ types_of os → r ≡ ended text (if_map_of os ts) → r ≡ ended text (types_words os)
listed os text ts r of h = rw (sym of) h

pub no_map : (os text : List ℕ) → None ≡ types_of os → ended text (types_words os) ≡ None
no_map os text of = rw (sym of) refl

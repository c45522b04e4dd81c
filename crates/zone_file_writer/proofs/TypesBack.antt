-- Printed types are read as these types.
use Rattle.std.proofs.Common.{◌≡◌, ◌≤◌, ◌<◌, ℕ, ◌+◌, ◌==◌, List, [], ◌∷◌, ◌++◌, map, Bool, true, false, cond, ◌&&◌, Some, Ok, refl, sym, ap, ◌∙◌, arith, codes, Less}
use Rattle.std.specs.Prelude.{nat_le, nat_lt, not, unwrap_or}
use Rattle.std.specs.Cmp.{nat_cmp_is}
use Rattle.std.specs.Fmt.{decimal}
use Rattle.std.specs.List.{list_all}
use Rattle.std.specs.Ordering.{match_ordering}
use Rattle.std.proofs.lemmas.Bool.Decides.{leb_tells}
use Rattle.line_text.proofs.PrintedWords.{and_both}
use Rattle.zone_proto.specs.declared.record_type.RecordType.{RecordType}
use Rattle.zone_proto.specs.Data.{same_octets}
use Rattle.zone_proto.specs.TypeText.{Word, type_text, type_words, word_of}
use Rattle.zone_scanner.specs.declared.place.Place.{Place}
use Rattle.record_fields.specs.Fields.{is_of_messages, left_at}
use Rattle.record_fields.specs.Texts.{generic}
use Rattle.record_fields.specs.TypeLists.{ascending, types_at, types_named, with_type}
use Rattle.zone_file_writer.specs.Printable.{AreTypesFrom}
use Rattle.zone_file_writer.specs.TypeLists.{ascend_from, is_next}
use Rattle.zone_file_writer.specs.Words.{PrintedWord, Bare, further_words, type_word}
use Rattle.zone_file_writer.proofs.Lines.{AreWordTexts, words_from}
use Rattle.zone_file_writer.proofs.NumbersBack.{type_back}
use Rattle.zone_file_writer.proofs.PlacedWords.{behind}
use Rattle.zone_file_writer.proofs.WordTexts.{type_is_text}

abbrev pub type_texts : List RecordType → List PrintedWord
type_texts ts = map (λ t. Bare (type_word t.0)) ts

pub types_are_texts : (least : ℕ) (ts : List RecordType) → AreTypesFrom least ts → AreWordTexts (type_texts ts)
types_are_texts least [] h = tt
types_are_texts least (t ∷ ts) h = (type_is_text t.0 h.1.range, types_are_texts (t.0 + 1) ts h.2)

ascending_types : (least : ℕ) (ts : List RecordType) → AreTypesFrom least ts → ascending ts ≡ ts
ascending_types least [] h = refl
ascending_types least (t ∷ ts) h = ap (with_type t) (ascending_types (t.0 + 1) ts h.2) ∙ first t ts h.2
  where
    first : (t : RecordType) (ts : List RecordType) → AreTypesFrom (t.0 + 1) ts → with_type t ts ≡ t ∷ ts
    first t [] h = refl
    first t (u ∷ us) h = ap (λ r. match_ordering r (t ∷ u ∷ us) (u ∷ us) (u ∷ with_type t us)) (sym (nat_cmp_is t.0 u.0 Less (omega (arith, h.0))))

types_named_back : (least : ℕ) (ts : List RecordType) (p : Place) → AreTypesFrom least ts → types_named (words_from p (type_texts ts)) ≡ Ok ts
types_named_back least [] p h = refl
types_named_back least (t ∷ ts) p h =
    rw (type_back t h.1, types_named_back (t.0 + 1) ts (behind p (Bare (type_word t.0))) h.2) refl

pub types_read : (q p : Place) (ts : List RecordType) → AreTypesFrom 0 ts → types_at q (words_from p (type_texts ts)) ≡ Ok (ts, left_at q [])
types_read q p ts h = rw (types_named_back 0 ts p h, ascending_types 0 ts h) refl

-- types that ascend, and that records have
pub types_ascend : (least : ℕ) (ts : List RecordType) → ascend_from least ts ≡ true → AreTypesFrom least ts
types_ascend least [] h = tt
types_ascend least (t ∷ ts) h = by (is_next least t.0) refl h (types_ascend (t.0 + 1) ts)
  where
    not_true : (b : Bool) → not b ≡ true → b ≡ false
    not_true true e = sym e
    not_true false e = refl

    by : (b : Bool) → is_next least t.0 ≡ b → cond b (ascend_from (t.0 + 1) ts) false ≡ true
        → (ascend_from (t.0 + 1) ts ≡ true → AreTypesFrom (t.0 + 1) ts) → AreTypesFrom least (t ∷ ts)
    by false e g more = absurd (cc)
    by true e g more =
        let both = and_both (nat_le least t.0) (nat_lt t.0 65536 && not (is_of_messages t.0)) e in
        let of = and_both (nat_lt t.0 65536) (not (is_of_messages t.0)) both.1 in
        let enough : least ≤ t.0 = grind (arith, leb_tells) in
        let small : t.0 < 65536 = grind (arith, leb_tells) in
        (enough, record { range = small; records = not_true (is_of_messages t.0) of.1 }, more g)

-- ---- and aren't `\#`

listed_first : (t : ℕ) (other : List ℕ) (ws : List Word) → list_all (λ w. not (same_octets w.text generic)) ws ≡ true → same_octets other generic ≡ false
    → same_octets (unwrap_or (word_of t ws) other) generic ≡ false
listed_first t other [] all h = h
listed_first t other (w ∷ ws) all h =
    let both = and_both (not (same_octets w.text generic)) (list_all (λ v. not (same_octets v.text generic)) ws) all in
    by (t == w.number) (denied (same_octets w.text generic) both.0) (listed_first t other ws both.1 h)
  where
    denied : (b : Bool) → not b ≡ true → b ≡ false
    denied true e = sym e
    denied false e = refl

    by : (b : Bool) → same_octets w.text generic ≡ false → same_octets (unwrap_or (word_of t ws) other) generic ≡ false
        → same_octets (unwrap_or (cond b (Some w.text) (word_of t ws)) other) generic ≡ false
    by true this more = this
    by false this more = more

pub type_own : (t : ℕ) → same_octets (type_word t) generic ≡ false
type_own t = listed_first t (type_text t) further_words refl (listed_first t (codes "TYPE" ++ decimal t) type_words refl refl)

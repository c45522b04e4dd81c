-- The words of a row, put behind a text one after the other
use Rattle.std.proofs.Common.{◌≡◌, ◌≤◌, ◌<◌, ℕ, zero, suc, ◌+◌, List, [], ◌∷◌, ◌++◌, length, take, drop, Bool, true, false, cond, Option, Some, None, refl, sym, ap, ◌∙◌, arith, append_assoc, append-nil, length-drop}
use Rattle.std.specs.Prelude.{option_map}
use Rattle.message_reading.specs.Octets.{◌>>=◌}
use Rattle.record_fields.specs.declared.field.Field.{Field}
use Rattle.record_fields.specs.declared.field.Ending.{Ending}
use Rattle.zone_file_writer.specs.Labels.{is_wire_form}
use Rattle.zone_file_writer.specs.Rows.{appended, behind_spaces, ended, ending_words, field_words, fields_words, if_name, name_front, name_length, name_word, names_within, one_word, some_words}
use Rattle.zone_file_writer.specs.Strings.{strings_of}
use Rattle.zone_file_writer.specs.Words.{PrintedWord}
use Rattle.zone_file_writer.proofs.SpacedWords.{behind-append}

-- a text and octets that are there
there : Option (List ℕ × List ℕ) → List ℕ × List ℕ
there None = ([], [])
there (Some x) = x

pub same_text : (new rest text behind : List ℕ) → ◌≡◌ {A = Option (List ℕ × List ℕ)} (Some (new, rest)) (Some (text, behind)) → new ≡ text
unfolding there
same_text new rest text behind h = ap (λ (o : Option (List ℕ × List ℕ)). (there o).0) h

pub same_rest : (new rest text behind : List ℕ) → ◌≡◌ {A = Option (List ℕ × List ℕ)} (Some (new, rest)) (Some (text, behind)) → rest ≡ behind
unfolding there
same_rest new rest text behind h = ap (λ (o : Option (List ℕ × List ℕ)). (there o).1) h

-- ---- fields

pub further : (text : List ℕ) (us : List PrintedWord) (o : Option (List PrintedWord)) → ended (text ++ behind_spaces us) o ≡ ended text (option_map (λ ws. us ++ ws) o)
further text us None = refl
further text us (Some ws) =
    ap (λ (t : List ℕ). Some t) (append_assoc text (behind_spaces us) (behind_spaces ws) ∙ ap (λ (t : List ℕ). text ++ t) (sym (behind-append us ws)))

pub row_more : (text new rest os : List ℕ) (f : Field) (fs : List Field) (e : Ending) → Some (new, rest) ≡ appended text (field_words f os)
    → ended new (fields_words fs e rest) ≡ ended text (fields_words (f ∷ fs) e os)
row_more text new rest os f fs e h = by (field_words f os) h
  where
    by : (o : Option (List PrintedWord × List ℕ)) → Some (new, rest) ≡ appended text o
        → ended new (fields_words fs e rest) ≡ ended text (o >>= λ x. option_map (λ ws. x.0 ++ ws) (fields_words fs e x.1))
    by None g = absurd (cc)
    by (Some x) g =
        let text_is = same_text new rest (text ++ behind_spaces x.0) x.1 g in
        let rest_is = same_rest new rest (text ++ behind_spaces x.0) x.1 g in
        rw (text_is, rest_is) (further text x.0 (fields_words fs e x.1))

pub row_stuck : (text os : List ℕ) (f : Field) (fs : List Field) (e : Ending) → None ≡ appended text (field_words f os) → ended text (fields_words (f ∷ fs) e os) ≡ None
row_stuck text os f fs e h = by (field_words f os) h
  where
    by : (o : Option (List PrintedWord × List ℕ)) → None ≡ appended text o → ended text (o >>= λ x. option_map (λ ws. x.0 ++ ws) (fields_words fs e x.1)) ≡ None
    by None g = refl
    by (Some x) g = absurd (cc)

pub some_text : (o : Option (List PrintedWord)) (t : List ℕ) → option_map behind_spaces o ≡ Some t → 0 < length t → option_map behind_spaces (some_words o) ≡ Some t
some_text None t h some = absurd (cc)
some_text (Some []) t h some = let is : [] ≡ t = cc in absurd (omega (arith, ap length is))
some_text (Some (w ∷ ws)) t h some = h

pub no_text : (o : Option (List PrintedWord)) (t : List ℕ) → option_map behind_spaces o ≡ Some t → length t ≡ 0 → option_map behind_spaces (some_words o) ≡ None
no_text None t h none = refl
no_text (Some []) t h none = refl
no_text (Some (w ∷ ws)) t h none = let is : behind_spaces (w ∷ ws) ≡ t = cc in absurd (omega (arith, ap length is))

pub no_words : (o : Option (List PrintedWord)) → option_map behind_spaces o ≡ None → option_map behind_spaces (some_words o) ≡ None
no_words None h = refl
no_words (Some ws) h = absurd (cc)

-- what stands behind the last of the fields
pub behind_fields : (text new os : List ℕ) (fs : List Field) (e : Ending) (o : Option (List PrintedWord)) (is : Bool) → fs ≡ []
    → ended text (fields_words fs e os) ≡ option_map behind_spaces o → cond is (Some new) None ≡ ended text (ending_words e os)
    → option_map behind_spaces o ≡ cond is (Some new) None
behind_fields text new os fs e o is none known last =
    sym known ∙ ap (λ (gs : List Field). ended text (fields_words gs e os)) none ∙ sym last

-- ---- names

name_some : (ss : List (List ℕ)) (n : ℕ) → name_length ss ≡ Some n → 0 < n
name_some [] n h = absurd (cc)
name_some ([] ∷ ss) n h = let is : 1 ≡ n = cc in omega (arith, is)
name_some ((b ∷ l) ∷ ss) n h = by (name_length ss) h
  where
    by : (o : Option ℕ) → option_map (λ m. length (b ∷ l) + 1 + m) o ≡ Some n → 0 < n
    by None g = absurd (cc)
    by (Some m) g = let is : length (b ∷ l) + 1 + m ≡ n = cc in omega (arith, is)

-- the octets behind a name are fewer
pub name_shorter : (b : ℕ) (os first rest : List ℕ) → name_front (b ∷ os) ≡ Some (first, rest) → length rest ≤ length os
name_shorter b os first rest h = by (name_length (strings_of (b ∷ os)).0) refl h
  where
    at : (n : ℕ) → 0 < n → (c : Bool) → cond {A = Option (List ℕ × List ℕ)} c (Some (take n (b ∷ os), drop n (b ∷ os))) None ≡ Some (first, rest) → length rest ≤ length os
    at n some false g = absurd (cc)
    at n some true g =
        let is : drop n (b ∷ os) ≡ rest = same_rest (take n (b ∷ os)) (drop n (b ∷ os)) first rest g in
        omega (arith, ap length is, length-drop n (b ∷ os))

    by : (o : Option ℕ) → name_length (strings_of (b ∷ os)).0 ≡ o → (o >>= if_name (b ∷ os)) ≡ Some (first, rest) → length rest ≤ length os
    by None e g = absurd (cc)
    by (Some n) e g = at n (name_some (strings_of (b ∷ os)).0 n e) (is_wire_form (take n (b ∷ os))) g

names_enough : (n m : ℕ) (os : List ℕ) → length os ≤ n → length os ≤ m → names_within n os ≡ names_within m os
names_enough n m [] h k = refl
names_enough zero m (b ∷ os) h k = absurd (omega arith)
names_enough (suc n) zero (b ∷ os) h k = absurd (omega arith)
names_enough (suc n) (suc m) (b ∷ os) h k = by (name_front (b ∷ os)) refl (λ rest. names_enough n m rest)
  where
    by : (o : Option (List ℕ × List ℕ)) → name_front (b ∷ os) ≡ o → ((rest : List ℕ) → length rest ≤ n → length rest ≤ m → names_within n rest ≡ names_within m rest)
        → (o >>= λ x. option_map (λ ws. name_word x.0 ∷ ws) (names_within n x.1)) ≡ (o >>= λ x. option_map (λ ws. name_word x.0 ∷ ws) (names_within m x.1))
    by None e more = refl
    by (Some (first, rest)) e more =
        let fewer = name_shorter b os first rest e in
        ap (λ (o : Option (List PrintedWord)). option_map (λ ws. name_word first ∷ ws) o) (more rest (omega arith) (omega arith))

pub name_more : (text new rest os : List ℕ) → Some (new, rest) ≡ appended text (one_word name_word (name_front os)) → length rest < length os
    → ended new (names_within (length rest) rest) ≡ ended text (names_within (length os) os)
name_more text new rest [] h fewer = absurd (omega arith)
name_more text new rest (b ∷ os) h fewer = by (name_front (b ∷ os)) h
  where
    by : (o : Option (List ℕ × List ℕ)) → Some (new, rest) ≡ appended text (one_word name_word o)
        → ended new (names_within (length rest) rest) ≡ ended text (o >>= λ x. option_map (λ ws. name_word x.0 ∷ ws) (names_within (length os) x.1))
    by None g = absurd (cc)
    by (Some x) g =
        let text_is = same_text new rest (text ++ behind_spaces (name_word x.0 ∷ [])) x.1 g in
        let rest_is = same_rest new rest (text ++ behind_spaces (name_word x.0 ∷ [])) x.1 g in
        rw (text_is, names_enough (length rest) (length os) rest (omega arith) (omega arith), rest_is) (further text (name_word x.0 ∷ []) (names_within (length os) x.1))

pub name_stuck : (text os : List ℕ) → None ≡ appended text (one_word name_word (name_front os)) → 0 < length os → ended text (names_within (length os) os) ≡ None
name_stuck text [] h some = absurd (omega arith)
name_stuck text (b ∷ os) h some = by (name_front (b ∷ os)) h
  where
    by : (o : Option (List ℕ × List ℕ)) → None ≡ appended text (one_word name_word o)
        → ended text (o >>= λ x. option_map (λ ws. name_word x.0 ∷ ws) (names_within (length os) x.1)) ≡ None
    by None g = refl
    by (Some x) g = absurd (cc)

pub names_end : (text os : List ℕ) → length os ≡ 0 → ended text (names_within (length os) os) ≡ Some text
names_end text [] h = ap (λ (t : List ℕ). Some t) (append-nil text)
names_end text (b ∷ os) h = absurd (omega arith)

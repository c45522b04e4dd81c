-- Labels, one behind the other, and the names that they are
use Rattle.std.proofs.Common.{◌≡◌, ◌≢◌, ◌≤◌, ◌<◌, ℕ, List, [], ◌∷◌, ◌++◌, Bool, true, false, ◌&&◌, Some, None, refl, sym, ap, ◌∙◌, arith, length, length-append, append-nil}
use Rattle.std.specs.Prelude.{nat_le, filter}
use Rattle.std.specs.List.{flat_map, AllByRecursion}
use Rattle.std.proofs.lemmas.Bool.Decides.{leb_tells}
use Rattle.message_reading.specs.Octets.{counted_of}
use Rattle.zone_file_writer.specs.Labels.{are_labels, has_octets, is_end, is_name, is_wire_form, labels_of, part_text, parts_text}
use Rattle.zone_proto.specs.Names.{Name, IsLabel, IsName, wire_form, wire_length}
use Rattle.zone_proto.specs.Text.{label_text, name_text}
use Rattle.line_text.proofs.PrintedWords.{and_both}
use Rattle.zone_file_writer.specs.Strings.{strings_of}
use Rattle.zone_file_writer.proofs.StringFacts.{AreStrings, counted, joined_strings, none, one_more, strings_in}

-- ---- the test, label after label

first_label : (l : List ℕ) (ss : List (List ℕ)) (rest : List ℕ) → length l ≢ 0 → length l ≤ 63 → is_name (l ∷ ss, rest) ≡ is_name (ss, rest)
first_label [] ss rest some short = absurd (some refl)
first_label (b ∷ l) ss rest some short = let fits : nat_le (length (b ∷ l)) 63 ≡ true = grind (arith, leb_tells) in rw fits refl

pub label_more : (os l rest : List ℕ) → counted_of os ≡ Some (l, rest) → length l ≢ 0 → length l ≤ 63 → is_name (strings_of os) ≡ is_name (strings_of rest)
label_more os l rest h some short = ap is_name (one_more os l rest h) ∙ first_label l (strings_of rest).0 (strings_of rest).1 some short

and_false : (b : Bool) → (b && false) ≡ false
and_false true = refl
and_false false = refl

long_label : (l : List ℕ) (ss : List (List ℕ)) (rest : List ℕ) → 63 < length l → is_name (l ∷ ss, rest) ≡ false
long_label [] ss rest h = absurd (omega arith)
long_label (b ∷ l) ss rest h = let over : nat_le (length (b ∷ l)) 63 ≡ false = grind (arith, leb_tells) in rw over (and_false (is_end rest))

pub label_long : (os l rest : List ℕ) → counted_of os ≡ Some (l, rest) → 63 < length l → is_name (strings_of os) ≡ false
label_long os l rest h long = ap is_name (one_more os l rest h) ∙ long_label l (strings_of rest).0 (strings_of rest).1 long

last_label : (l : List ℕ) (rest : List ℕ) → (t : List (List ℕ) × List ℕ) → strings_of rest ≡ t → length l ≡ 0 → is_name (l ∷ t.0, t.1) ≡ is_end rest
last_label (b ∷ l) rest t e h = absurd (omega arith)
last_label [] [] t e h = ap (λ (u : List (List ℕ) × List ℕ). is_name ([] ∷ u.0, u.1)) (sym e)
last_label [] (o ∷ rest) (s ∷ ss, more) e h = and_false (is_end more)
last_label [] (o ∷ rest) ([], []) e h =
    let nothing : [] ≡ o ∷ rest = ap (λ (u : List (List ℕ) × List ℕ). flat_map (λ (s : List ℕ). length s ∷ s) u.0 ++ u.1) (sym e) ∙ joined_strings (length (o ∷ rest)) (o ∷ rest) in
    absurd (cc)
last_label [] (o ∷ rest) ([], m ∷ more) e h = refl

pub label_last : (os l rest : List ℕ) → counted_of os ≡ Some (l, rest) → length l ≡ 0 → is_name (strings_of os) ≡ is_end rest
label_last os l rest h e = ap is_name (one_more os l rest h) ∙ last_label l rest (strings_of rest) refl e

pub label_none : (os : List ℕ) → counted_of os ≡ None → is_name (strings_of os) ≡ false
label_none os h = ap is_name (none os h) ∙ and_false (is_end os)

-- ---- the text, label after label

pub parts_more : (os l rest : List ℕ) → counted_of os ≡ Some (l, rest) → parts_text os ≡ part_text l ++ parts_text rest
parts_more os l rest h = ap (λ (t : List (List ℕ) × List ℕ). flat_map part_text t.0) (one_more os l rest h)

pub parts_none : (os : List ℕ) → counted_of os ≡ None → parts_text os ≡ []
parts_none os h = ap (λ (t : List (List ℕ) × List ℕ). flat_map part_text t.0) (none os h)

-- ---- the name of octets

-- what octets that are the wire form of a name say of it
pub record IsNamed (os : List ℕ) (n : Name) : Type 0 where
  pub name : IsName n
  pub wire : wire_form n ≡ os
  pub text : flat_map part_text (strings_of os).0 ≡ flat_map label_text n

wire_count : (n : Name) → length (wire_form n) ≡ wire_length n
wire_count [] = refl
wire_count (l ∷ ls) = omega (arith, length-append l (wire_form ls), wire_count ls)

labels_are : (ss : List (List ℕ)) → are_labels ss ≡ true → AreStrings ss → AllByRecursion IsLabel (filter has_octets ss)
labels_are [] h are = absurd (cc)
labels_are ([] ∷ []) h are = tt
labels_are ([] ∷ s ∷ ss) h are = absurd (cc)
labels_are ((b ∷ l) ∷ ss) h are =
    let both = and_both (nat_le (length (b ∷ l)) 63) (are_labels ss) h in
    let fits : nat_le (length (b ∷ l)) 63 ≡ true = both.0 in
    (record { some = omega arith; short = grind (arith, leb_tells); octets = are.0 }, labels_are ss both.1 are.2)

wire_is : (ss : List (List ℕ)) → are_labels ss ≡ true → wire_form (filter has_octets ss) ≡ flat_map counted ss
wire_is [] h = absurd (cc)
wire_is ([] ∷ []) h = refl
wire_is ([] ∷ s ∷ ss) h = absurd (cc)
wire_is ((b ∷ l) ∷ ss) h =
    let both = and_both (nat_le (length (b ∷ l)) 63) (are_labels ss) h in
    ap (λ (t : List ℕ). length (b ∷ l) ∷ ((b ∷ l) ++ t)) (wire_is ss both.1)

text_is : (ss : List (List ℕ)) → are_labels ss ≡ true → flat_map part_text ss ≡ flat_map label_text (filter has_octets ss)
text_is [] h = absurd (cc)
text_is ([] ∷ []) h = refl
text_is ([] ∷ s ∷ ss) h = absurd (cc)
text_is ((b ∷ l) ∷ ss) h =
    let both = and_both (nat_le (length (b ∷ l)) 63) (are_labels ss) h in
    ap (λ (t : List ℕ). label_text (b ∷ l) ++ t) (text_is ss both.1)

ended : (rest : List ℕ) → is_end rest ≡ true → rest ≡ []
ended [] h = refl
ended (o ∷ rest) h = absurd (cc)

parts_of : (os : List ℕ) → is_wire_form os ≡ true → (length os ≤ 255) × ((strings_of os).1 ≡ []) × (are_labels (strings_of os).0 ≡ true)
parts_of os h =
    let both = and_both (nat_le (length os) 255) (is_name (strings_of os)) h in
    let fits : nat_le (length os) 255 ≡ true = both.0 in
    let more = and_both (is_end (strings_of os).1) (are_labels (strings_of os).0) both.1 in
    (grind (arith, leb_tells), ended (strings_of os).1 more.0, more.1)

wire_of : (os : List ℕ) → is_wire_form os ≡ true → wire_form (labels_of os) ≡ os
wire_of os h =
    let parts = parts_of os h in
    wire_is (strings_of os).0 parts.2
    ∙ sym (append-nil (flat_map counted (strings_of os).0))
    ∙ ap (λ (t : List ℕ). flat_map counted (strings_of os).0 ++ t) (sym parts.1)
    ∙ joined_strings (length os) os

pub named : (os : List ℕ) → AllByRecursion (λ b. b < 256) os → is_wire_form os ≡ true → IsNamed os (labels_of os)
named os octets h =
    let parts = parts_of os h in
    let wire : wire_form (labels_of os) ≡ os = wire_of os h in
    record {
      name = record {
        labels = labels_are (strings_of os).0 parts.2 (strings_in (length os) os octets);
        short = omega (arith, wire_count (labels_of os), ap length wire, parts.0);
      };
      wire = wire;
      text = text_is (strings_of os).0 parts.2;
    }

-- ---- what is printed of it

some_name : (n : Name) → length (wire_form n) ≢ 1 → name_text n ≡ flat_map label_text n
some_name [] h = absurd (h refl)
some_name (l ∷ ls) h = refl

root_name : (n : Name) → length (wire_form n) ≡ 1 → name_text n ≡ 46 ∷ []
root_name [] h = refl
root_name (l ∷ []) h = absurd (omega (arith, length-append l (0 ∷ [])))
root_name (l ∷ m ∷ ls) h = absurd (omega (arith, length-append l (wire_form (m ∷ ls))))

pub name_root : (os : List ℕ) → is_wire_form os ≡ true → length os ≡ 1 → name_text (labels_of os) ≡ 46 ∷ []
name_root os h one = root_name (labels_of os) (ap length (wire_of os h) ∙ one)

pub name_labels : (os : List ℕ) → is_wire_form os ≡ true → length os ≢ 1 → name_text (labels_of os) ≡ parts_text os
name_labels os h more =
    some_name (labels_of os) (λ e. more (sym (ap length (wire_of os h)) ∙ e)) ∙ sym (text_is (strings_of os).0 (parts_of os h).2)

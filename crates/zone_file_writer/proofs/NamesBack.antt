-- A printed name is read as that name, whatever the origin is.
use Rattle.std.proofs.Common.{◌≡◌, ◌<◌, ℕ, ◌+◌, ◌/◌, ◌%◌, ◌==◌, nat_eq, List, [], ◌∷◌, ◌++◌, length, Bool, true, false, cond, Option, Some, None, Ok, refl, sym, ap, subst, ◌∙◌, arith, append_assoc}
use Rattle.std.specs.Prelude.{option_and_then}
use Rattle.std.specs.List.{flat_map, AllByRecursion}
use Rattle.std.proofs.lemmas.Bool.Decides.{leb_tells, nat_tests}
use Rattle.zone_proto.specs.declared.error.ProtoError.{ProtoError}
use Rattle.zone_proto.specs.Data.{same_octets}
use Rattle.zone_proto.specs.Faults.{fault_of}
use Rattle.zone_proto.specs.Parse.{labels_of_text}
use Rattle.zone_proto.specs.Names.{Name, Label, IsName, IsLabel}
use Rattle.zone_proto.specs.TextForm.{three_digits}
use Rattle.zone_proto.specs.Text.{is_plain, octet_text, label_text, name_text}
use Rattle.line_text.specs.Reading.{name_of_word, unless_fault}
use Rattle.line_text.proofs.PrintedRecords.{name_back}
use Rattle.record_fields.specs.Texts.{generic}
use Rattle.zone_tokens.specs.Names.{at_sign, checked_if_there, graphic_name, is_absolute, name_alone, name_under, unless}

-- an octet that is printed first is no `@` and no `$`, and a text goes on behind it
plain_at : (b : ℕ) → is_plain b ≡ true → nat_eq b 64 ≡ false
plain_at b h = grind (arith, nat_tests, leb_tells)

plain_dollar : (b : ℕ) → is_plain b ≡ true → nat_eq b 36 ≡ false
plain_dollar b h = grind (arith, nat_tests, leb_tells)

plain_backslash : (b : ℕ) → is_plain b ≡ true → nat_eq b 92 ≡ false
plain_backslash b h = grind (arith, nat_tests, leb_tells)

digit_backslash : (d : ℕ) → d < 10 → nat_eq (48 + d) 92 ≡ false
digit_backslash d h = grind (arith, nat_tests)

abbrev pub first_is : List ℕ → ℕ → Bool
first_is [] c = false
first_is (b ∷ s) c = nat_eq b c

-- a text that is no `@`, no control word and no `\#`
abbrev FirstIsPlain : List ℕ → Type 0
FirstIsPlain s = (first_is s 64 ≡ false) × (first_is s 36 ≡ false) × (same_octets s generic ≡ false)

pub not_generic : (b : ℕ) (s : List ℕ) → (b == 92) ≡ false → same_octets (b ∷ s) generic ≡ false
not_generic b s h = rw h refl

no_hash : (d : ℕ) → nat_eq (48 + d) 35 ≡ false
no_hash d = grind (arith, nat_tests)

first_octet : (b : ℕ) (t : List ℕ) → FirstIsPlain (octet_text b ++ t)
first_octet b t = by (is_plain b) refl
  where
    by : (p : Bool) → is_plain b ≡ p → FirstIsPlain (cond p (b ∷ []) (92 ∷ three_digits b) ++ t)
    by true e = (plain_at b e, plain_dollar b e, not_generic b t (plain_backslash b e))
    by false e = (refl, refl, rw (no_hash (b / 100)) refl)

first_of_label : (l : Label) (t : List ℕ) → 0 < length l → FirstIsPlain (flat_map octet_text l ++ t)
first_of_label [] t h = absurd (omega arith)
first_of_label (b ∷ l) t h = subst FirstIsPlain (sym (append_assoc (octet_text b) (flat_map octet_text l) t)) (first_octet b (flat_map octet_text l ++ t))

pub first_of_name : (n : Name) → IsName n → FirstIsPlain (name_text n)
first_of_name [] h = (refl, refl, refl)
first_of_name (l ∷ ls) h =
    subst FirstIsPlain (sym (append_assoc (flat_map octet_text l) (46 ∷ []) (flat_map label_text ls)))
    (first_of_label l (46 ∷ flat_map label_text ls) h.labels.0.some)

no_at : (s : List ℕ) → first_is s 64 ≡ false → same_octets s at_sign ≡ false
no_at [] h = refl
no_at (b ∷ s) h = rw h refl

-- a printed name is absolute
one_octet : (b : ℕ) (t : List ℕ) → nat_eq b 92 ≡ false → 0 < length t → is_absolute (b ∷ t) ≡ is_absolute t
one_octet b [] h some = absurd (omega arith)
one_octet b (c ∷ t) h some = rw h refl

by_octet : (b : ℕ) (t : List ℕ) → b < 256 → 0 < length t → is_absolute (octet_text b ++ t) ≡ is_absolute t
by_octet b t small some = by (is_plain b) refl
  where
    by : (p : Bool) → is_plain b ≡ p → is_absolute (cond p (b ∷ []) (92 ∷ three_digits b) ++ t) ≡ is_absolute t
    by true e = one_octet b t (plain_backslash b e) some
    by false e =
        one_octet (48 + b / 10 % 10) ((48 + b % 10) ∷ t) (digit_backslash (b / 10 % 10) (omega arith)) (omega arith)
        ∙ one_octet (48 + b % 10) t (digit_backslash (b % 10) (omega arith)) some

more_length : (s t : List ℕ) → 0 < length t → 0 < length (s ++ t)
more_length [] t h = h
more_length (b ∷ s) t h = omega arith

by_label : (l : Label) (t : List ℕ) → AllByRecursion (λ b. b < 256) l → 0 < length t → is_absolute (flat_map octet_text l ++ t) ≡ is_absolute t
by_label [] t small some = refl
by_label (b ∷ l) t small some =
    ap is_absolute (append_assoc (octet_text b) (flat_map octet_text l) t)
    ∙ by_octet b (flat_map octet_text l ++ t) small.0 (more_length (flat_map octet_text l) t some)
    ∙ by_label l t small.1 some

some_labels : (l : Label) (ls : Name) → 0 < length (flat_map label_text (l ∷ ls))
some_labels l ls = by (flat_map octet_text l)
  where
    by : (s : List ℕ) → 0 < length ((s ++ 46 ∷ []) ++ flat_map label_text ls)
    by [] = omega arith
    by (b ∷ s) = omega arith

by_labels : (l : Label) (ls : Name) → AllByRecursion IsLabel (l ∷ ls) → is_absolute (flat_map label_text (l ∷ ls)) ≡ true
by_labels l [] h =
    ap is_absolute (append_assoc (flat_map octet_text l) (46 ∷ []) [])
    ∙ by_label l (46 ∷ []) h.0.octets (omega arith)
by_labels l (m ∷ ms) h =
    ap is_absolute (append_assoc (flat_map octet_text l) (46 ∷ []) (flat_map label_text (m ∷ ms)))
    ∙ by_label l (46 ∷ flat_map label_text (m ∷ ms)) h.0.octets (omega arith)
    ∙ one_octet 46 (flat_map label_text (m ∷ ms)) refl (some_labels m ms)
    ∙ by_labels m ms h.1

absolute : (n : Name) → IsName n → is_absolute (name_text n) ≡ true
absolute [] h = refl
absolute (l ∷ ls) h = by_labels l ls h.labels

-- what line_text reads as a name is one by itself
graphic : (w : List ℕ) (n : Name) → name_of_word w ≡ Some n → graphic_name w ≡ Ok n
graphic w n h = by (labels_of_text w) h
  where
    labels : (ls : Name) (f : Option ProtoError) → unless_fault f ls ≡ Some n → unless f ls ≡ Ok n
    labels ls None g = cc
    labels ls (Some e) g = absurd (cc)

    by : (o : Option Name) → option_and_then (λ ls. unless_fault (fault_of ls) ls) o ≡ Some n → checked_if_there o ≡ Ok n
    by None g = absurd (cc)
    by (Some ls) g = labels ls (fault_of ls) g

alone : (w : List ℕ) (n : Name) → name_of_word w ≡ Some n → name_alone w ≡ Ok n
alone w n h = rw (graphic w n h) refl

pub name_there : (origin n : Name) → IsName n → name_under origin (name_text n) ≡ Ok n
name_there origin n h =
    rw (no_at (name_text n) (first_of_name n h).0, absolute n h) (alone (name_text n) n (name_back n h))

-- Each text is read or has one fault.
use Rattle.std.proofs.Common.{◌≡◌, ◌⊎◌, inl, inr, ℕ, ◌<◌, ◌≤◌, List, [], ◌∷◌, length, Bool, true, false, ◌&&◌, cond, refl, sym, ap, subst, ◌∙◌, arith, Some, None}
use Rattle.std.proofs.lemmas.Bool.{ltb-true}
use Rattle.std.proofs.lemmas.Bool.Decides.{nat_tests}
use Rattle.std.specs.List.{AllByRecursion, list_all}
use Rattle.std.specs.Prelude.{Option, Result, Ok, Err, MatchResult, IfErr, nat_lt, ◌==◌, IsTrue}
use Rattle.zone_proto.specs.declared.error.ProtoError.{ProtoError}
use Rattle.zone_proto.specs.declared.error.ProtoError.TheVariants.{EmptyLabel, LabelTooLong, NameTooLong, BadText, Memory}
use Rattle.zone_proto.specs.Names.{Name, Label, IsLabel, IsName, wire_length}
use Rattle.zone_proto.specs.Ranges.{IsOctet}
use Rattle.zone_proto.specs.Faults.{fault_of, label_fault, length_fault, first_of_faults, IsTextFault, no_labels, no_name}
use Rattle.zone_proto.specs.Parse.{labels_of_text}
use Rattle.zone_proto.specs.TextForm.{is_graphic, IsOctetText, itself, escaped, by_value, IsLabelText, IsLabelsText, IsNameText}
use Rattle.zone_proto.proofs.Names.LabelFaults.{label_fault-none, some_octets, is_not_less}
use Rattle.zone_proto.proofs.Texts.TextForms.{read_form, bad_form, one_form}

none_is_some : {A B : Type 0} {x : A} → None ≡ Some x → B
none_is_some h = cc

-- ---- labels without a fault are a name

abbrev Octets : Name → Type 0
Octets = AllByRecursion (AllByRecursion IsOctet)

graphic_octet : (b : ℕ) → IsTrue (is_graphic b) → b < 256
graphic_octet b h = grind (arith, nat_tests)

octet_text : (s : List ℕ) (b : ℕ) → IsOctetText s b → IsOctet b
octet_text s b (itself f h g k) = graphic_octet b h
octet_text s b (escaped f h g) = graphic_octet b h
octet_text s b (by_value f h) = omega arith

pub label_text : (s : List ℕ) (l : Label) → IsLabelText s l → AllByRecursion IsOctet l
label_text s [] h = tt
label_text s (b ∷ l) (first, rest, e, h, more) = (octet_text first b h, label_text rest l more)

labels_text : (s : List ℕ) (ls : Name) → IsLabelsText s ls → Octets ls
labels_text s [] h = tt
labels_text s (l ∷ ls) (inl (first, rest, e, h, more)) = (label_text first l h, labels_text rest ls more)
labels_text s (l ∷ ls) (inr (h, some, e)) = (label_text s l h, subst Octets (sym e) tt)

text_octets : (s : List ℕ) (ls : Name) → IsNameText s ls → Octets ls
text_octets s [] h = tt
text_octets s (l ∷ ls) h = labels_text s (l ∷ ls) h.0

fits : (n m : ℕ) → nat_lt m n ≡ false → n ≤ m
fits n m h = grind (arith, nat_tests)

faultless_labels : (ls : Name) → Octets ls → label_fault ls ≡ None → AllByRecursion IsLabel ls
faultless_labels [] o h = tt
faultless_labels (l ∷ ls) o h = by_some (length l == 0) refl (faultless_labels ls o.1) h
  where
    by_short : (t : Bool) → nat_lt 63 (length l) ≡ t → (length l == 0) ≡ false → (label_fault ls ≡ None → AllByRecursion IsLabel ls)
        → cond t (Some LabelTooLong) (label_fault ls) ≡ None → AllByRecursion IsLabel (l ∷ ls)
    by_short true e some more h = none_is_some (sym h)
    by_short false e some more h = (record { some = some_octets (length l) some; short = fits (length l) 63 e; octets = o.0 }, more h)

    by_some : (t : Bool) → (length l == 0) ≡ t → (label_fault ls ≡ None → AllByRecursion IsLabel ls)
        → cond t (Some EmptyLabel) (cond (nat_lt 63 (length l)) (Some LabelTooLong) (label_fault ls)) ≡ None → AllByRecursion IsLabel (l ∷ ls)
    by_some true e more h = none_is_some (sym h)
    by_some false e more h = by_short (nat_lt 63 (length l)) refl e more h

pub faultless_name : (ls : Name) → Octets ls → fault_of ls ≡ None → IsName ls
faultless_name ls o h = by_labels (label_fault ls) refl h
  where
    by_length : (t : Bool) → nat_lt 255 (wire_length ls) ≡ t → cond t (Some NameTooLong) None ≡ None → wire_length ls ≤ 255
    by_length true e h = none_is_some (sym h)
    by_length false e h = fits (wire_length ls) 255 e

    by_labels : (f : Option ProtoError) → label_fault ls ≡ f → first_of_faults f (length_fault ls) ≡ None → IsName ls
    by_labels None e h = record { labels = faultless_labels ls o e; short = by_length (nat_lt 255 (wire_length ls)) refl h }
    by_labels (Some f) e h = none_is_some (sym h)

-- as a computation tells it of given labels
pub name_by_tests : (ls : Name) → fault_of ls ≡ None → list_all (list_all (λ b. nat_lt b 256)) ls ≡ true → IsName ls
name_by_tests ls h o = faultless_name ls (octets ls o) h
  where
    parts : (b c : Bool) → b && c ≡ true → (b ≡ true) × (c ≡ true)
    parts true c e = (refl, e)
    parts false c e = cc

    label_octets : (l : Label) → list_all (λ b. nat_lt b 256) l ≡ true → AllByRecursion IsOctet l
    label_octets [] e = tt
    label_octets (b ∷ l) e = let p = parts (nat_lt b 256) (list_all (λ b. nat_lt b 256) l) e in (ltb-true b 256 p.0, label_octets l p.1)

    octets : (ls : Name) → list_all (list_all (λ b. nat_lt b 256)) ls ≡ true → Octets ls
    octets [] e = tt
    octets (l ∷ ls) e = let p = parts (list_all (λ b. nat_lt b 256) l) (list_all (list_all (λ b. nat_lt b 256)) ls) e in (label_octets l p.0, octets ls p.1)

-- ---- and a name is without one

pub name_faultless : (ls : Name) → IsName ls → fault_of ls ≡ None
name_faultless ls h =
    ap (λ f. first_of_faults f (length_fault ls)) (label_fault-none ls h.labels)
    ∙ ap (λ t. cond t (Some NameTooLong) None) (is_not_less 255 (wire_length ls) h.short)

-- ---- a text is a name's or has a fault

pub read_or_refused : (s : List ℕ) → ((n : Name) × IsNameText s n × IsName n) ⊎ ((e : ProtoError) × IsTextFault s e)
read_or_refused s = by (labels_of_text s) refl
  where
    by_fault : (n : Name) (f : Option ProtoError) → IsNameText s n → fault_of n ≡ f → ((n : Name) × IsNameText s n × IsName n) ⊎ ((e : ProtoError) × IsTextFault s e)
    by_fault n None h e = inl (n, h, faultless_name n (text_octets s n h) e)
    by_fault n (Some f) h e = inr (f, no_name n h e)

    by : (o : Option Name) → labels_of_text s ≡ o → ((n : Name) × IsNameText s n × IsName n) ⊎ ((e : ProtoError) × IsTextFault s e)
    by None e = inr (BadText, no_labels (bad_form s e) refl)
    by (Some n) e = by_fault n (fault_of n) (read_form s n e) refl

pub name_has_no_fault : (s : List ℕ) (n : Name) (e : ProtoError) → IsNameText s n → IsName n → ¬ IsTextFault s e
name_has_no_fault s n e h name (no_labels bad f) = bad n h
name_has_no_fault s n e h name (no_name m k f) = none_is_some (sym (name_faultless n name) ∙ ap fault_of (one_form s n m h k) ∙ f)

same_some : {A : Type 0} {x y : A} → Some x ≡ Some y → x ≡ y
same_some h = cc

pub one_fault : (s : List ℕ) (d e : ProtoError) → IsTextFault s d → IsTextFault s e → d ≡ e
one_fault s d e (no_labels b f) (no_labels c g) = f ∙ sym g
one_fault s d e (no_labels b f) (no_name m k g) = absurd (b m k)
one_fault s d e (no_name n h f) (no_labels c g) = absurd (c n h)
one_fault s d e (no_name n h f) (no_name m k g) = same_some (sym f ∙ ap fault_of (one_form s n m h k) ∙ g)

-- labels that were read and are refused
pub labels_refused : {A : Type 0} (s : List ℕ) (ls : Name) (r : Result A ProtoError) → IsNameText s ls
    → MatchResult r (λ _. fault_of ls ≡ None) (λ e. fault_of ls ≡ Some e) → IfErr r (λ e. (e ≡ Memory) ⊎ IsTextFault s e)
labels_refused s ls (Ok x) h f = tt
labels_refused s ls (Err e) h f = inr (no_name ls h f)

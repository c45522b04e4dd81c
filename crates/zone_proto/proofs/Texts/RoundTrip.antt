-- What is printed of a name is of its text form, so it is read again.
use Rattle.std.proofs.Common.{◌≡◌, ◌≢◌, ◌↔◌, inl, ℕ, ◌<◌, ◌≤◌, List, [], ◌∷◌, ◌++◌, length, Bool, true, false, cond, refl, sym, ap, subst, arith}
use Rattle.std.proofs.lemmas.Bool.Decides.{nat_tests}
use Rattle.std.proofs.lemmas.List.{append_assoc, length-append}
use Rattle.std.specs.Prelude.{IsTrue}
use Rattle.std.specs.List.{flat_map, AllByRecursion}
use Rattle.zone_proto.specs.Names.{Name, Label, IsLabel, IsName}
use Rattle.zone_proto.specs.Ranges.{IsOctet}
use Rattle.zone_proto.specs.Text.{is_plain, octet_text, label_text, name_text}
use Rattle.zone_proto.specs.Faults.{IsTextFault}
use Rattle.zone_proto.specs.declared.error.ProtoError.{ProtoError}
use Rattle.zone_proto.specs.TextForm.{is_graphic, three_digits, IsOctetText, itself, by_value, IsLabelText, IsLabelsText, IsNameText}
use Rattle.zone_proto.proofs.Texts.TextForms.{one_form}
use Rattle.zone_proto.proofs.Texts.TextFaults.{name_has_no_fault}

plain_graphic : (b : ℕ) → is_plain b ≡ true → IsTrue (is_graphic b)
plain_graphic b h = grind (arith, nat_tests)

plain_other : (b k : ℕ) → is_plain b ≡ true → is_plain k ≡ false → b ≢ k
plain_other b k h n e = cc

octet_form : (b : ℕ) → b < 256 → IsOctetText (octet_text b) b
octet_form b h = by (is_plain b) refl
  where
    by : (p : Bool) → is_plain b ≡ p → IsOctetText (cond p (b ∷ []) (92 ∷ three_digits b)) b
    by true e = itself refl (plain_graphic b e) (plain_other b 46 e refl) (plain_other b 92 e refl)
    by false e = by_value refl (omega arith)

label_form : (l : Label) → AllByRecursion IsOctet l → IsLabelText (flat_map octet_text l) l
label_form [] h = refl
label_form (b ∷ l) h = (octet_text b, flat_map octet_text l, refl, octet_form b h.0, label_form l h.1)

labels_form : (ls : Name) → AllByRecursion IsLabel ls → IsLabelsText (flat_map label_text ls) ls
labels_form [] h = refl
labels_form (l ∷ ls) h = inl (
  flat_map octet_text l,
  flat_map label_text ls,
  append_assoc (flat_map octet_text l) (46 ∷ []) (flat_map label_text ls),
  label_form l h.0.octets,
  labels_form ls h.1,
)

some_text : (b : ℕ) → 1 ≤ length (octet_text b)
some_text b = by (is_plain b)
  where
    by : (p : Bool) → 1 ≤ length (cond p (b ∷ []) (92 ∷ three_digits b))
    by true = omega arith
    by false = omega arith

label_long : (l : Label) (s : List ℕ) → 0 < length l → 2 ≤ length (label_text l ++ s)
label_long [] s h = absurd (omega arith)
label_long (b ∷ l) s h =
    simp (length-append) (omega (arith, some_text b))

not_dot : (s : List ℕ) → 2 ≤ length s → s ≢ 46 ∷ []
not_dot s h e = let one : length s ≡ 1 = ap length e in omega arith

printed_form : (n : Name) → IsName n → IsNameText (name_text n) n
printed_form [] h = refl
printed_form (l ∷ ls) h = (
  labels_form (l ∷ ls) h.labels,
  not_dot (name_text (l ∷ ls)) (label_long l (flat_map label_text ls) h.labels.0.some),
)

pub printed_read : (n m : Name) → IsName n → (IsNameText (name_text n) m ↔ (m ≡ n))
printed_read n m h = (λ f. one_form (name_text n) m n f (printed_form n h), λ e. subst (IsNameText (name_text n)) (sym e) (printed_form n h))

pub printed_accepted : (n : Name) (e : ProtoError) → IsName n → ¬ IsTextFault (name_text n) e
printed_accepted n e h = name_has_no_fault (name_text n) n e (printed_form n h) h

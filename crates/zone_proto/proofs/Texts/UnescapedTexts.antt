-- A text without escapes is read from its last label on, into the packing of its name.
use Rattle.std.proofs.Common.{◌≡◌, ◌≢◌, ◌⊎◌, inl, inr, ℕ, ◌+◌, ◌<◌, ◌≤◌, List, [], ◌∷◌, ◌++◌, length, take, refl, sym, ap, subst, ◌∙◌, arith}
use Rattle.std.proofs.lemmas.Bool.Decides.{nat_tests}
use Rattle.std.proofs.lemmas.List.{append_assoc, append-nil, length-append}
use Rattle.std.proofs.Math.Seq.{take-append_seam}
use Rattle.std.specs.Prelude.{IsTrue}
use Rattle.std.specs.List.{AllByRecursion}
use Rattle.zone_proto.specs.Names.{Name, Label, IsLabel, IsName, wire_length}
use Rattle.zone_proto.specs.Packing.{IsInner, IsPackable, packing, name_of, IsPacking}
use Rattle.zone_proto.specs.TextForm.{is_graphic, itself, IsLabelText, IsLabelsText, IsNameText}
use Rattle.zone_proto.specs.Unescaped.{IsUnescaped, IsUnescapedLabel, IsFront}
use Rattle.zone_proto.proofs.Names.Packings.{is_packing, is_name_of}
use Rattle.zone_proto.proofs.Texts.TextFaults.{label_text}

inner_octet : (b : ℕ) → IsTrue (is_graphic b) → 1 < b
inner_octet b h = grind (arith, nat_tests)

inner_octets : (l : Label) → AllByRecursion IsUnescaped l → AllByRecursion IsInner l
inner_octets [] h = tt
inner_octets (b ∷ l) h = (inner_octet b h.0.0, inner_octets l h.1)

-- octets that are themselves are the text of the label that they are
label_itself : (l : Label) → AllByRecursion IsUnescaped l → IsLabelText l l
label_itself [] h = refl
label_itself (b ∷ l) h = (b ∷ [], l, refl, itself refl h.0.0 h.0.1 h.0.2, label_itself l h.1)

is_label : (l : Label) → IsUnescapedLabel l → IsLabel l
is_label l h = record { some = h.some; short = h.short; octets = label_text l l (label_itself l h.octets) }

-- what follows a label: nothing, or a dot and the text of the labels after it
abbrev pub Follows : List ℕ → Name → Type 0
Follows s n = ((s ≡ []) × (n ≡ [])) ⊎ ((rest : List ℕ) × (s ≡ 46 ∷ rest) × IsLabelsText rest n)

not_empty : (l : Label) → 0 < length l → l ≢ []
not_empty l h e = omega (arith, h, ap length e)

joined : (l : Label) (s : List ℕ) (n : Name) → IsUnescapedLabel l → Follows s n → IsLabelsText (l ++ s) (l ∷ n)
joined l s n h (inl (e, f)) = inr (
  subst (λ z. IsLabelText z l) (sym (ap (λ z. l ++ z) e ∙ append-nil l)) (label_itself l h.octets),
  not_empty l h.some,
  f,
)
joined l s n h (inr (rest, e, w)) = inl (l, rest, ap (λ z. l ++ z) e, label_itself l h.octets, w)

no_dot : (l : Label) (s : List ℕ) → IsUnescapedLabel l → l ++ s ≢ 46 ∷ []
no_dot [] s h e = absurd (omega (arith, h.some))
no_dot (b ∷ l) s h e = h.octets.0.1 (cc)

-- octets that have been read of a text, of which this much is left in front
pub record IsReadUpTo (text rest octets : List ℕ) : Type 0 where
  pub packing : IsPacking octets (name_of octets)
  pub labels : AllByRecursion IsLabel (name_of octets)
  pub short : wire_length (name_of octets) + length rest ≤ length text + 1
  pub after : (s : List ℕ) × (text ≡ rest ++ s) × Follows s (name_of octets)

-- the octets with one more label
abbrev pub with_label : List ℕ → Label → List ℕ
with_label s l = (s ++ l) ++ 0 ∷ []

packing_with : (s : List ℕ) (l : Label) → IsPacking s (name_of s) → with_label s l ≡ packing (l ∷ name_of s)
packing_with s l h = append_assoc s l (0 ∷ []) ∙ ap (λ z. z ++ (l ++ 0 ∷ [])) h.octets

packable_with : (s : List ℕ) (l : Label) → IsUnescapedLabel l → IsPacking s (name_of s) → IsPackable (l ∷ name_of s)
packable_with s l h k = (inner_octets l h.octets, k.packable)

name_with : (s : List ℕ) (l : Label) → IsUnescapedLabel l → IsPacking s (name_of s) → name_of (with_label s l) ≡ l ∷ name_of s
name_with s l h k = is_name_of (with_label s l) (l ∷ name_of s) (packable_with s l h k) (packing_with s l k)

-- what precedes a label ends with a dot, if there is something
pub ends_with_dot : (front before : List ℕ) (x : ℕ) → IsFront front → front ≡ before ++ x ∷ [] → front ≡ before ++ 46 ∷ []
ends_with_dot front before x (inl none) e = absurd (omega (arith, ap length none, ap length e, length-append before (x ∷ [])))
ends_with_dot front before x (inr (b, f)) e =
    let long : length before ≡ length b = omega (arith, ap length e, length-append before (x ∷ []), ap length f, length-append b (46 ∷ [])) in
    let same : before ≡ b =
    sym (take-append_seam before (x ∷ []))
    ∙ ap (take (length before)) (sym e ∙ f)
    ∙ ap (λ k. take k (b ++ 46 ∷ [])) long
    ∙ take-append_seam b (46 ∷ []) in
    f ∙ ap (λ z. z ++ 46 ∷ []) (sym same)

-- a further label is read, with the dot before it
pub label_read : (text rest front before : List ℕ) (l : Label) (s : List ℕ) → IsReadUpTo text rest s → rest ≡ front ++ l → front ≡ before ++ 46 ∷ []
    → IsUnescapedLabel l → IsReadUpTo text before (with_label s l)
label_read text rest front before l s r e f h =
    let same : l ∷ name_of s ≡ name_of (with_label s l) = sym (name_with s l h r.packing) in
    let tail : List ℕ = r.after.0 in
    let whole : text ≡ before ++ 46 ∷ (l ++ tail) =
    r.after.1 ∙ ap (λ z. z ++ tail) (e ∙ ap (λ z. z ++ l) f)
    ∙ append_assoc (before ++ 46 ∷ []) l tail
    ∙ append_assoc before (46 ∷ []) (l ++ tail) in record {
      packing = is_packing (with_label s l) (l ∷ name_of s) (packable_with s l h r.packing) (packing_with s l r.packing);
      labels = subst (AllByRecursion IsLabel) same (is_label l h, r.labels);
      short = subst (λ n. wire_length n + length before ≤ length text + 1) same
          (omega (arith, r.short, ap length e, ap length f, length-append front l, length-append before (46 ∷ [])));
      after = (46 ∷ (l ++ tail), whole, subst (Follows (46 ∷ (l ++ tail))) same (inr (l ++ tail, refl, joined l tail (name_of s) h r.after.2)));
    }

-- the first label is read
pub all_read : (text rest front : List ℕ) (l : Label) (s : List ℕ) → IsReadUpTo text rest s → rest ≡ front ++ l → front ≡ []
    → IsUnescapedLabel l → length text ≤ 253
    → IsPacking (with_label s l) (name_of (with_label s l)) × IsNameText text (name_of (with_label s l)) × IsName (name_of (with_label s l))
all_read text rest front l s r e f h short =
    let same : l ∷ name_of s ≡ name_of (with_label s l) = sym (name_with s l h r.packing) in
    let tail : List ℕ = r.after.0 in
    let whole : text ≡ l ++ tail = r.after.1 ∙ ap (λ z. z ++ tail) (e ∙ ap (λ z. z ++ l) f) in (
      is_packing (with_label s l) (l ∷ name_of s) (packable_with s l h r.packing) (packing_with s l r.packing),
      subst (IsNameText text) same (subst (λ z. IsLabelsText z (l ∷ name_of s)) (sym whole) (joined l tail (name_of s) h r.after.2), λ d. no_dot l tail h (sym whole ∙ d)),
      subst IsName same (record {
        labels = (is_label l h, r.labels);
        short = omega (arith, r.short, short, ap length e, length-append front l);
      }),
    )

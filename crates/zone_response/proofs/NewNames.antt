-- Octets that are the wire form of a name, and names with a target in an owner's place
use Rattle.std.proofs.Common.{◌≡◌, ◌≢◌, ℕ, zero, suc, ◌-◌, ◌<◌, Bool, true, false, cond, ◌&&◌, List, [], ◌∷◌, ◌++◌, length, take, refl, sym, ap, ◌∙◌, arith, length-append, append_assoc}
use Rattle.std.specs.Prelude.{Option, Some, None, is_none, nat_lt, ◌==◌}
use Rattle.std.specs.declared.alloc.Global.{Global}
use Rattle.std.specs.declared.vec.Vec.{Vec}
use Rattle.std.specs.List.{AllByRecursion}
use Rattle.std.proofs.lemmas.Bool.{eqb-false, ne_eqb, ltb-true}
use Rattle.std.proofs.lemmas.List.{take_at, map-append}
use Rattle.std.proofs.lemmas.Slice.Eq.{bytes_eq-Decides}
use Rattle.zone_proto.specs.declared.error.ProtoError.{ProtoError}
use Rattle.zone_proto.specs.declared.error.ProtoError.TheVariants.{EmptyLabel, LabelTooLong, NameTooLong}
use Rattle.zone_proto.specs.Counting.{counting}
use Rattle.zone_proto.specs.Faults.{label_fault, length_fault, first_of_faults, fault_of}
use Rattle.zone_proto.specs.Names.{Name, IsLabel, IsName, label_eq, wire_form, wire_length}
use Rattle.zone_proto.specs.Vectors.{octets_of}
use Rattle.zone_proto.specs.WireForms.{HaveOctets, IsWireFault, no_labels, no_name}
use Rattle.zone_proto.proofs.Names.Countings.{is_counted_name}
use Rattle.zone_proto.proofs.Names.WireLabels.{wire_is_counting}
use Rattle.zone_response.specs.Dname.{labels_in, name_in, in_place_of, unless_long}

-- ---- faults

no_label_fault : (n : Name) → fault_of n ≡ None → label_fault n ≡ None
no_label_fault n = by (label_fault n)
  where
    by : (o : Option ProtoError) → first_of_faults o (length_fault n) ≡ None → o ≡ None
    by None e = refl
    by (Some f) e = absurd cc

have_octets : (n : Name) → label_fault n ≡ None → HaveOctets n
have_octets [] e = tt
have_octets (l ∷ n) e = by (length l == 0) refl (nat_lt 63 (length l)) e (have_octets n)
  where
    some : length l ≢ 0 → 0 < length l
    some k = omega (arith, k)

    by : (b : Bool) → (length l == 0) ≡ b → (c : Bool) → cond b (Some EmptyLabel) (cond c (Some LabelTooLong) (label_fault n)) ≡ None → (label_fault n ≡ None → HaveOctets n) → HaveOctets (l ∷ n)
    by true f c e rest = absurd cc
    by false f true e rest = absurd cc
    by false f false e rest = (some (eqb-false (length l) 0 f), rest e)

labels_fine : (n : Name) → AllByRecursion IsLabel n → label_fault n ≡ None
labels_fine [] h = refl
labels_fine (l ∷ n) h = λ i. cond (some i) (Some EmptyLabel) (cond (short i) (Some LabelTooLong) (labels_fine n h.1 i))
  where
    some : (length l == 0) ≡ false
    some = ne_eqb (length l) 0 (λ z. omega (arith, z, h.0.some))

    short : nat_lt 63 (length l) ≡ false
    short = by (nat_lt 63 (length l)) refl
      where
        by : (b : Bool) → nat_lt 63 (length l) ≡ b → b ≡ false
        by true e = absurd (omega (arith, ltb-true 63 (length l) e, h.0.short))
        by false e = refl

pub fine : (n : Name) → IsName n → fault_of n ≡ None
fine n h = (λ i. first_of_faults (labels_fine n h.labels i) (length_fault n)) ∙ ap (λ b. cond b (Some NameTooLong) None) short
  where
    short : nat_lt 255 (wire_length n) ≡ false
    short = by (nat_lt 255 (wire_length n)) refl
      where
        by : (b : Bool) → nat_lt 255 (wire_length n) ≡ b → b ≡ false
        by true e = absurd (omega (arith, ltb-true 255 (wire_length n) e, h.short))
        by false e = refl

-- ---- the name of which octets are the wire form

labels_read : (octets : List ℕ) (n : Name) → octets ≡ wire_form n → labels_in octets ≡ n
labels_read octets n e = is_counted_name (take (length octets - 1) octets) n (cut (e ∙ wire_is_counting n))
  where
    cut : octets ≡ counting n ++ 0 ∷ [] → take (length octets - 1) octets ≡ counting n
    cut is =
        let size : length octets - 1 ≡ length (counting n) = omega (arith, ap length is, length-append (counting n) (0 ∷ [])) in
        (λ i. take (size i) (is i)) ∙ take_at (counting n) (0 ∷ []) (length (counting n)) refl

abbrev test : List ℕ → Name → Option ProtoError → Option Name
test octets n fault = cond (label_eq octets (wire_form n) && is_none fault) (Some n) None

same_octets : (a b : List ℕ) → a ≡ b → label_eq a b ≡ true
same_octets a b e = (bytes_eq-Decides a b).1 e

pub read : (octets : List ℕ) (n : Name) → octets ≡ wire_form n → fault_of n ≡ None → Some n ≡ name_in octets
read octets n form none =
    sym
    ((λ i. test octets (labels_read octets n form i) (fault_of (labels_read octets n form i)))
    ∙ (λ i. cond (same_octets octets (wire_form n) form i && is_none (none i)) (Some n) None))

pub unread : (octets : List ℕ) (e : ProtoError) → IsWireFault octets e → None ≡ name_in octets
unread octets e (no_name n some form fault) =
    sym
    ((λ i. test octets (labels_read octets n form i) (fault_of (labels_read octets n form i)))
    ∙ (λ i. cond (same_octets octets (wire_form n) form i && is_none (fault i)) (Some n) None))
unread octets e (no_labels none is) = by (label_eq octets (wire_form (labels_in octets))) refl (fault_of (labels_in octets)) refl
  where
    by : (b : Bool) → label_eq octets (wire_form (labels_in octets)) ≡ b → (o : Option ProtoError) → fault_of (labels_in octets) ≡ o
        → None ≡ cond (b && is_none o) (Some (labels_in octets)) None
    by true f None g =
        absurd
        (none (labels_in octets) (have_octets (labels_in octets) (no_label_fault (labels_in octets) g))
        ((bytes_eq-Decides octets (wire_form (labels_in octets))).0 f))
    by true f (Some fault) g = refl
    by false f o g = refl

pub told_in : (octets : List ℕ) (n : Name) → name_in octets ≡ Some n → (octets ≡ wire_form n) × (fault_of n ≡ None)
told_in octets n = by (label_eq octets (wire_form (labels_in octets))) refl (fault_of (labels_in octets)) refl
  where
    same : (k n : Name) → Some k ≡ Some n → k ≡ n
    same k n e = cc

    of : labels_in octets ≡ n → octets ≡ wire_form (labels_in octets) → fault_of (labels_in octets) ≡ None → (octets ≡ wire_form n) × (fault_of n ≡ None)
    of same form none = (form ∙ ap wire_form same, sym (ap fault_of same) ∙ none)

    by : (b : Bool) → label_eq octets (wire_form (labels_in octets)) ≡ b → (o : Option ProtoError) → fault_of (labels_in octets) ≡ o
        → cond (b && is_none o) (Some (labels_in octets)) None ≡ Some n → (octets ≡ wire_form n) × (fault_of n ≡ None)
    by true f None g e = of (same (labels_in octets) n e) ((bytes_eq-Decides octets (wire_form (labels_in octets))).0 f) g
    by true f (Some fault) g e = absurd cc
    by false f o g e = absurd cc

-- ---- a name with a target in the owner's place

pub replaced : (owner target front : Name) → in_place_of owner target (front ++ owner) ≡ front ++ target
replaced owner target front =
    ap (λ k. k ++ target)
    (ap (λ k. take k (front ++ owner)) size ∙ take_at front owner (length front) refl)
  where
    size : length (front ++ owner) - length owner ≡ length front
    size = omega (arith, length-append front owner)

all_taken : {A : Type 0} (P : A → Type 0) (k : ℕ) (xs : List A) → AllByRecursion P xs → AllByRecursion P (take k xs)
all_taken P zero xs h = tt
all_taken P (suc k) [] h = tt
all_taken P (suc k) (x ∷ xs) h = (h.0, all_taken P k xs h.1)

all_joined : {A : Type 0} (P : A → Type 0) (xs ys : List A) → AllByRecursion P xs → AllByRecursion P ys → AllByRecursion P (xs ++ ys)
all_joined P [] ys h k = k
all_joined P (x ∷ xs) ys h k = (h.0, all_joined P xs ys h.1 k)

pub fits : (n : Name) → fault_of n ≡ None → Some n ≡ unless_long n
fits n = by (label_fault n) (nat_lt 255 (wire_length n))
  where
    by : (o : Option ProtoError) (b : Bool) → first_of_faults o (cond b (Some NameTooLong) None) ≡ None → Some n ≡ cond b None (Some n)
    by None true e = absurd cc
    by None false e = refl
    by (Some f) b e = absurd cc

over : (n : Name) (e : ProtoError) → AllByRecursion IsLabel n → fault_of n ≡ Some e → None ≡ unless_long n
over n e h f = by (nat_lt 255 (wire_length n)) (ap (λ o. first_of_faults o (length_fault n)) (sym (labels_fine n h)) ∙ f)
  where
    by : (b : Bool) → cond b (Some NameTooLong) None ≡ Some e → None ≡ cond b None (Some n)
    by true g = refl
    by false g = absurd cc

pub too_long : (owner target x : Name) (e : ProtoError) → IsName target → IsName x → fault_of (in_place_of owner target x) ≡ Some e → None ≡ unless_long (in_place_of owner target x)
too_long owner target x e t h f =
    over (in_place_of owner target x) e
    (all_joined IsLabel (take (length x - length owner) x) target (all_taken IsLabel (length x - length owner) x h.labels) t.labels) f

-- ---- labels put behind others

pub label_added : (before after : List (Vec ℕ Global)) (copy : Vec ℕ Global) (label : List ℕ) (left rest : Name) (k j : ℕ) (whole : Name) → after ≡ before ++ copy ∷ [] → copy.items ≡ label → left ≡ label ∷ rest → k ≡ suc j
    → octets_of before ++ take k left ≡ whole → octets_of after ++ take j rest ≡ whole
label_added before after copy label left rest k j whole put same is count so_far =
    ap (λ v. octets_of v ++ take j rest) put
    ∙ ap (λ n. n ++ take j rest) (map-append (λ (v : Vec ℕ Global). v.items) before (copy ∷ []))
    ∙ append_assoc (octets_of before) (copy.items ∷ []) (take j rest)
    ∙ ap (λ l. octets_of before ++ l ∷ take j rest) same
    ∙ sym (λ i. octets_of before ++ take (count i) (is i)) ∙ so_far

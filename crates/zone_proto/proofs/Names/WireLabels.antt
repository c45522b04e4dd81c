-- Names read from their wire form, label by label, and written from the root on
use Rattle.std.proofs.Common.{◌≡◌, ◌≢◌, ℕ, suc, ◌+◌, ◌-◌, ◌<◌, ◌≤◌, List, [], ◌∷◌, ◌++◌, length, take, drop, get_or, set, Bool, true, false, cond, eqb, Option, Some, None, refl, sym, ap, subst, ◌∙◌, arith, append_assoc, length-take-le}
use Rattle.std.specs.Prelude.{nat_lt, ◌==◌}
use Rattle.std.specs.List.{AllByRecursion}
use borrow.Rule.Slice.PartMut.{put_mid}
use Rattle.std.proofs.lemmas.Bool.{ltb-false, ne_eqb, eqb-false, eqb-true}
use Rattle.std.proofs.lemmas.List.{length-append, append-nil, take_at, drop_at, drop_all, drop-drop, drop_more, set_at, length-set, length-drop}
use Rattle.zone_proto.specs.declared.error.ProtoError.{ProtoError}
use Rattle.zone_proto.specs.declared.error.ProtoError.TheVariants.{EmptyLabel, LabelTooLong, NameTooLong, BadText}
use Rattle.zone_proto.specs.Counting.{counting, counted_name, IsCounting}
use Rattle.zone_proto.specs.Faults.{label_fault, length_fault, first_of_faults}
use Rattle.zone_proto.specs.Names.{Name, Label, IsLabel, IsName, wire_form, wire_length}
use Rattle.zone_proto.specs.Packing.{packing, name_of, IsPackable, IsPacking}
use Rattle.zone_proto.specs.Ranges.{IsOctet}
use Rattle.zone_proto.specs.WireForms.{HaveOctets, IsWireFault, no_labels, no_name, IsWireForm}
use Rattle.zone_proto.proofs.Names.Countings.{is_counted_name, is_counting}
use Rattle.zone_proto.proofs.Names.Faults.{AllByRecursion-push}
use Rattle.zone_proto.proofs.Names.Packings.{is_packing, is_name_of}

-- ---- the wire form is the labels behind their lengths, and the end

pub wire_is_counting : (n : Name) → wire_form n ≡ counting n ++ 0 ∷ []
wire_is_counting [] = refl
wire_is_counting (l ∷ n) = λ i. length l ∷ (ap (λ s. l ++ s) (wire_is_counting n) ∙ sym (append_assoc l (counting n) (0 ∷ []))) i

wire_is_long : (n : Name) → wire_length n ≡ length (wire_form n)
wire_is_long [] = refl
wire_is_long (l ∷ n) = omega (arith, wire_is_long n, length-append l (wire_form n))

counting-push : (n : Name) (l : Label) → counting (n ++ l ∷ []) ≡ counting n ++ length l ∷ l
counting-push [] l = λ i. length l ∷ append-nil l i
counting-push (k ∷ n) l = λ i. length k ∷ (ap (λ s. k ++ s) (counting-push n l) ∙ sym (append_assoc k (counting n) (length l ∷ l))) i

-- ---- labels that were read, and what is left

pub record IsReadUpTo (octets rest : List ℕ) (fault : Option ProtoError) : Type 0 where
  pub front : Name
  pub some : HaveOctets front
  pub small : AllByRecursion (AllByRecursion IsOctet) front
  pub whole : octets ≡ counting front ++ rest
  pub told : fault ≡ label_fault front

pub nothing_read : (octets : List ℕ) → IsReadUpTo octets octets None
nothing_read octets = record { front = []; some = tt; small = tt; whole = refl; told = refl }

-- what would be left to be read, were the octets the wire form of labels
pub record IsLeft (rest : List ℕ) : Type 0 where
  pub labels : Name
  pub some : HaveOctets labels
  pub form : rest ≡ wire_form labels

same_front : (a b s t : List ℕ) → length a ≡ length b → a ++ s ≡ b ++ t → s ≡ t
same_front a b s t size e =
    sym (drop_at a s (length a) refl) ∙ ap (λ k. drop k (a ++ s)) size ∙ ap (drop (length b)) e ∙ drop_at b t (length b) refl

left_of : (front ls : Name) (rest : List ℕ) → HaveOctets front → HaveOctets ls → counting front ++ rest ≡ wire_form ls → IsLeft rest
left_of [] ls rest f h e = record { labels = ls; some = h; form = e }
left_of (l ∷ front) [] rest f h e = absurd (omega (arith, f.0, first e))
  where
    first : length l ∷ ((l ++ counting front) ++ rest) ≡ 0 ∷ [] → length l ≡ 0
    first e = cc
left_of (l ∷ front) (k ∷ ls) rest f h e =
    let size : length l ≡ length k = cc in
    let tail : (l ++ counting front) ++ rest ≡ k ++ wire_form ls = cc in
    left_of front ls rest f.1 h.1 (same_front l k (counting front ++ rest) (wire_form ls) size (sym (append_assoc l (counting front) rest) ∙ tail))

no_form : (octets rest : List ℕ) (fault : Option ProtoError) → IsReadUpTo octets rest fault → (IsLeft rest → ⊥) → IsWireFault octets BadText
no_form octets rest fault r none = no_labels (λ ls h e. none (left_of r.front ls rest r.some h (sym r.whole ∙ e))) refl

pub ends_early : (octets rest : List ℕ) (fault : Option ProtoError) → IsReadUpTo octets rest fault → rest ≡ [] → IsWireFault octets BadText
ends_early octets rest fault r none = no_form octets rest fault r (λ left. by left.labels (sym none ∙ left.form))
  where
    by : (ls : Name) → [] ≡ wire_form ls → ⊥
    by [] e = cc
    by (l ∷ ls) e = cc

-- a length that more octets would have to follow than are left, or 0 and more octets
pub bad_count : (octets rest : List ℕ) (fault : Option ProtoError) (count : ℕ) (after : List ℕ) → IsReadUpTo octets rest fault → rest ≡ count ∷ after
    → (count ≡ 0 → after ≢ []) → (count ≢ 0 → length after < count) → IsWireFault octets BadText
bad_count octets rest fault count after r is ends short = no_form octets rest fault r (λ left. by left.labels left.some (sym is ∙ left.form))
  where
    by : (ls : Name) → HaveOctets ls → count ∷ after ≡ wire_form ls → ⊥
    by [] h e = let none : count ≡ 0 = cc in let empty : after ≡ [] = cc in ends none empty
    by (l ∷ ls) h e =
        let size : count ≡ length l = cc in
        let tail : after ≡ l ++ wire_form ls = cc in
        omega (arith, size, ap length tail, length-append l (wire_form ls), short (λ z. omega (arith, z, size, h.0)))

-- ---- one label more

label_fault-push : (n : Name) (l : Label) → label_fault (n ++ l ∷ []) ≡ first_of_faults (label_fault n) (label_fault (l ∷ []))
label_fault-push [] l = refl
label_fault-push (k ∷ n) l = by (length k == 0) (nat_lt 63 (length k)) (label_fault-push n l)
  where
    by : (z t : Bool) → label_fault (n ++ l ∷ []) ≡ first_of_faults (label_fault n) (label_fault (l ∷ []))
        → cond z (Some EmptyLabel) (cond t (Some LabelTooLong) (label_fault (n ++ l ∷ [])))
        ≡ first_of_faults (cond z (Some EmptyLabel) (cond t (Some LabelTooLong) (label_fault n))) (label_fault (l ∷ []))
    by true t e = refl
    by false true e = refl
    by false false e = e

not_empty : (l : Label) → 0 < length l → label_fault (l ∷ []) ≡ cond (nat_lt 63 (length l)) (Some LabelTooLong) None
not_empty l h = let e : eqb (length l) 0 ≡ false = ne_eqb (length l) 0 (λ z. omega (arith, z, h)) in rw e refl

pub label_read : (octets rest : List ℕ) (fault : Option ProtoError) (count : ℕ) (label next : List ℕ) → IsReadUpTo octets rest fault
    → rest ≡ count ∷ (label ++ next) → 0 < count → length label ≡ count → AllByRecursion IsOctet label
    → IsReadUpTo octets next (first_of_faults fault (cond (nat_lt 63 count) (Some LabelTooLong) None))
label_read octets rest fault count label next r is some size small = record {
  front = r.front ++ label ∷ [];
  some = AllByRecursion-push (λ l. 0 < length l) r.front label r.some (omega (arith, size, some));
  small = AllByRecursion-push (AllByRecursion IsOctet) r.front label r.small small;
  whole =
      r.whole ∙ ap (λ s. counting r.front ++ s) (is ∙ ap (λ k. k ∷ (label ++ next)) (sym size))
      ∙ sym (append_assoc (counting r.front) (length label ∷ label) next) ∙ ap (λ s. s ++ next) (sym (counting-push r.front label));
  told =
      (λ i. first_of_faults (r.told i) (cond (nat_lt 63 (sym size i)) (Some LabelTooLong) None))
      ∙ ap (first_of_faults (label_fault r.front)) (sym (not_empty label (omega (arith, size, some)))) ∙ sym (label_fault-push r.front label);
}

-- ---- the end

whole_form : (octets rest : List ℕ) (fault : Option ProtoError) (r : IsReadUpTo octets rest fault) → rest ≡ 0 ∷ [] → octets ≡ wire_form r.front
whole_form octets rest fault r is = r.whole ∙ ap (λ s. counting r.front ++ s) is ∙ sym (wire_is_counting r.front)

pub faulty : (octets rest : List ℕ) (fault : Option ProtoError) (e : ProtoError) → IsReadUpTo octets rest fault → rest ≡ 0 ∷ [] → fault ≡ Some e
    → IsWireFault octets e
faulty octets rest fault e r is found =
    no_name r.front r.some (whole_form octets rest fault r is) (ap (λ f. first_of_faults f (length_fault r.front)) (sym r.told ∙ found))

pub too_long : (octets rest : List ℕ) (fault : Option ProtoError) → IsReadUpTo octets rest fault → rest ≡ 0 ∷ [] → fault ≡ None
    → 255 < length octets → IsWireFault octets NameTooLong
too_long octets rest fault r is found long =
    let form = whole_form octets rest fault r is in
    no_name r.front r.some form
    (ap (λ f. first_of_faults f (length_fault r.front)) (sym r.told ∙ found)
    ∙ by (nat_lt 255 (wire_length r.front)) refl (omega (arith, long, ap length form, wire_is_long r.front)))
  where
    by : (b : Bool) → nat_lt 255 (wire_length r.front) ≡ b → 255 < wire_length r.front → cond b (Some NameTooLong) None ≡ Some NameTooLong
    by true e h = refl
    by false e h = absurd (omega (arith, ltb-false 255 (wire_length r.front) e, h))

labels_valid : (n : Name) → HaveOctets n → AllByRecursion (AllByRecursion IsOctet) n → label_fault n ≡ None → AllByRecursion IsLabel n
labels_valid [] h s e = tt
labels_valid (l ∷ n) h s e = by (length l == 0) (nat_lt 63 (length l)) refl e (labels_valid n h.1 s.1)
  where
    by : (z t : Bool) → nat_lt 63 (length l) ≡ t → cond z (Some EmptyLabel) (cond t (Some LabelTooLong) (label_fault n)) ≡ None
        → (label_fault n ≡ None → AllByRecursion IsLabel n) → AllByRecursion IsLabel (l ∷ n)
    by true t f e rest = absurd cc
    by false true f e rest = absurd cc
    by false false f e rest = (record { some = h.0; short = omega (arith, ltb-false 63 (length l) f); octets = s.0 }, rest e)

pub is_wire_form : (octets rest labels : List ℕ) (fault : Option ProtoError) → IsReadUpTo octets rest fault → rest ≡ 0 ∷ [] → fault ≡ None
    → length octets ≤ 255 → labels ≡ take (length octets - 1) octets → IsWireForm octets labels
is_wire_form octets rest labels fault r is found short cut =
    let form = whole_form octets rest fault r is in
    let valid = labels_valid r.front r.some r.small (sym r.told ∙ found) in
    let size : length octets - 1 ≡ length (counting r.front) =
    omega (arith, ap length r.whole, ap length is, length-append (counting r.front) rest) in
    let are : labels ≡ counting r.front =
    cut ∙ (λ i. take (size i) (r.whole i)) ∙ take_at (counting r.front) rest (length (counting r.front)) refl in
    let same : r.front ≡ counted_name labels = sym (is_counted_name labels r.front are) in
    record {
      counting = is_counting labels r.front valid are;
      name = subst IsName same (record { labels = valid; short = omega (arith, short, ap length form, wire_is_long r.front) });
      form = form ∙ ap wire_form same;
    }

-- ---- the labels from the root on

pub counting_is_packing : (n : Name) → length (packing n) ≡ length (counting n)
counting_is_packing [] = refl
counting_is_packing (l ∷ n) =
    omega (arith, length-append (packing n) (l ++ 0 ∷ []), length-append l (0 ∷ []), length-append l (counting n), counting_is_packing n)

-- the labels that are left go before what is written
pub record IsWrittenFrom (octets labels rest : List ℕ) : Type 0 where
  pub counting : IsCounting rest (counted_name rest)
  pub size : length octets ≡ length labels
  pub within : length rest ≤ length labels
  pub gives : packing (counted_name rest) ++ drop (length rest) octets ≡ packing (counted_name labels)

pub written_none : (octets labels : List ℕ) → IsCounting labels (counted_name labels) → length octets ≡ length labels → IsWrittenFrom octets labels labels
written_none octets labels c size = record {
  counting = c;
  size = size;
  within = omega arith;
  gives = ap (λ s. packing (counted_name labels) ++ s) (drop_all (length labels) octets (omega (arith, size))) ∙ append-nil (packing (counted_name labels));
}

-- a label and its end are written before what is there
over : (octets label : List ℕ) (a k : ℕ) → length label ≡ k → a + k < length octets
    → drop a (set (put_mid a k octets label) (a + k) 0) ≡ label ++ 0 ∷ drop (a + k + 1) octets
over octets label a k size inside =
    let front : List ℕ = take a octets ++ label in
    let far : drop k (drop a octets) ≡ get_or octets (a + k) 0 ∷ drop (a + k + 1) octets =
    drop-drop k a octets ∙ drop_more octets (a + k) 0 inside in
    let whole : put_mid a k octets label ≡ front ++ get_or octets (a + k) 0 ∷ drop (a + k + 1) octets =
    ap (λ s. take a octets ++ (label ++ s)) far ∙ sym (append_assoc (take a octets) label (get_or octets (a + k) 0 ∷ drop (a + k + 1) octets)) in
    let short : length (take a octets) ≡ a = length-take-le a octets (omega (arith, inside)) in
    let front_size : length front ≡ a + k = omega (arith, length-append (take a octets) label, short, size) in
    ap (λ s. drop a (set s (a + k) 0)) whole
    ∙ ap (drop a) (set_at front (get_or octets (a + k) 0) (drop (a + k + 1) octets) 0 (a + k) front_size)
    ∙ ap (drop a) (append_assoc (take a octets) label (0 ∷ drop (a + k + 1) octets))
    ∙ drop_at (take a octets) (label ++ 0 ∷ drop (a + k + 1) octets) a short

kept : (octets label : List ℕ) (a k : ℕ) → length label ≡ k → a + k < length octets → length (set (put_mid a k octets label) (a + k) 0) ≡ length octets
kept octets label a k size inside =
    length-set (put_mid a k octets label) (a + k) 0
    ∙ omega (
      arith,
      length-append (take a octets) (label ++ drop k (drop a octets)),
      length-append label (drop k (drop a octets)),
      size,
      length-drop k (drop a octets),
      length-drop a octets,
      length-take-le a octets (omega (arith, inside)),
      inside,
    )

-- how many octets the labels take, from the first one on
pub counting_length : (rest label after : List ℕ) → IsCounting rest (counted_name rest) → counted_name rest ≡ label ∷ counted_name after
    → IsCounting after (counted_name after) → length rest ≡ length after + length label + 1
counting_length rest label after c e d =
    omega (arith, ap length (c.octets ∙ ap counting e), length-append label (counting (counted_name after)), ap length d.octets)

pub label_written : (octets octets' labels rest label after : List ℕ) (a k : ℕ) → IsWrittenFrom octets labels rest
    → counted_name rest ≡ label ∷ counted_name after → IsCounting after (counted_name after) → a ≡ length after → k ≡ length label
    → octets' ≡ set (put_mid a k octets label) (a + k) 0 → IsWrittenFrom octets' labels after
label_written octets octets' labels rest label after a k w e d first size is =
    let count = counting_length rest label after w.counting e d in
    let end : a + k + 1 ≡ length rest = omega (arith, count, first, size) in
    let long : length octets' ≡ length octets = ap length is ∙ kept octets label a k (sym size) (omega (arith, end, w.within, w.size)) in
    let written : drop (length after) octets' ≡ label ++ 0 ∷ drop (length rest) octets =
    ap (λ n. drop n octets') (sym first) ∙ ap (drop a) is ∙ over octets label a k (sym size) (omega (arith, end, w.within, w.size))
    ∙ ap (λ n. label ++ 0 ∷ drop n octets) end in
    record {
      counting = d;
      size = long ∙ w.size;
      within = omega (arith, count, w.within);
      gives =
          ap (λ s. packing (counted_name after) ++ s) written
          ∙ sym (append_assoc (packing (counted_name after)) label (0 ∷ drop (length rest) octets))
          ∙ regroup (packing (counted_name after)) label (drop (length rest) octets)
          ∙ ap (λ n. packing n ++ drop (length rest) octets) (sym e) ∙ w.gives;
    }
  where
    regroup : (p l s : List ℕ) → (p ++ l) ++ 0 ∷ s ≡ (p ++ (l ++ 0 ∷ [])) ++ s
    regroup p l s = append_assoc p l (0 ∷ s) ∙ ap (λ x. p ++ x) (sym (append_assoc l (0 ∷ []) s)) ∙ sym (append_assoc p (l ++ 0 ∷ []) s)

pub all_written : (octets labels rest : List ℕ) → IsWrittenFrom octets labels rest → counted_name rest ≡ [] → octets ≡ packing (counted_name labels)
all_written octets labels rest w none =
    let empty : length rest ≡ 0 = ap length (w.counting.octets ∙ ap counting none) in
    ap (λ n. drop n octets) (sym empty) ∙ ap (λ n. packing n ++ drop (length rest) octets) (sym none) ∙ w.gives

-- what was written through the whole of a list is what the list is
pub refilled : (n : ℕ) (xs ws : List ℕ) → length ws ≡ n → take n (ws ++ drop (length ws) xs) ≡ ws
refilled n xs ws size = take_at ws (drop (length ws) xs) n size

-- the packing that was written is that of the name
pub packed : (labels ws octets : List ℕ) → IsCounting labels (counted_name labels) → IsPackable (counted_name labels) → ws ≡ packing (counted_name labels)
    → octets ≡ ws → IsPacking octets (name_of octets) × (name_of octets ≡ counted_name labels)
packed labels ws octets c inner written is =
    let e : octets ≡ packing (counted_name labels) = is ∙ written in
    (is_packing octets (counted_name labels) inner e, is_name_of octets (counted_name labels) inner e)

-- ---- the test whether a list is empty

pub is_nil : (b : Bool) (xs : List ℕ) → b ≡ (length xs == 0) → b ≡ true → xs ≡ []
is_nil b [] e t = refl
is_nil b (x ∷ xs) e t = absurd (some (sym e ∙ t))
  where
    some : (suc (length xs) == 0) ≡ true → ⊥
    some f = omega (arith, eqb-true (suc (length xs)) 0 f)

pub not_nil : (b : Bool) (xs : List ℕ) → b ≡ (length xs == 0) → b ≡ false → xs ≢ []
not_nil b xs e f none = eqb-false (length xs) 0 (sym e ∙ f) (ap length none)

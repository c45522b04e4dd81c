-- The tree of names: ancestors, their tests, and the suffixes of a name.
use Rattle.std.proofs.Common.{◌≡◌, ℕ, zero, suc, ◌-◌, ◌<◌, [], ◌∷◌, ◌++◌, length, take, drop, Bool, true, false, ◌||◌, refl, sym, ap, ◌∙◌, inl, inr, ◌⊎◌, arith, get_or}
use Rattle.std.proofs.lemmas.List.{take-append-drop, length-append, length-map}
use Rattle.std.proofs.Math.Seq.{drop-append_seam}
use Rattle.std.proofs.lemmas.Slice.Eq.{slice_eq-Decides, bytes_eq-Decides}
use Rattle.std.proofs.lemmas.Cmp.{tied_itself}
use Rattle.std.specs.Bool.{Decides}
use Rattle.std.specs.Prelude.{◌↔◌, IsTrue}
use Rattle.std.specs.List.{Contains, drop-map}
use Rattle.std.specs.declared.cmp.Ordering.{Ordering}
use Rattle.std.specs.declared.cmp.Ordering.TheVariants.{Less, Equal, Greater}
use Rattle.std.specs.Ordering.{is_eq, is_gt}
use Rattle.zone_proto.specs.Names.{Name, Label, lower, lower_label, name_cmp, caseless_cmp, name_eq, is_at_or_above, is_above, IsAtOrAbove, IsAbove, suffixes}
use Rattle.zone_proto.specs.Before.{IsBefore}
use Rattle.zone_proto.specs.NameLaws.{name_cmp_total, exact_names, ancestor_first, descendants_together}
use Rattle.zone_proto.proofs.Ordering.BeforeLaws.{less_from_before}

-- ---- a name's last labels

pub at_or_above_from_drop : (a n : Name) → drop (length n - length a) n ≡ a → IsAtOrAbove a n
at_or_above_from_drop a n h =
    (take (length n - length a) n, sym (take-append-drop (length n - length a) n) ∙ ap (λ s. take (length n - length a) n ++ s) h)

pub drop_from_at_or_above : (a n : Name) → IsAtOrAbove a n → drop (length n - length a) n ≡ a
drop_from_at_or_above a n w =
    let len : length n - length a ≡ length w.0 = omega (arith, ap length w.1, length-append w.0 a) in
    (λ i. drop (len i) (w.1 i)) ∙ drop-append_seam w.0 a

-- ---- the tests

pub name_eq-Decides : (a n : Name) → Decides (name_eq a n) (a ≡ n)
name_eq-Decides a n = slice_eq-Decides bytes_eq-Decides a n (name_eq a n) refl

either : (p q : Bool) → (p || q) ≡ true → (p ≡ true) ⊎ (q ≡ true)
either true q h = inl refl
either false q h = inr h

first : (p q : Bool) → p ≡ true → (p || q) ≡ true
first p q h = ap (λ r. r || q) h

second : (p q : Bool) → q ≡ true → (p || q) ≡ true
second true q h = refl
second false q h = h

no_front : (a f : Name) (l : Label) → [] ≡ (l ∷ f) ++ a → ⊥
no_front a f l h = cc

tail_of : (a f ls : Name) (l k : Label) → l ∷ ls ≡ (k ∷ f) ++ a → ls ≡ f ++ a
tail_of a f ls l k h = ap (drop 1) h

pub is_at_or_above_sound : (a n : Name) → is_at_or_above a n ≡ true → IsAtOrAbove a n
is_at_or_above_sound a [] h = ([], sym ((name_eq-Decides a []).0 h))
is_at_or_above_sound a (l ∷ ls) h = elim (either (name_eq a (l ∷ ls)) (is_at_or_above a ls) h) [
  | inl e ↦ ([], sym ((name_eq-Decides a (l ∷ ls)).0 e))
  | inr e ↦ let more : IsAtOrAbove a ls = is_at_or_above_sound a ls e in (l ∷ more.0, ap (λ s. l ∷ s) more.1)
]

pub is_at_or_above_complete : (a n : Name) → IsAtOrAbove a n → is_at_or_above a n ≡ true
is_at_or_above_complete a [] w = by w.0 w.1
  where
    by : (f : Name) → [] ≡ f ++ a → is_at_or_above a [] ≡ true
    by [] e = (name_eq-Decides a []).1 (sym e)
    by (k ∷ f) e = absurd (no_front a f k e)
is_at_or_above_complete a (l ∷ ls) w = by w.0 w.1 (is_at_or_above_complete a ls)
  where
    by : (f : Name) → l ∷ ls ≡ f ++ a → (IsAtOrAbove a ls → is_at_or_above a ls ≡ true) → is_at_or_above a (l ∷ ls) ≡ true
    by [] e more = first (name_eq a (l ∷ ls)) (is_at_or_above a ls) ((name_eq-Decides a (l ∷ ls)).1 (sym e))
    by (k ∷ f) e more = second (name_eq a (l ∷ ls)) (is_at_or_above a ls) (more (f, tail_of a f ls l k e))

pub at_or_above_test : (a n : Name) → IsTrue (is_at_or_above a n) ↔ IsAtOrAbove a n
at_or_above_test a n = (is_at_or_above_sound a n, is_at_or_above_complete a n)

below_first : (a f ls : Name) (l k : Label) → l ∷ ls ≡ (k ∷ f) ++ a → IsAtOrAbove a ls
below_first a f ls l k e = (f, tail_of a f ls l k e)

pub above_test : (a n : Name) → IsTrue (is_above a n) ↔ IsAbove a n
above_test a [] = (λ h. cc, λ w. absurd (no_front a w.1 w.0 w.2))
above_test a (l ∷ ls) = (
  λ h. let up : IsAtOrAbove a ls = is_at_or_above_sound a ls h in (l, up.0, ap (λ s. l ∷ s) up.1),
  λ w. is_at_or_above_complete a ls (below_first a w.1 ls l w.0 w.2),
)

-- ---- the suffixes of a name are the names at or above it

pub at_or_above_from_suffix : (n a : Name) → Contains (suffixes n) a → IsAtOrAbove a n
at_or_above_from_suffix [] a w = by w.0 w.1 w.2
  where
    by : (k : ℕ) → k < 1 → get_or ([] ∷ []) k a ≡ a → IsAtOrAbove a []
    by zero h e = ([], e)
    by (suc k) h e = absurd (omega arith)
at_or_above_from_suffix (l ∷ ls) a w = by w.0 w.1 w.2 (at_or_above_from_suffix ls a)
  where
    by : (k : ℕ) → k < length ((l ∷ ls) ∷ suffixes ls) → get_or ((l ∷ ls) ∷ suffixes ls) k a ≡ a → (Contains (suffixes ls) a → IsAtOrAbove a ls) → IsAtOrAbove a (l ∷ ls)
    by zero h e more = ([], e)
    by (suc k) h e more = let up : IsAtOrAbove a ls = more (k, omega arith, e) in (l ∷ up.0, ap (λ s. l ∷ s) up.1)

pub suffix_from_at_or_above : (n a : Name) → IsAtOrAbove a n → Contains (suffixes n) a
suffix_from_at_or_above [] a w = by w.0 w.1
  where
    by : (f : Name) → [] ≡ f ++ a → Contains (suffixes []) a
    by [] e = (0, omega arith, e)
    by (k ∷ f) e = absurd (no_front a f k e)
suffix_from_at_or_above (l ∷ ls) a w = by w.0 w.1 (suffix_from_at_or_above ls a)
  where
    by : (f : Name) → l ∷ ls ≡ f ++ a → (IsAtOrAbove a ls → Contains (suffixes ls) a) → Contains (suffixes (l ∷ ls)) a
    by [] e more = (0, omega arith, e)
    by (k ∷ f) e more = let up : Contains (suffixes ls) a = more (f, tail_of a f ls l k e) in (suc up.0, omega arith, up.2)

-- the same with the case of letters ignored
pub caseless_suffix_test : (s p : Name) (r : Bool) → r ≡ is_eq (caseless_cmp p (drop (length s - length p) s))
    → (r ≡ true → IsAtOrAbove (lower p) (lower s)) × (IsAtOrAbove (lower p) (lower s) → r ≡ true)
caseless_suffix_test s p r h =
    let low : Name = lower p in
    let all : Name = lower s in
    let lens : length s - length p ≡ length all - length low = λ i. sym (length-map s lower_label) i - sym (length-map p lower_label) i in
    let dropped : lower (drop (length s - length p) s) ≡ drop (length all - length low) all =
    sym (drop-map lower_label (length s - length p) s) ∙ ap (λ k. drop k all) lens in
    let cmp : r ≡ is_eq (name_cmp low (drop (length all - length low) all)) = h ∙ ap (λ z. is_eq (name_cmp low z)) dropped in (
      λ t. at_or_above_from_drop low all (sym (exact_names low _ (equal_from _ (sym cmp ∙ t)))),
      λ w. cmp ∙ ap (λ z. is_eq (name_cmp low z)) (drop_from_at_or_above low all w) ∙ ap is_eq (tied_itself name_cmp_total low),
    )
  where
    equal_from : (o : Ordering) → is_eq o ≡ true → o ≡ Equal
    equal_from Less e = cc
    equal_from Equal e = refl
    equal_from Greater e = cc

-- ---- the order of ancestors and descendants

pub name_itself : (n : Name) → name_cmp n n ≡ Equal
name_itself n = tied_itself name_cmp_total n

pub above_is_less : (a n : Name) → IsAbove a n → name_cmp a n ≡ Less
above_is_less a n w = by (name_cmp a n) refl
  where
    by : (o : Ordering) → name_cmp a n ≡ o → name_cmp a n ≡ Less
    by Less e = e
    by Equal e = absurd (omega (arith, ap length (exact_names a n e), ap length w.2, length-append (w.0 ∷ w.1) a))
    by Greater e = let h : is_gt Greater ≡ false = ap is_gt (sym e) ∙ ancestor_first a n (w.0 ∷ w.1, w.2) in cc

-- a is not after l, and l is before x: then a is before x
before_by : (a l x : Name) → is_gt (name_cmp a l) ≡ false → name_cmp l x ≡ Less → name_cmp a x ≡ Less
before_by a l x h e = by (name_cmp a l) refl
  where
    by : (o : Ordering) → name_cmp a l ≡ o → name_cmp a x ≡ Less
    by Less d = name_cmp_total.trans a l x d e
    by Equal d = name_cmp_total.congr a l x d ∙ e
    by Greater d = let g : is_gt Greater ≡ false = ap is_gt (sym d) ∙ h in cc

pub between_descendants : (a l x r : Name) → IsAtOrAbove a l → IsAtOrAbove a r → IsBefore l x → IsBefore x r → IsAtOrAbove a x
between_descendants a l x r left right after before =
    let from : name_cmp a x ≡ Less = before_by a l x (ancestor_first a l left) (less_from_before l x after) in
    descendants_together a x r right (ap is_gt from) (ap is_gt (less_from_before x r before))

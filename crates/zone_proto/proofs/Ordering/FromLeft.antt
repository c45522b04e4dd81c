-- Two names, compared label by label from the leftmost on: a label further right decides before one further left.
use Rattle.std.proofs.Common.{◌≡◌, ℕ, ◌+◌, ◌-◌, ◌<◌, List, [], ◌∷◌, ◌++◌, length, map, reverse, take, drop, refl, sym, ap, ◌∙◌, arith, min, Bor}
use Rattle.std.proofs.lemmas.List.{take-append-drop, reverse-append, length-map, length-drop, length-reverse, length-take, drop-drop}
use Rattle.std.specs.Prelude.{Option, Some, None, MatchOption}
use Rattle.std.specs.declared.cmp.Ordering.{Ordering}
use Rattle.std.specs.declared.cmp.Ordering.TheVariants.{Less, Equal, Greater}
use Rattle.std.specs.Ordering.{nat_cmp, ordering_then}
use Rattle.std.specs.Cmp.{nat_cmp_is}
use Rattle.std.specs.Cmp.Lexicographic.{slice_cmp}
use Rattle.std.specs.List.{drop-map}
use Rattle.std.specs.Char.{to_ascii_lowercase}
use Rattle.zone_proto.specs.Names.{Name, Label, name_cmp, caseless_cmp, lower, lower_label}

pub then_assoc : (o p q : Ordering) → ordering_then o (ordering_then p q) ≡ ordering_then (ordering_then o p) q
then_assoc Less p q = refl
then_assoc Equal p q = refl
then_assoc Greater p q = refl

then_equal : (o : Ordering) → ordering_then o Equal ≡ o
then_equal Less = refl
then_equal Equal = refl
then_equal Greater = refl

module _ {K : Type 0} (R : K → K → Ordering) where
  -- lists of one length are compared before what follows them
  pub cmp_append : (p q s t : List K) → length p ≡ length q → slice_cmp R (p ++ s) (q ++ t) ≡ ordering_then (slice_cmp R p q) (slice_cmp R s t)
  cmp_append [] [] s t e = refl
  cmp_append [] (y ∷ q) s t e = absurd (omega (arith, e))
  cmp_append (x ∷ p) [] s t e = absurd (omega (arith, e))
  cmp_append (x ∷ p) (y ∷ q) s t e =
      ap (ordering_then (R x y)) (cmp_append p q s t (omega (arith, e))) ∙ then_assoc (R x y) (slice_cmp R p q) (slice_cmp R s t)

  -- where one ends, the lengths decide
  pub cmp_end : (s t : List K) (i j k : ℕ) → length s + k ≡ i → length t + k ≡ j → (0 < length s → 0 < length t → ⊥) → slice_cmp R s t ≡ nat_cmp i j
  cmp_end [] [] i j k h g n = nat_cmp_is i j Equal (omega (arith, h, g))
  cmp_end [] (y ∷ t) i j k h g n = nat_cmp_is i j Less (omega (arith, h, g))
  cmp_end (x ∷ s) [] i j k h g n = nat_cmp_is i j Greater (omega (arith, h, g))
  cmp_end (x ∷ s) (y ∷ t) i j k h g n = absurd (n (omega arith) (omega arith))

name_step : (a b : Name) (l k : Label) → length a ≡ length b → name_cmp (l ∷ a) (k ∷ b) ≡ ordering_then (name_cmp a b) (slice_cmp nat_cmp l k)
name_step a b l k e =
    (λ i. slice_cmp (slice_cmp nat_cmp) (reverse-append (l ∷ []) a i) (reverse-append (k ∷ []) b i))
    ∙ cmp_append (slice_cmp nat_cmp) (reverse a) (reverse b) (l ∷ []) (k ∷ []) (omega (arith, e, length-reverse a, length-reverse b))
    ∙ ap (ordering_then (name_cmp a b)) (then_equal (slice_cmp nat_cmp l k))

-- after a step to the right
pub caseless_step : (a b : Name) (l k : Label) (o : Ordering) → length a ≡ length b
    → ordering_then (caseless_cmp a b) (ordering_then (slice_cmp nat_cmp (map to_ascii_lowercase l) (map to_ascii_lowercase k)) o)
    ≡ ordering_then (caseless_cmp (l ∷ a) (k ∷ b)) o
caseless_step a b l k o e =
    then_assoc (caseless_cmp a b) _ o
    ∙ ap (λ r. ordering_then r o) (sym (name_step (lower a) (lower b) (lower_label l) (lower_label k) (omega (arith, e, length-map a lower_label, length-map b lower_label))))

-- the last labels are compared, and then the lengths
name_split : (n m : Name) (k : ℕ) → k ≡ min (length n) (length m)
    → ordering_then (name_cmp (drop (length n - k) n) (drop (length m - k) m)) (nat_cmp (length n) (length m)) ≡ name_cmp n m
name_split n m k e =
    let p : Name = take (length n - k) n in
    let q : Name = take (length m - k) m in
    let s : Name = drop (length n - k) n in
    let t : Name = drop (length m - k) m in
    let front : length p ≡ length n - k = omega (arith, length-take (length n - k) n, e) in
    let other : length q ≡ length m - k = omega (arith, length-take (length m - k) m, e) in
    ap (ordering_then (name_cmp s t)) (sym (cmp_end (slice_cmp nat_cmp) (reverse p) (reverse q) (length n) (length m) k
    (omega (arith, length-reverse p, front, e)) (omega (arith, length-reverse q, other, e))
    (λ x y. omega (arith, x, y, length-reverse p, length-reverse q, front, other, e))))
    ∙ sym (cmp_append (slice_cmp nat_cmp) (reverse s) (reverse t) (reverse p) (reverse q)
    (omega (arith, length-reverse s, length-reverse t, length-drop (length n - k) n, length-drop (length m - k) m, e)))
    ∙ (λ i. slice_cmp (slice_cmp nat_cmp) (sym (reverse-append p s) i) (sym (reverse-append q t) i))
    ∙ (λ i. name_cmp (take-append-drop (length n - k) n i) (take-append-drop (length m - k) m i))

pub caseless_split : (n m : Name) (k : ℕ) → k ≡ min (length n) (length m)
    → ordering_then (caseless_cmp (drop (length n - k) n) (drop (length m - k) m)) (nat_cmp (length n) (length m)) ≡ caseless_cmp n m
caseless_split n m k e =
    let ln : length n ≡ length (lower n) = sym (length-map n lower_label) in
    let lm : length m ≡ length (lower m) = sym (length-map m lower_label) in
    (λ i. ordering_then (name_cmp (sym (drop-map lower_label (length n - k) n) i) (sym (drop-map lower_label (length m - k) m) i)) (nat_cmp (length n) (length m)))
    ∙ (λ i. ordering_then (name_cmp (drop (ln i - k) (lower n)) (drop (lm i - k) (lower m))) (nat_cmp (ln i) (lm i)))
    ∙ name_split (lower n) (lower m) k (e ∙ λ i. min (ln i) (lm i))

-- the labels after one more
pub skip_step : (xs rest new : Name) (r : Option (Bor (List ℕ))) (i : ℕ) → rest ≡ drop i xs
    → MatchOption r ((rest ≡ []) × (new ≡ [])) (λ x. rest ≡ x.now ∷ new) → new ≡ drop (i + 1) xs
skip_step xs rest new None i e h = h.1 ∙ sym (ap (drop 1) (sym e ∙ h.0)) ∙ drop-drop 1 i xs
skip_step xs rest new (Some x) i e h = sym (ap (drop 1) (sym e ∙ h)) ∙ drop-drop 1 i xs

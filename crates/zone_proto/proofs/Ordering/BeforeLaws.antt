-- That the order of names is that of the RFC's words.
use Rattle.std.proofs.Common.{◌≡◌, ℕ, ◌<◌, List, [], ◌∷◌, ◌++◌, reverse, refl, sym, ap, ◌∙◌, inl, inr, ◌⊎◌}
use Rattle.std.proofs.lemmas.List.{reverse-append, reverse-reverse, append_assoc, append-nil}
use Rattle.std.specs.declared.cmp.Ordering.{Ordering}
use Rattle.std.specs.declared.cmp.Ordering.TheVariants.{Less, Equal, Greater}
use Rattle.std.specs.Ordering.{nat_cmp, ordering_then, MatchOrdering}
use Rattle.std.specs.Cmp.{IsTotalOrder, nat_cmp_total, nat_cmp_is, ranked}
use Rattle.std.specs.Cmp.Lexicographic.{slice_cmp, nat_list_cmp_total}
use Rattle.std.proofs.lemmas.Cmp.{tied_itself}
use Rattle.std.proofs.lemmas.Map.Lookups.{CmpEqualImpliesEq, exact_bytes, exact_unsigned}
use Rattle.zone_proto.specs.Names.{name_cmp}
use Rattle.zone_proto.specs.Before.{IsLesser, IsBefore}

module _ {K : Type 0} (R : K → K → Ordering) (o : IsTotalOrder R) (exact : CmpEqualImpliesEq R) where
  -- alike up to a place, at which the first ends or is less
  abbrev pub Differs : List K → List K → Type 0
  Differs xs ys = (common : List K) × (((y : K) × (t : List K) × (xs ≡ common) × (ys ≡ common ++ y ∷ t))
      ⊎ ((x : K) × (s : List K) × (y : K) × (t : List K) × (xs ≡ common ++ x ∷ s) × (ys ≡ common ++ y ∷ t) × (R x y ≡ Less)))

  longer : (x y : K) (xs ys : List K) → x ≡ y → Differs xs ys → Differs (x ∷ xs) (y ∷ ys)
  longer x y xs ys e d = (
    x ∷ d.0,
    elim d.1 [
      | inl w ↦ inl (w.0, w.1, (λ i. x ∷ w.2 i), λ i. sym e i ∷ w.3 i)
      | inr w ↦ inr (w.0, w.1, w.2, w.3, (λ i. x ∷ w.4 i), (λ i. sym e i ∷ w.5 i), w.6)
    ],
  )

  pub differs_from_less : (xs ys : List K) → slice_cmp R xs ys ≡ Less → Differs xs ys
  differs_from_less [] [] h = cc
  differs_from_less [] (y ∷ ys) h = ([], inl (y, ys, refl, refl))
  differs_from_less (x ∷ xs) [] h = cc
  differs_from_less (x ∷ xs) (y ∷ ys) h = by (R x y) refl h (differs_from_less xs ys)
    where
      by : (r : Ordering) → R x y ≡ r → ordering_then r (slice_cmp R xs ys) ≡ Less → (slice_cmp R xs ys ≡ Less → Differs xs ys) → Differs (x ∷ xs) (y ∷ ys)
      by Less e h more = ([], inr (x, xs, y, ys, refl, refl, e))
      by Equal e h more = longer x y xs ys (exact x y e) (more h)
      by Greater e h more = cc

  past : (common s t : List K) → slice_cmp R (common ++ s) (common ++ t) ≡ slice_cmp R s t
  past [] s t = refl
  past (x ∷ common) s t = ap (λ r. ordering_then r (slice_cmp R (common ++ s) (common ++ t))) (tied_itself o x) ∙ past common s t

  pub less_from_differs : (xs ys : List K) → Differs xs ys → slice_cmp R xs ys ≡ Less
  less_from_differs xs ys d = elim d.1 [
    | inl w ↦ (λ i. slice_cmp R ((w.2 ∙ sym (append-nil d.0)) i) (w.3 i)) ∙ past d.0 [] (w.0 ∷ w.1)
    | inr w ↦ (λ i. slice_cmp R (w.4 i) (w.5 i)) ∙ past d.0 (w.0 ∷ w.1) (w.2 ∷ w.3) ∙ ap (λ r. ordering_then r (slice_cmp R w.1 w.3)) w.6
  ]

-- ---- octet strings

lesser_number : (a b : ℕ) → nat_cmp a b ≡ Less → a < b
lesser_number a b h = let m : MatchOrdering Less (a < b) (a ≡ b) (b < a) = ranked a b Less (sym h) in m

pub lesser_from_less : (k l : List ℕ) → slice_cmp nat_cmp k l ≡ Less → IsLesser k l
lesser_from_less k l h =
    let d : Differs nat_cmp nat_cmp_total exact_unsigned k l = differs_from_less nat_cmp nat_cmp_total exact_unsigned k l h in
    (d.0, elim d.1 [ inl w ↦ inl w | inr w ↦ inr (w.0, w.1, w.2, w.3, w.4, w.5, lesser_number w.0 w.2 w.6) ])

pub less_from_lesser : (k l : List ℕ) → IsLesser k l → slice_cmp nat_cmp k l ≡ Less
less_from_lesser k l d = less_from_differs nat_cmp nat_cmp_total exact_unsigned k l
    (d.0, elim d.1 [ inl w ↦ inl w | inr w ↦ inr (w.0, w.1, w.2, w.3, w.4, w.5, sym (nat_cmp_is w.0 w.2 Less w.6)) ])

-- ---- names

-- a list by the reverse of what its reverse is
back : {A : Type 0} (n common : List A) (x : A) (s : List A) → reverse n ≡ common ++ x ∷ s → n ≡ reverse s ++ x ∷ reverse common
back n common x s e =
    sym (reverse-reverse n) ∙ ap reverse e ∙ reverse-append common (x ∷ s)
    ∙ ap (λ r. r ++ reverse common) (reverse-append (x ∷ []) s) ∙ append_assoc (reverse s) (x ∷ []) (reverse common)

pub before_from_less : (n m : List (List ℕ)) → name_cmp n m ≡ Less → IsBefore n m
before_from_less n m h =
    let d : Differs (slice_cmp nat_cmp) nat_list_cmp_total exact_bytes (reverse n) (reverse m) = differs_from_less (slice_cmp nat_cmp) nat_list_cmp_total exact_bytes (reverse n) (reverse m) h in (
      reverse d.0,
      elim d.1 [
        | inl w ↦ inl (w.0, reverse w.1, sym (reverse-reverse n) ∙ ap reverse w.2, back m d.0 w.0 w.1 w.3)
        | inr w ↦ inr (w.0, reverse w.1, w.2, reverse w.3, back n d.0 w.0 w.1 w.4, back m d.0 w.2 w.3 w.5, lesser_from_less w.0 w.2 w.6)
      ],
    )

front : {A : Type 0} (n f common : List A) (x : A) → n ≡ f ++ x ∷ common → reverse n ≡ reverse common ++ x ∷ reverse f
front n f common x e =
    ap reverse e ∙ reverse-append f (x ∷ common) ∙ ap (λ r. r ++ reverse f) (reverse-append (x ∷ []) common) ∙ append_assoc (reverse common) (x ∷ []) (reverse f)

pub less_from_before : (n m : List (List ℕ)) → IsBefore n m → name_cmp n m ≡ Less
less_from_before n m d = less_from_differs (slice_cmp nat_cmp) nat_list_cmp_total exact_bytes (reverse n) (reverse m) (
  reverse d.0,
  elim d.1 [
    | inl w ↦ inl (w.0, reverse w.1, ap reverse w.2, front m w.1 d.0 w.0 w.3)
    | inr w ↦ inr (w.0, reverse w.1, w.2, reverse w.3, front n w.1 d.0 w.0 w.4, front m w.3 d.0 w.2 w.5, less_from_lesser w.0 w.2 w.6)
  ],
)

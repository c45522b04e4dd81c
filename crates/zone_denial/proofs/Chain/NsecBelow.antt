-- What the next name of a denial says of the names below the denied one
use Rattle.std.proofs.Common.{◌≡◌, ℕ, Bool, true, false, ◌&&◌, List, [], ◌∷◌, ◌++◌, drop, refl, sym, ap, ◌∙◌, subst, ◌⊎◌, inl, inr, Less}
use Rattle.std.specs.Prelude.{filter}
use Rattle.std.proofs.lemmas.List.{append_assoc}
use Rattle.zone_proto.specs.Names.{Name, name_cmp, is_above, is_at_or_above, IsAbove, IsAtOrAbove}
use Rattle.zone_proto.specs.Order.{is_upto}
use Rattle.zone_proto.specs.Types.{NS, NSEC}
use Rattle.zone_proto.proofs.Members.{In, In-filter, In-from_filter, In-from_any, none_passes, and_left, and_right}
use Rattle.zone_proto.proofs.Names.NameTree.{above_test, above_is_less, is_at_or_above_sound, is_at_or_above_complete}
use Rattle.zone_proto.proofs.Ordering.Orders.{IsTop, has_greatest, irrefl, asym, upto_cases, upto_before, upto_from_not_before}
use Rattle.zone_proto.proofs.Names.Tree.{name_order, above_cases, together}
use Rattle.zone_map.specs.Zones.{Sets, owns, owners, types_at, names_of, owns_at_or_below}
use Rattle.zone_map.proofs.Owned.{owner_in, owner_owned, name_in, name_owned, type_in}
use Rattle.zone_denial.specs.Authority.{is_below_cut}
use Rattle.zone_denial.specs.NsecCircle.{nsec_next}
use Rattle.zone_denial.specs.NsecLaws.{IsNsecZone, NoNextBelowAbsent, NextBelowEmpty}
use Rattle.zone_denial.proofs.Names.AuthoritativeNames.{authoritative_from, besides_alone}
use Rattle.zone_denial.proofs.InOrder.{flipped}
use Rattle.zone_denial.proofs.Chain.NsecCircle.{NextIs, least_after, wraps, next_is, next_owned}
use Rattle.zone_denial.proofs.Chain.NsecClosest.{IsClosest, closest_is, closest_before, last_covers}
use Rattle.zone_denial.proofs.Chain.NsecLists.{owner_elsewhere, off_circle}

-- ---- where nothing is owned at x and below it, the next name isn't there either, since it is an owner

pub no_next_below : NoNextBelowAbsent
no_next_below origin m h x inside none =
    let c = closest_is origin m h x inside in
    (nsec_next origin m c.0, last_covers origin m h x c.0 c.2 c.1 (off_circle m x none), owner_elsewhere m x (nsec_next origin m c.0) NSEC none (next_owned origin m h c.0))

-- ---- names above one another

pub above_at : (a n : Name) → IsAbove a n → IsAtOrAbove a n
above_at a n (l, f, e) = (l ∷ f, e)

pub above_through : (a b c : Name) → IsAtOrAbove a b → IsAtOrAbove b c → IsAtOrAbove a c
above_through a b c (f, e) (g, q) = (g ++ f, q ∙ ap (λ w. g ++ w) e ∙ sym (append_assoc g f a))

-- of two ancestors of one name one is at or above the other
pub comparable : (f g a b : Name) → f ++ a ≡ g ++ b → IsAtOrAbove a b ⊎ IsAtOrAbove b a
comparable [] g a b e = inr (g, e)
comparable (l ∷ f) [] a b e = inl (l ∷ f, sym e)
comparable (l ∷ f) (k ∷ g) a b e = comparable f g a b (ap (drop 1) e)

-- ---- an empty non-terminal with an owner below it and no zone cut above it

module _ (origin : Name) (m : Sets) (h : IsNsecZone origin m) (x : Name) (inside : is_at_or_above origin x ≡ true) (empty : types_at m x ≡ []) (uncut : is_below_cut origin m x ≡ false) where
  owns_none : (t : ℕ) → owns m x t ≡ true → ⊥
  owns_none t k = subst (In t) empty (type_in m x t k)

  empty_off_circle : owns m x NSEC ≡ false
  empty_off_circle = by (owns m x NSEC) refl
    where
      by : (b : Bool) → owns m x NSEC ≡ b → b ≡ false
      by true k = absurd (owns_none NSEC k)
      by false k = refl

  abbrev owners_below : List Name
  owners_below = filter (is_above x) (names_of m)

  -- an owner at or below x is below it
  some_below : owns_at_or_below m x ≡ true → (d : Name) × In d owners_below
  some_below k =
      let r = In-from_any (is_at_or_above x) (names_of m) k in
      (r.0, In-filter (is_above x) r.0 (names_of m) r.1 (by r.0 r.1 (above_cases x r.0 (is_at_or_above_sound x r.0 r.2))))
    where
      by : (d : Name) → In d (names_of m) → (x ≡ d) ⊎ IsAbove x d → is_above x d ≡ true
      by d i (inl e) = let t = name_owned m d i in absurd (owns_none t.0 (ap (λ a. owns m a t.0) e ∙ t.1))
      by d i (inr a) = (above_test x d).1 a

  -- the least owner below x is on the circle
  module _ (d : Name) (g : IsTop (flipped name_order) owners_below d) where
    among : In d (names_of m) × (is_above x d ≡ true)
    among = In-from_filter (is_above x) d (names_of m) g.among

    over : IsAbove x d
    over = (above_test x d).0 among.1

    -- a zone cut above d is above x, which has none, or x itself, which owns nothing, or an owner below x before d
    no_cut_from : (a : Name) → owns m a NS ≡ true → is_above origin a ≡ true → IsAbove a d → IsAtOrAbove a x ⊎ IsAtOrAbove x a → ⊥
    no_cut_from a k o u (inl s) = by (above_cases a x s)
      where
        by : (a ≡ x) ⊎ IsAbove a x → ⊥
        by (inl e) = owns_none NS (ap (λ w. owns m w NS) (sym e) ∙ k)
        by (inr s) = none_passes (λ w. is_above origin w && is_above w x) a (owners m NS) uncut (owner_in m a NS k) (λ i. o i && (above_test a x).1 s i)
    no_cut_from a k o u (inr s) = by (above_cases x a s)
      where
        by : (x ≡ a) ⊎ IsAbove x a → ⊥
        by (inl e) = owns_none NS (ap (λ w. owns m w NS) e ∙ k)
        by (inr s) = g.none_greater a (In-filter (is_above x) a (names_of m) (name_in m a NS k) ((above_test x a).1 s)) (above_is_less a d u)

    no_cut : is_below_cut origin m d ≡ false
    no_cut = by (is_below_cut origin m d) refl
      where
        by : (b : Bool) → is_below_cut origin m d ≡ b → b ≡ false
        by false e = refl
        by true e =
            let r = In-from_any (λ a. is_above origin a && is_above a d) (owners m NS) e in
            let u = (above_test r.0 d).0 (and_right (is_above origin r.0) (is_above r.0 d) r.2) in
            let f = above_at r.0 d u in
            let k = above_at x d over in
            absurd (no_cut_from r.0 (owner_owned m r.0 NS r.1) (and_left (is_above origin r.0) (is_above r.0 d) r.2) u (comparable f.0 k.0 r.0 x (sym f.1 ∙ k.1)))

    least_on_circle : owns m d NSEC ≡ true
    least_on_circle = by (owns m d NSEC) refl
      where
        by : (b : Bool) → owns m d NSEC ≡ b → b ≡ true
        by true e = refl
        by false e =
            let t = name_owned m d among.0 in
            let inside_too = is_at_or_above_complete origin d (above_through origin x d (is_at_or_above_sound origin x inside) (above_at x d over)) in
            sym e ∙ h.circle.one_for_each d ∙ authoritative_from origin m NSEC d inside_too (besides_alone m NSEC d t.0 t.1 e) no_cut

    -- so the closest owner's next name is past x and not past d, and descendants stand together
    next_below : (o : Name) → IsClosest origin m x o → is_above x (nsec_next origin m o) ≡ true
    next_below o c = by (next_is origin m h.circle o)
      where
        n : Name
        n = nsec_next origin m o

        before_least : name_cmp o d ≡ Less
        before_least = name_order.total.trans o x d (closest_before origin m x o c empty_off_circle) (above_is_less x d over)

        past : name_cmp o n ≡ Less → (name_cmp x n ≡ Less) ⊎ (is_upto name_cmp n o ≡ true) → name_cmp x n ≡ Less
        past l (inl e) = e
        past l (inr e) = back (upto_cases name_order n o e)
          where
            back : (n ≡ o) ⊎ (name_cmp n o ≡ Less) → name_cmp x n ≡ Less
            back (inl q) = absurd (irrefl name_order o (ap (name_cmp o) (sym q) ∙ l))
            back (inr q) = absurd (asym name_order o n l q)

        strictly : name_cmp x n ≡ Less → (x ≡ n) ⊎ IsAbove x n → is_above x n ≡ true
        strictly p (inl e) = absurd (irrefl name_order x (ap (name_cmp x) e ∙ p))
        strictly p (inr a) = (above_test x n).1 a

        by : NextIs origin m o n → is_above x n ≡ true
        by (wraps e none) = absurd (none d least_on_circle before_least)
        by (least_after k l none) =
            let p = past l c.past in
            let u = upto_from_not_before name_order n d (none d least_on_circle before_least) in
            strictly p (above_cases x n (together x n d (upto_before name_order x n p) u (above_at x d over)))

pub next_below_empty : NextBelowEmpty
next_below_empty origin m h x inside empty some uncut =
    let b = some_below origin m h x inside empty uncut some in
    let d = has_greatest (flipped name_order) (filter (is_above x) (names_of m)) b.0 b.1 in
    let c = closest_is origin m h x inside in (
      nsec_next origin m c.0,
      last_covers origin m h x c.0 c.2 c.1 (empty_off_circle origin m h x inside empty uncut),
      next_below origin m h x inside empty uncut d.0 d.2 c.0 c.2,
    )

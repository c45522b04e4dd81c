-- The names that are found are those that a change affects
use Rattle.std.proofs.Common.{◌≡◌, Bool, true, false, ◌&&◌, ◌||◌, cond, List, [], ◌∷◌, ◌++◌, refl, sym, ap, ◌∙◌, subst, append_assoc, ◌⊎◌, inl, inr}
use Rattle.std.specs.Prelude.{filter, flat_map}
use Rattle.std.specs.Cmp.{both_ways}
use Rattle.zone_proto.specs.declared.rr_key.RrKey.{RrKey}
use Rattle.zone_proto.specs.Names.{Name, name_cmp, name_eq, is_above, is_at_or_above, proper_ancestors, suffixes, IsAbove, IsAtOrAbove}
use Rattle.zone_proto.proofs.Members.{In, In-Contains, Contains-In, In-filter, In-from_filter, In-from_any, any_from_In, In-flat_map, In-from_flat_map, In-append_left, In-append_right, In-from_append, and_left, and_right, or_left, or_right}
use Rattle.zone_proto.proofs.Names.NameTree.{name_eq-Decides, above_test, above_is_less, at_or_above_from_suffix, suffix_from_at_or_above, is_at_or_above_sound, is_at_or_above_complete}
use Rattle.zone_proto.proofs.Names.Tree.{name_order, above_cases}
use Rattle.zone_proto.proofs.Ordering.Orders.{irrefl, asym}
use Rattle.zone_map.specs.Zones.{Sets, names_of, owns_at_or_below}
use Rattle.zone_denial.proofs.Chain.NsecBelow.{above_at, above_through, comparable}
use Rattle.hashed_changes.specs.Among.{is_among}
use Rattle.hashed_changes.specs.Affected.{makes_cut, is_affected_below, is_affected_by, is_affected}
use Rattle.hashed_changes.specs.AffectedNames.{with_ancestors, affected_by, all_affected}
use Rattle.hashed_changes.proofs.Counted.{among_from}
use Rattle.hashed_changes.proofs.Names.{among_in}

above_from_ancestor : (a n : Name) → In a (proper_ancestors n) → IsAbove a n
above_from_ancestor a [] i = absurd i
above_from_ancestor a (l ∷ ls) i =
    let over : IsAtOrAbove a ls = at_or_above_from_suffix ls a (In-Contains a (suffixes ls) i) in
    (l, over.0, ap (λ (n : Name). l ∷ n) over.1)

ancestor_from_above : (a n : Name) → IsAbove a n → In a (proper_ancestors n)
ancestor_from_above a n h = subst (λ (k : Name). In a (proper_ancestors k)) (sym h.2) (Contains-In a (suffixes (h.1 ++ a)) (suffix_from_at_or_above (h.1 ++ a) a (h.1, refl)))

no_loop : (a b : Name) → IsAbove a b → IsAtOrAbove b a → ⊥
no_loop a b h v = by (above_cases b a v)
  where
    by : (b ≡ a) ⊎ IsAbove b a → ⊥
    by (inl e) = irrefl name_order a (ap (name_cmp a) (sym e) ∙ above_is_less a b h)
    by (inr w) = asym name_order a b (above_is_less a b h) (above_is_less b a w)

either : (a b : Bool) → a || b ≡ true → (a ≡ true) ⊎ (b ≡ true)
either true b e = inl refl
either false b e = inr e

module _ (origin : Name) (m : Sets) where
  -- what is among a name with its ancestors
  to_ancestors : (n c : Name) → (n ≡ c) ⊎ ((is_above origin n ≡ true) × IsAbove n c) → In n (with_ancestors origin c)
  to_ancestors n c (inl e) = inl (sym e)
  to_ancestors n c (inr (up, over)) = inr (In-filter (is_above origin) n (proper_ancestors c) (ancestor_from_above n c over) up)

  from_ancestors : (n c : Name) → In n (with_ancestors origin c) → (n ≡ c) ⊎ ((is_above origin n ≡ true) × IsAbove n c)
  from_ancestors n c (inl e) = inl (sym e)
  from_ancestors n c (inr i) = let r = In-from_filter (is_above origin) n (proper_ancestors c) i in inr (r.1, above_from_ancestor n c r.0)

  module _ (k : RrKey) (n : Name) where
    abbrev found_below : List Name
    found_below = flat_map (with_ancestors origin) (filter (is_at_or_above k.name) (names_of m))

    abbrev goes : Bool → List Name
    goes b = cond b found_below []

    -- ---- what affects it is found

    from_owner : (n ≡ k.name) ⊎ ((is_above origin n ≡ true) × IsAbove n k.name) → In n (affected_by origin m k)
    from_owner h = In-append_left n (with_ancestors origin k.name) (goes (makes_cut origin k)) (to_ancestors n k.name h)

    from_cut : makes_cut origin k ≡ true → is_above origin n ≡ true → is_above k.name n ≡ true → owns_at_or_below m n ≡ true → In n (affected_by origin m k)
    from_cut cut up below there =
        In-append_right n (with_ancestors origin k.name) (goes (makes_cut origin k))
        (subst (λ b. In n (goes b)) (sym cut) (In-flat_map (with_ancestors origin) r.0 n (filter (is_at_or_above k.name) (names_of m)) (In-filter (is_at_or_above k.name) r.0 (names_of m) r.1 under) (to_ancestors n r.0 (at (above_cases n r.0 over)))))
      where
        r : (c : Name) × In c (names_of m) × (is_at_or_above n c ≡ true)
        r = In-from_any (is_at_or_above n) (names_of m) there

        over : IsAtOrAbove n r.0
        over = is_at_or_above_sound n r.0 r.2

        under : is_at_or_above k.name r.0 ≡ true
        under = is_at_or_above_complete k.name r.0 (above_through k.name n r.0 (above_at k.name n ((above_test k.name n).0 below)) over)

        at : (n ≡ r.0) ⊎ IsAbove n r.0 → (n ≡ r.0) ⊎ ((is_above origin n ≡ true) × IsAbove n r.0)
        at (inl e) = inl e
        at (inr h) = inr (up, h)

    pub found : is_affected_by origin m k n ≡ true → In n (affected_by origin m k)
    found h = by (either (name_eq n k.name) (is_above origin n && is_affected_below origin m k n) h)
      where
        of : is_above origin n ≡ true → (is_above n k.name ≡ true) ⊎ (makes_cut origin k && (is_above k.name n && owns_at_or_below m n) ≡ true) → In n (affected_by origin m k)
        of up (inl e) = from_owner (inr (up, (above_test n k.name).0 e))
        of up (inr e) =
            let rest = and_right (makes_cut origin k) (is_above k.name n && owns_at_or_below m n) e in
            from_cut (and_left (makes_cut origin k) (is_above k.name n && owns_at_or_below m n) e) up (and_left (is_above k.name n) (owns_at_or_below m n) rest) (and_right (is_above k.name n) (owns_at_or_below m n) rest)

        by : (name_eq n k.name ≡ true) ⊎ (is_above origin n && is_affected_below origin m k n ≡ true) → In n (affected_by origin m k)
        by (inl e) = from_owner (inl ((name_eq-Decides n k.name).0 e))
        by (inr e) =
            of (and_left (is_above origin n) (is_affected_below origin m k n) e)
            (either (is_above n k.name) (makes_cut origin k && (is_above k.name n && owns_at_or_below m n)) (and_right (is_above origin n) (is_affected_below origin m k n) e))

    -- ---- and what is found is affected

    at_owner : n ≡ k.name → is_affected_by origin m k n ≡ true
    at_owner e = or_left (name_eq n k.name) (is_above origin n && is_affected_below origin m k n) ((name_eq-Decides n k.name).1 e)

    above_owner : is_above origin n ≡ true → IsAbove n k.name → is_affected_by origin m k n ≡ true
    above_owner up h = or_right (name_eq n k.name) (is_above origin n && is_affected_below origin m k n) (λ i. up i && or_left (is_above n k.name) (makes_cut origin k && (is_above k.name n && owns_at_or_below m n)) ((above_test n k.name).1 h) i)

    below_cut : makes_cut origin k ≡ true → is_above origin n ≡ true → IsAbove k.name n → (c : Name) → In c (names_of m) → IsAtOrAbove n c → is_affected_by origin m k n ≡ true
    below_cut cut up below c i at =
        or_right (name_eq n k.name) (is_above origin n && is_affected_below origin m k n)
        (λ j. up j && or_right (is_above n k.name) (makes_cut origin k && (is_above k.name n && owns_at_or_below m n))
        (λ l. cut l && ((above_test k.name n).1 below l && any_from_In (is_at_or_above n) c (names_of m) i (is_at_or_above_complete n c at) l)) j)

    -- a name below a zone cut, or an ancestor of one
    of_found : makes_cut origin k ≡ true → (c : Name) → In c (names_of m) → IsAtOrAbove k.name c → (n ≡ c) ⊎ ((is_above origin n ≡ true) × IsAbove n c) → is_affected_by origin m k n ≡ true
    of_found cut c i under h = by (comparable under.0 (over h).0 k.name n (sym under.1 ∙ (over h).1))
      where
        over : (n ≡ c) ⊎ ((is_above origin n ≡ true) × IsAbove n c) → IsAtOrAbove n c
        over (inl e) = ([], sym e)
        over (inr (up, v)) = above_at n c v

        top : is_above origin k.name ≡ true
        top = and_right _ (is_above origin k.name) cut

        lower : IsAbove k.name n → is_above origin n ≡ true
        lower v = (above_test origin n).1 (joined ((above_test origin k.name).0 top) v)
          where
            joined : IsAbove origin k.name → IsAbove k.name n → IsAbove origin n
            joined (l, f, e) (j, g, q) = (j, g ++ (l ∷ f), q ∙ ap (λ (w : Name). (j ∷ g) ++ w) e ∙ sym (append_assoc (j ∷ g) (l ∷ f) origin))

        down : (k.name ≡ n) ⊎ IsAbove k.name n → is_affected_by origin m k n ≡ true
        down (inl e) = at_owner (sym e)
        down (inr v) = below_cut cut (lower v) v c i (over h)

        up : (n ≡ k.name) ⊎ IsAbove n k.name → (n ≡ c) ⊎ ((is_above origin n ≡ true) × IsAbove n c) → is_affected_by origin m k n ≡ true
        up (inl e) g = at_owner e
        up (inr v) (inr (w, x)) = above_owner w v
        up (inr v) (inl e) = absurd (no_loop n k.name v (subst (λ x. IsAtOrAbove k.name x) (sym e) under))

        by : IsAtOrAbove k.name n ⊎ IsAtOrAbove n k.name → is_affected_by origin m k n ≡ true
        by (inl v) = down (above_cases k.name n v)
        by (inr v) = up (above_cases n k.name v) h

    pub affects : In n (affected_by origin m k) → is_affected_by origin m k n ≡ true
    affects i = by (In-from_append n (with_ancestors origin k.name) (goes (makes_cut origin k)) i)
      where
        owner : (n ≡ k.name) ⊎ ((is_above origin n ≡ true) × IsAbove n k.name) → is_affected_by origin m k n ≡ true
        owner (inl e) = at_owner e
        owner (inr (up, v)) = above_owner up v

        cut : (b : Bool) → makes_cut origin k ≡ b → In n (goes b) → is_affected_by origin m k n ≡ true
        cut true e j =
            let r = In-from_flat_map (with_ancestors origin) n (filter (is_at_or_above k.name) (names_of m)) j in
            let s = In-from_filter (is_at_or_above k.name) r.0 (names_of m) r.1 in
            of_found e r.0 s.0 (is_at_or_above_sound k.name r.0 s.1) (from_ancestors n r.0 r.2)
        cut false e j = absurd j

        by : In n (with_ancestors origin k.name) ⊎ In n (goes (makes_cut origin k)) → is_affected_by origin m k n ≡ true
        by (inl j) = owner (from_ancestors n k.name j)
        by (inr j) = cut (makes_cut origin k) refl j

  pub all_found : (keys : List RrKey) (n : Name) → is_among (all_affected origin m keys) n ≡ is_affected origin m keys n
  all_found keys n = both_ways (is_among (all_affected origin m keys) n) (is_affected origin m keys n) to from
    where
      to : is_among (all_affected origin m keys) n ≡ true → is_affected origin m keys n ≡ true
      to e =
          let r = In-from_flat_map (affected_by origin m) n keys (among_in (all_affected origin m keys) n e) in
          any_from_In (λ k. is_affected_by origin m k n) r.0 keys r.1 (affects r.0 n r.2)

      from : is_affected origin m keys n ≡ true → is_among (all_affected origin m keys) n ≡ true
      from e =
          let r = In-from_any (λ k. is_affected_by origin m k n) keys e in
          among_from (all_affected origin m keys) n (In-flat_map (affected_by origin m) r.0 n keys r.1 (found r.0 n r.2))

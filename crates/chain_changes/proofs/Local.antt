-- What the NSEC set of a name depends on
use Rattle.std.proofs.Common.{◌≡◌, ℕ, Bool, true, false, not, ◌&&◌, cond, List, ◌∷◌, refl, sym, ap, ◌∙◌, true≢false, inl, inr, eqb-true, Less, is_lt}
use Rattle.std.specs.Prelude.{Option, Some, None, filter, unwrap_or, ◌==◌}
use Rattle.std.specs.Cmp.{both_ways}
use Rattle.zone_proto.specs.Names.{Name, name_cmp, is_above, is_at_or_above}
use Rattle.zone_proto.specs.Order.{is_before, least}
use Rattle.zone_proto.specs.Types.{NS, NSEC, RRSIG}
use Rattle.zone_proto.proofs.Members.{In, In-filter, In-from_filter, In-from_any, any_from_In, and_left, and_right, not_true}
use Rattle.zone_proto.proofs.Names.Tree.{name_order}
use Rattle.zone_proto.proofs.Ordering.Orders.{less_test, greatest_is, greatest_from, number_order}
use Rattle.zone_map.specs.Zones.{Sets, owners, types_at, names_of}
use Rattle.zone_map.proofs.Owned.{owner_in, owner_owned, type_in, type_owned}
use Rattle.zone_denial.specs.Authority.{is_authoritative, authoritative_names, is_below_cut, owns_besides}
use Rattle.zone_denial.specs.NsecSets.{nsec_data, new_set}
use Rattle.zone_denial.proofs.InOrder.{flipped, in_order_same}
use Rattle.zone_denial.proofs.Names.AuthoritativeNames.{from_besides, besides_from, authoritative_listed}
use Rattle.chain_changes.specs.Locality.{OwnsSame, HasSameCuts, HasSameNext, AuthorityIsLocal, TypesAreLocal, NextIsLocal, DenialsAreLocal}

-- ---- what the name owns, and the zone cuts above it

same_besides : (m after : Sets) (n : Name) → OwnsSame m after n → owns_besides after NSEC n ≡ owns_besides m NSEC n
same_besides m after n same = both_ways (owns_besides after NSEC n) (owns_besides m NSEC n) (moved after m same) (moved m after (λ t e. sym (same t e)))
  where
    moved : (a b : Sets) → OwnsSame b a n → owns_besides a NSEC n ≡ true → owns_besides b NSEC n ≡ true
    moved a b f k = let r = from_besides a NSEC n k in besides_from b NSEC n r.0 r.1 (sym (f r.0 (not_true (r.0 == NSEC) r.1)) ∙ r.2)

same_cuts : (origin : Name) (m after : Sets) (n : Name) → HasSameCuts m after origin n → is_below_cut origin after n ≡ is_below_cut origin m n
same_cuts origin m after n same = both_ways (is_below_cut origin after n) (is_below_cut origin m n) (moved after m same) (moved m after (λ a h k. sym (same a h k)))
  where
    moved : (a b : Sets) → HasSameCuts b a origin n → is_below_cut origin a n ≡ true → is_below_cut origin b n ≡ true
    moved a b f k =
        let r = In-from_any (λ w. is_above origin w && is_above w n) (owners a NS) k in
        let own = f r.0 (and_left (is_above origin r.0) (is_above r.0 n) r.2) (and_right (is_above origin r.0) (is_above r.0 n) r.2) in
        any_from_In (λ w. is_above origin w && is_above w n) r.0 (owners b NS) (owner_in b r.0 NS (sym own ∙ owner_owned a r.0 NS r.1)) r.2

pub authority_is_local : AuthorityIsLocal
authority_is_local origin m after n same cuts = λ i. is_at_or_above origin n && (same_besides m after n same i && not (same_cuts origin m after n cuts i))

pub types_are_local : TypesAreLocal
types_are_local m after n same = in_order_same number_order (NSEC ∷ RRSIG ∷ types_at after n) (NSEC ∷ RRSIG ∷ types_at m n) (moved after m same) (moved m after (λ t e. sym (same t e)))
  where
    moved : (a b : Sets) → OwnsSame b a n → (t : ℕ) → In t (NSEC ∷ RRSIG ∷ types_at a n) → In t (NSEC ∷ RRSIG ∷ types_at b n)
    moved a b f t (inl e) = inl e
    moved a b f t (inr (inl e)) = inr (inl e)
    moved a b f t (inr (inr i)) = by (t == NSEC) refl
      where
        by : (d : Bool) → (t == NSEC) ≡ d → In t (NSEC ∷ RRSIG ∷ types_at b n)
        by true e = inl (sym (eqb-true t NSEC e))
        by false e = inr (inr (type_in b n t (sym (f t e) ∙ type_owned a n t i)))

-- ---- the name that comes next

module _ (origin : Name) (n : Name) where
  -- the names after n that a zone is authoritative for
  abbrev later : Sets → List Name
  later m = filter (is_before name_cmp n) (authoritative_names origin m NSEC)

  in_later : (m : Sets) (x : Name) → is_authoritative origin m NSEC x ≡ true → name_cmp n x ≡ Less → In x (later m)
  in_later m x h l = In-filter (is_before name_cmp n) x (authoritative_names origin m NSEC) (authoritative_listed origin m NSEC x h) (ap is_lt l)

  from_later : (m : Sets) (x : Name) → In x (later m) → (is_authoritative origin m NSEC x ≡ true) × (name_cmp n x ≡ Less)
  from_later m x i =
      let r = In-from_filter (is_before name_cmp n) x (authoritative_names origin m NSEC) i in
      ((In-from_filter (is_authoritative origin m NSEC) x (names_of m) r.0).1, less_test (name_cmp n x) r.1)

  module _ (a b : Sets) (same : HasSameNext a b origin n) (x : Name) (e : least name_cmp (later a) ≡ Some x) where
    -- no name of a comes between
    none_before : (y : Name) → is_authoritative origin a NSEC y ≡ true → name_cmp n y ≡ Less → name_cmp y x ≡ Less → ⊥
    none_before y h l s = (greatest_is (flipped name_order) (later a) x e).none_greater y (in_later a y h l) s

    first : (is_authoritative origin a NSEC x ≡ true) × (name_cmp n x ≡ Less)
    first = from_later a x (greatest_is (flipped name_order) (later a) x e).among

    -- so the next name of a stays
    still : is_authoritative origin b NSEC x ≡ true
    still = by (is_authoritative origin b NSEC x) refl
      where
        by : (v : Bool) → is_authoritative origin b NSEC x ≡ v → is_authoritative origin b NSEC x ≡ true
        by true h = h
        by false h =
            let r = same x (λ d. true≢false (sym first.0 ∙ sym d ∙ h)) first.1 in
            absurd (none_before r.0 r.1.before r.2 r.3)

    -- and none of b comes before it
    none_new : (y : Name) → In y (later b) → name_cmp y x ≡ Less → ⊥
    none_new y i s = by (is_authoritative origin a NSEC y) refl
      where
        there : (is_authoritative origin b NSEC y ≡ true) × (name_cmp n y ≡ Less)
        there = from_later b y i

        by : (v : Bool) → is_authoritative origin a NSEC y ≡ v → ⊥
        by true h = none_before y h there.1 s
        by false h =
            let r = same y (λ d. true≢false (sym there.0 ∙ d ∙ h)) there.1 in
            none_before r.0 r.1.before r.2 (name_order.total.trans r.0 y x r.3 s)

    pub next_moved : least name_cmp (later b) ≡ Some x
    next_moved = greatest_from (flipped name_order) (later b) x (record { among = in_later b x still first.1; none_greater = none_new })

-- a change seen the other way round
turned : (origin : Name) (m after : Sets) (n : Name) → HasSameNext m after origin n → HasSameNext after m origin n
turned origin m after n same x d l =
    let r = same x (λ e. d (sym e)) l in
    (r.0, record { before = r.1.after'; after' = r.1.before }, r.2, r.3)

pub next_is_local : NextIsLocal
next_is_local origin m after n same = ap (λ p. unwrap_or p origin) (by (least name_cmp (later origin n m)) refl (least name_cmp (later origin n after)) refl)
  where
    by : (p : Option Name) → least name_cmp (later origin n m) ≡ p → (q : Option Name) → least name_cmp (later origin n after) ≡ q → least name_cmp (later origin n after) ≡ least name_cmp (later origin n m)
    by (Some x) e q f = next_moved origin n m after same x e ∙ sym e
    by None e None f = f ∙ sym e
    by None e (Some y) f = f ∙ sym (next_moved origin n after m (turned origin m after n same) y f)

-- ---- the NSEC set

pub denials_are_local : DenialsAreLocal
denials_are_local origin m after n same cuts next ttl serial t =
    λ i. cond ((t == NSEC) && authority_is_local origin m after n same cuts i)
    (Some (new_set ttl serial n (nsec_data (next_is_local origin m after n next i) (types_are_local m after n same i)))) None

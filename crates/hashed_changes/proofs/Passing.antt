-- What lies around an affected owner does so around the next one too, where no owner of NSEC3 stands between the two
use Rattle.std.proofs.Common.{◌≡◌, Bool, true, false, not, List, [], ◌∷◌, ◌++◌, refl, sym, ap, ◌∙◌, subst, true≢false, ◌⊎◌, inl, inr, Less, is_lt}
use Rattle.std.specs.Prelude.{Option, Some, None}
use Rattle.std.specs.Cmp.{both_ways}
use Rattle.std.specs.List.{Contains}
use Rattle.std.specs.Option.{option_or}
use Rattle.std.specs.List.Sorted.{IsStrictlySortedBy}
use Rattle.zone_proto.specs.HashedOwners.{hashed_owner}
use Rattle.zone_proto.specs.Names.{Name, name_cmp}
use Rattle.zone_proto.specs.Order.{is_before, is_upto, greatest}
use Rattle.zone_proto.specs.Types.{NSEC3}
use Rattle.zone_proto.proofs.Members.{In, In-Contains, Contains-In, In-filter, In-from_filter, In-from_append, In-map, not_true}
use Rattle.zone_proto.proofs.Names.Tree.{name_order}
use Rattle.zone_proto.proofs.Ordering.Orders.{less_test, upto_before, upto_cases, upto_from_not_before}
use Rattle.zone_map.specs.DenialOwners.{denial_owners_before}
use Rattle.zone_map.specs.Zones.{Sets, owners, IsZone}
use Rattle.zone_denial.proofs.Ascending.{Ascends-from_sorted, Ascends-apart}
use Rattle.zone_denial.proofs.ReadBack.{filter_same}
use Rattle.hashed_changes.specs.Among.{is_among}
use Rattle.hashed_changes.specs.declared.around.Around.{Around}
use Rattle.hashed_changes.specs.declared.around.Passed.{Passed}
use Rattle.hashed_changes.specs.declared.places.Place.{Place}
use Rattle.hashed_changes.specs.declared.places.Affected.{Affected}
use Rattle.hashed_changes.specs.Around.{nearest_around}
use Rattle.hashed_changes.specs.Passing.{HasNoneBetween, IsAround, IsPassed}
use Rattle.hashed_changes.specs.Places.{owners_of}
use Rattle.hashed_changes.specs.Renewal.{owners_besides}
use Rattle.hashed_changes.specs.Standing.{IsFollowed}
use Rattle.hashed_changes.proofs.Counted.{among_from}
use Rattle.hashed_changes.proofs.NearestRead.{before_ascend}

-- ---- one owner is read

-- the test that a name isn't before another
pub not_before : (last o : Name) → is_before name_cmp o last ≡ false → is_upto name_cmp last o ≡ true
not_before last o e = upto_from_not_before name_order last o (λ h. true≢false (sym (ap is_lt h) ∙ e))

module _ (m : Sets) (last o : Name) (os : List Name) (is : os ≡ denial_owners_before m NSEC3 o) (follows : is_before name_cmp o last ≡ false) where
  read : (x : Name) → Contains (owners m NSEC3) x → is_before name_cmp x o ≡ true → In x os
  read x c e = subst (In x) (sym is) (In-filter (λ a. is_before name_cmp a o) x (owners m NSEC3) (Contains-In x (owners m NSEC3) c) e)

  pub none_read : os ≡ [] → HasNoneBetween (owners m NSEC3) last o
  none_read empty = record { upto = not_before last o follows; none = λ x c e. absurd (subst (In x) empty (read x c e)) }

  module _ (zone : IsZone m) (front : List Name) (y : Name) (split : os ≡ front ++ y ∷ []) (upto : is_upto name_cmp y last ≡ true) where
    ordered : IsStrictlySortedBy name_cmp (front ++ y ∷ [])
    ordered = subst (IsStrictlySortedBy name_cmp) split (before_ascend m [] o os zone is)

    pub one_read : HasNoneBetween (owners m NSEC3) last o
    one_read = record { upto = not_before last o follows; none = λ x c e. by x (In-from_append x front (y ∷ []) (subst (In x) split (read x c e))) }
      where
        earlier : (x : Name) → name_cmp x y ≡ Less → (y ≡ last) ⊎ (name_cmp y last ≡ Less) → is_upto name_cmp x last ≡ true
        earlier x l (inl q) = upto_before name_order x last (ap (name_cmp x) (sym q) ∙ l)
        earlier x l (inr k) = upto_before name_order x last (name_order.total.trans x y last l k)

        by : (x : Name) → In x front ⊎ In x (y ∷ []) → is_upto name_cmp x last ≡ true
        by x (inl i) = earlier x (Ascends-apart name_cmp front (y ∷ []) (Ascends-from_sorted name_cmp (front ++ y ∷ []) ordered) x y i (inl refl)) (upto_cases name_order y last upto)
        by x (inr (inl q)) = ap (λ a. is_upto name_cmp a last) (sym q) ∙ upto
        by x (inr (inr i)) = absurd i

-- ---- what lies around is the same

module _ (m : Sets) (some : List Name) (last o : Name) (among : is_among some last ≡ true) (none : HasNoneBetween (owners m NSEC3) last o) where
  same_test : (x : Name) → In x (owners_besides m some) → is_before name_cmp x o ≡ is_before name_cmp x last
  same_test x i = both_ways (is_before name_cmp x o) (is_before name_cmp x last) to from
    where
      r : In x (owners m NSEC3) × (not (is_among some x) ≡ true)
      r = In-from_filter (λ a. not (is_among some a)) x (owners m NSEC3) i

      to : is_before name_cmp x o ≡ true → is_before name_cmp x last ≡ true
      to e = by (upto_cases name_order x last (none.none x (In-Contains x (owners m NSEC3) r.0) e))
        where
          by : (x ≡ last) ⊎ (name_cmp x last ≡ Less) → is_before name_cmp x last ≡ true
          by (inl q) = absurd (true≢false (sym among ∙ ap (is_among some) (sym q) ∙ not_true (is_among some x) r.1))
          by (inr l) = ap is_lt l

      from : is_before name_cmp x last ≡ true → is_before name_cmp x o ≡ true
      from e = by (upto_cases name_order last o none.upto)
        where
          by : (last ≡ o) ⊎ (name_cmp last o ≡ Less) → is_before name_cmp x o ≡ true
          by (inl q) = ap (is_before name_cmp x) (sym q) ∙ e
          by (inr l) = ap is_lt (name_order.total.trans x last o (less_test (name_cmp x last) e) l)

  same_nearest : nearest_around name_cmp (owners_besides m some) o ≡ nearest_around name_cmp (owners_besides m some) last
  same_nearest =
      ap (λ (xs : List Name). option_or (greatest name_cmp xs) (greatest name_cmp (owners_besides m some)))
      (filter_same (λ x. is_before name_cmp x o) (λ x. is_before name_cmp x last) (owners_besides m some) same_test)

pub same_around : (origin : Name) (m : Sets) (some : List Name) (p : Passed) (o : Name) (b : Bool) → IsPassed origin m some p → (b ≡ true → HasNoneBetween (owners m NSEC3) p.owner o) → b ≡ true → IsAround origin m some o p.around
same_around origin m some p o b h read is = by p.around h.around
  where
    none : HasNoneBetween (owners m NSEC3) p.owner o
    none = read is

    by : (k : Option Around) → IsAround origin m some p.owner k → IsAround origin m some o k
    by None e = same_nearest m some p.owner o h.among none ∙ e
    by (Some a) e = (same_nearest m some p.owner o h.among none ∙ e.0, e.1, e.2)

-- ---- what is found anew

module _ (origin : Name) (m : Sets) (some : List Name) (o : Name) where
  pub none_around : None ≡ nearest_around name_cmp (owners_besides m some) o → IsAround origin m some o None
  none_around e = sym e

  pub some_around : (x nearest : Name) (kept : Place) → Some x ≡ nearest_around name_cmp (owners_besides m some) o → nearest ≡ x → IsFollowed origin m some x kept.digest → kept.owner ≡ hashed_owner origin kept.digest
      → IsAround origin m some o (Some (record { nearest = nearest; kept = kept }))
  some_around x nearest kept e is f g = (sym e ∙ ap Some (sym is), subst (λ y. IsFollowed origin m some y kept.digest) (sym is) f, g)

pub is_passed : (origin : Name) (m : Sets) (affected : List Affected) (one : Affected) (owner : Name) (around : Option Around) → Contains affected one → owner ≡ one.place.owner → IsAround origin m (owners_of affected) one.place.owner around
    → IsPassed origin m (owners_of affected) (record { owner = owner; around = around })
is_passed origin m affected one owner around c e h = record {
  among = ap (is_among (owners_of affected)) e ∙ among_from (owners_of affected) one.place.owner (In-map (λ (a : Affected). a.place.owner) one affected (Contains-In one affected c));
  around = subst (λ x. IsAround origin m (owners_of affected) x around) (sym e) h;
}

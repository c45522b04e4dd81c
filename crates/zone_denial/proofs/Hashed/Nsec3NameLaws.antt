-- The names that get an NSEC3 set are the origin, and below it those that count or have one that counts below them
use Rattle.std.proofs.Common.{◌≡◌, ◌↔◌, Bool, true, List, [], ◌∷◌, ◌++◌, filter, flat_map, refl, sym, ap, ◌∙◌, subst, inl, inr, ◌⊎◌, not, ◌&&◌}
use Rattle.std.specs.List.{Contains}
use Rattle.std.specs.List.Sorted.{IsStrictlySortedBy}
use Rattle.zone_proto.specs.Names.{Name, name_cmp, name_eq, is_above, suffixes, IsAbove, IsAtOrAbove, proper_ancestors}
use Rattle.zone_proto.specs.Types.{NSEC3}
use Rattle.zone_proto.proofs.Members.{In, In-Contains, Contains-In, In-filter, In-from_filter, In-flat_map, In-from_flat_map, and_left}
use Rattle.zone_proto.proofs.Names.NameTree.{above_test, at_or_above_from_suffix, suffix_from_at_or_above, is_at_or_above_sound}
use Rattle.zone_proto.proofs.Names.Tree.{name_order, above_cases}
use Rattle.zone_map.specs.Zones.{Sets, names_of}
use Rattle.zone_denial.specs.Authority.{is_authoritative, authoritative_names}
use Rattle.zone_denial.specs.Nsec3Names.{is_unsigned_delegation, counted_names, nsec3_names, IsNsec3Name}
use Rattle.zone_denial.proofs.InOrder.{In-in_order, In-from_in_order, in_order_ascends}

-- ---- proper ancestors

above_from_ancestor : (a n : Name) → In a (proper_ancestors n) → IsAtOrAbove a n
above_from_ancestor a [] i = absurd i
above_from_ancestor a (l ∷ ls) i =
    let above : IsAtOrAbove a ls = at_or_above_from_suffix ls a (In-Contains a (suffixes ls) i) in
    (l ∷ above.0, ap (λ (n : Name). l ∷ n) above.1)

ancestor_from_above : (a n : Name) → IsAbove a n → In a (proper_ancestors n)
ancestor_from_above a n h = subst (λ (k : Name). In a (proper_ancestors k)) (sym h.2) (Contains-In a (suffixes (h.1 ++ a)) (suffix_from_at_or_above (h.1 ++ a) a (h.1, refl)))

module _ (origin : Name) (m : Sets) (opt_out : Bool) where
  abbrev with_ancestors : Name → List Name
  with_ancestors c = c ∷ filter (is_above origin) (proper_ancestors c)

  abbrev counts : Name → Bool
  counts n = not (opt_out && (not (name_eq n origin) && is_unsigned_delegation m n))

  counted_in_zone : (c : Name) → In c (counted_names origin m opt_out) → IsAtOrAbove origin c
  counted_in_zone c i =
      let authoritative : In c (authoritative_names origin m NSEC3) = (In-from_filter counts c (authoritative_names origin m NSEC3) i).0 in
      let test : is_authoritative origin m NSEC3 c ≡ true = (In-from_filter (is_authoritative origin m NSEC3) c (names_of m) authoritative).1 in
      is_at_or_above_sound origin c (and_left _ _ test)

  named_from_counted : (n c : Name) → In c (counted_names origin m opt_out) → In n (with_ancestors c) → IsNsec3Name origin m opt_out n
  named_from_counted n c i (inl e) = by (above_cases origin c (counted_in_zone c i))
    where
      by : (origin ≡ c) ⊎ IsAbove origin c → IsNsec3Name origin m opt_out n
      by (inl same) = inl (sym e ∙ sym same)
      by (inr above) = inr (subst (IsAbove origin) e above, (c, In-Contains c (counted_names origin m opt_out) i, ([], e)))
  named_from_counted n c i (inr j) =
      let k = In-from_filter (is_above origin) n (proper_ancestors c) j in
      inr ((above_test origin n).0 k.1, (c, In-Contains c (counted_names origin m opt_out) i, above_from_ancestor n c k.0))

  named : (n : Name) → Contains (nsec3_names origin m opt_out) n → IsNsec3Name origin m opt_out n
  named n h = by (In-from_in_order name_order n (origin ∷ flat_map with_ancestors (counted_names origin m opt_out)) (Contains-In n (nsec3_names origin m opt_out) h))
    where
      by : In n (origin ∷ flat_map with_ancestors (counted_names origin m opt_out)) → IsNsec3Name origin m opt_out n
      by (inl e) = inl (sym e)
      by (inr i) = let k = In-from_flat_map with_ancestors n (counted_names origin m opt_out) i in named_from_counted n k.0 k.1 k.2

  with_its_own : (n c : Name) → IsAbove origin n → IsAtOrAbove n c → In n (with_ancestors c)
  with_its_own n c above at = by (above_cases n c at)
    where
      by : (n ≡ c) ⊎ IsAbove n c → In n (with_ancestors c)
      by (inl e) = inl (sym e)
      by (inr h) = inr (In-filter (is_above origin) n (proper_ancestors c) (ancestor_from_above n c h) ((above_test origin n).1 above))

  listed : (n : Name) → IsNsec3Name origin m opt_out n → Contains (nsec3_names origin m opt_out) n
  listed n h = In-Contains n (nsec3_names origin m opt_out) (In-in_order name_order n (origin ∷ flat_map with_ancestors (counted_names origin m opt_out)) (by h))
    where
      by : IsNsec3Name origin m opt_out n → In n (origin ∷ flat_map with_ancestors (counted_names origin m opt_out))
      by (inl e) = inl (sym e)
      by (inr (above, (c, i, at))) = inr (In-flat_map with_ancestors c n (counted_names origin m opt_out) (Contains-In c (counted_names origin m opt_out) i) (with_its_own n c above at))

  pub names_are_exact : (n : Name) → Contains (nsec3_names origin m opt_out) n ↔ IsNsec3Name origin m opt_out n
  names_are_exact n = (named n, listed n)

pub names_ascend : (origin : Name) (m : Sets) (opt_out : Bool) → IsStrictlySortedBy name_cmp (nsec3_names origin m opt_out)
names_ascend origin m opt_out = in_order_ascends name_order (origin ∷ flat_map (λ n. n ∷ filter (is_above origin) (proper_ancestors n)) (counted_names origin m opt_out))

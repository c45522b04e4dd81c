-- The owners on a zone's circle of NSEC sets, and their next names
use Rattle.std.proofs.Common.{◌≡◌, ◌&&◌, not, true, List, [], refl, sym, ap, ◌∙◌, ◌⊎◌, inl, inr, Less, is_lt}
use Rattle.std.specs.Prelude.{Option, Some, None, filter, unwrap_or, option_and_then}
use Rattle.zone_proto.specs.Names.{Name, name_cmp, is_at_or_above, IsAbove}
use Rattle.zone_proto.specs.Order.{is_before, is_upto, least}
use Rattle.zone_proto.specs.Types.{NSEC}
use Rattle.zone_proto.proofs.Members.{In, In-filter, In-from_filter, and_left}
use Rattle.zone_proto.proofs.Names.NameTree.{above_is_less, is_at_or_above_sound, is_at_or_above_complete}
use Rattle.zone_proto.proofs.Ordering.Orders.{less_test, greatest_is, greatest_none, upto_before, upto_same}
use Rattle.zone_proto.proofs.Names.Tree.{name_order, above_cases}
use Rattle.zone_map.specs.Zones.{Sets, set_at, owns, names_of}
use Rattle.zone_map.proofs.Owned.{name_in, set_of}
use Rattle.zone_denial.specs.Authority.{is_authoritative, authoritative_names, is_below_cut, owns_besides}
use Rattle.zone_denial.specs.NsecCircle.{IsNsecCircle, next_of, nsec_next}
use Rattle.zone_denial.specs.NsecLaws.{IsNsecZone}
use Rattle.zone_denial.proofs.Names.AuthoritativeNames.{authoritative_from, origin_uncut}
use Rattle.zone_denial.proofs.InOrder.{flipped}

-- an ancestor isn't after its descendants
pub above_upto : (a n : Name) → is_at_or_above a n ≡ true → is_upto name_cmp a n ≡ true
above_upto a n h = by (above_cases a n (is_at_or_above_sound a n h))
  where
    by : (a ≡ n) ⊎ IsAbove a n → is_upto name_cmp a n ≡ true
    by (inl e) = upto_same name_order a n e
    by (inr r) = upto_before name_order a n (above_is_less a n r)

-- what an owner's next name is: the least owner after it, or the origin if there is none
pub data NextIs (origin : Name) (m : Sets) (o n : Name) : Type 0 where
  least_after : owns m n NSEC ≡ true → name_cmp o n ≡ Less → ((a : Name) → owns m a NSEC ≡ true → name_cmp o a ≡ Less → name_cmp a n ≡ Less → ⊥) → NextIs origin m o n
  wraps : n ≡ origin → ((a : Name) → owns m a NSEC ≡ true → name_cmp o a ≡ Less → ⊥) → NextIs origin m o n

module _ (origin : Name) (m : Sets) (circle : IsNsecCircle origin m) where
  -- an owner of an NSEC set is among the authoritative names, and the other way round
  listed : (a : Name) → owns m a NSEC ≡ true → In a (authoritative_names origin m NSEC)
  listed a k = In-filter (is_authoritative origin m NSEC) a (names_of m) (name_in m a NSEC k) (sym (circle.one_for_each a) ∙ k)

  owned : (a : Name) → In a (authoritative_names origin m NSEC) → owns m a NSEC ≡ true
  owned a i = circle.one_for_each a ∙ (In-from_filter (is_authoritative origin m NSEC) a (names_of m) i).1

  -- it isn't before the origin
  pub origin_upto : (a : Name) → owns m a NSEC ≡ true → is_upto name_cmp origin a ≡ true
  origin_upto a k = above_upto origin a (and_left (is_at_or_above origin a) (owns_besides m NSEC a && not (is_below_cut origin m a)) (sym (circle.one_for_each a) ∙ k))

  pub next_is : (o : Name) → NextIs origin m o (nsec_next origin m o)
  next_is o = by (least name_cmp later) refl
    where
      later : List Name
      later = filter (is_before name_cmp o) (authoritative_names origin m NSEC)

      is_later : (a : Name) → owns m a NSEC ≡ true → name_cmp o a ≡ Less → In a later
      is_later a k l = In-filter (is_before name_cmp o) a (authoritative_names origin m NSEC) (listed a k) (ap is_lt l)

      by : (l : Option Name) → least name_cmp later ≡ l → NextIs origin m o (unwrap_or l origin)
      by None e = wraps refl (λ a k l. greatest_none (flipped name_order) later e a (is_later a k l))
      by (Some n) e =
          let g = greatest_is (flipped name_order) later n e in
          let i = In-from_filter (is_before name_cmp o) n (authoritative_names origin m NSEC) g.among in
          least_after (owned n i.0) (less_test (name_cmp o n) i.1) (λ a k l s. g.none_greater a (is_later a k l) s)

  -- and it is what the owner's set says
  pub next_said : (o : Name) → owns m o NSEC ≡ true → option_and_then next_of (set_at m o NSEC) ≡ Some (nsec_next origin m o)
  next_said o k = let s = set_of m o NSEC k in ap (option_and_then next_of) s.1 ∙ (circle.each o s.0 s.1).next

module _ (origin : Name) (m : Sets) (h : IsNsecZone origin m) where
  pub origin_on_circle : owns m origin NSEC ≡ true
  origin_on_circle =
      h.circle.one_for_each origin
      ∙ authoritative_from origin m NSEC origin (is_at_or_above_complete origin origin ([], refl)) h.on_circle (origin_uncut origin m)

  -- the next name of an owner is an owner
  pub next_owned : (o : Name) → owns m (nsec_next origin m o) NSEC ≡ true
  next_owned o = by (next_is origin m h.circle o)
    where
      by : NextIs origin m o (nsec_next origin m o) → owns m (nsec_next origin m o) NSEC ≡ true
      by (least_after k l none) = k
      by (wraps e none) = ap (λ n. owns m n NSEC) e ∙ origin_on_circle

-- The owners on a chain of NSEC sets, and their next names
use Rattle.std.proofs.Common.{◌≡◌, ◌&&◌, not, true, List, refl, ap, ◌∙◌, Less, is_lt}
use Rattle.std.specs.Prelude.{Option, Some, None, filter, unwrap_or, option_and_then}
use Rattle.zone_proto.specs.Names.{Name, name_cmp, is_at_or_above}
use Rattle.zone_proto.specs.Order.{is_before, is_upto, least}
use Rattle.zone_proto.specs.Types.{NSEC}
use Rattle.zone_proto.proofs.Members.{In, In-filter, In-from_filter, and_left}
use Rattle.zone_proto.proofs.Ordering.Orders.{less_test, greatest_is, greatest_none}
use Rattle.zone_proto.proofs.Names.Tree.{name_order}
use Rattle.zone_map.specs.Zones.{Sets, set_at, owns, owners}
use Rattle.zone_map.proofs.Owned.{owner_in, owner_owned, set_of}
use Rattle.zone_denial.specs.Authority.{is_below_cut, owns_besides}
use Rattle.zone_denial.specs.Chains.{IsNsecChain, next_owner}
use Rattle.zone_denial.specs.NsecCircle.{next_of}
use Rattle.zone_denial.proofs.Chain.NsecCircle.{above_upto, NextIs, least_after, wraps}
use Rattle.zone_denial.proofs.InOrder.{flipped}

module _ (origin : Name) (m : Sets) (h : IsNsecChain origin m) where
  -- an owner is a name of the zone, so not before the origin
  pub owner_inside : (a : Name) → owns m a NSEC ≡ true → is_at_or_above origin a ≡ true
  owner_inside a k = and_left (is_at_or_above origin a) (owns_besides m NSEC a && not (is_below_cut origin m a)) (h.authoritative a k)

  pub origin_upto : (a : Name) → owns m a NSEC ≡ true → is_upto name_cmp origin a ≡ true
  origin_upto a k = above_upto origin a (owner_inside a k)

  pub next_is : (o : Name) → NextIs origin m o (next_owner origin m o)
  next_is o = by (least name_cmp later) refl
    where
      later : List Name
      later = filter (is_before name_cmp o) (owners m NSEC)

      is_later : (a : Name) → owns m a NSEC ≡ true → name_cmp o a ≡ Less → In a later
      is_later a k l = In-filter (is_before name_cmp o) a (owners m NSEC) (owner_in m a NSEC k) (ap is_lt l)

      by : (l : Option Name) → least name_cmp later ≡ l → NextIs origin m o (unwrap_or l origin)
      by None e = wraps refl (λ a k l. greatest_none (flipped name_order) later e a (is_later a k l))
      by (Some n) e =
          let g = greatest_is (flipped name_order) later n e in
          let i = In-from_filter (is_before name_cmp o) n (owners m NSEC) g.among in
          least_after (owner_owned m n NSEC i.0) (less_test (name_cmp o n) i.1) (λ a k l s. g.none_greater a (is_later a k l) s)

  -- and it is what the owner's set says
  pub next_said : (o : Name) → owns m o NSEC ≡ true → option_and_then next_of (set_at m o NSEC) ≡ Some (next_owner origin m o)
  next_said o k = let s = set_of m o NSEC k in ap (option_and_then next_of) s.1 ∙ (h.each o s.0 s.1).next

  -- the next name of an owner is an owner
  pub next_owned : (o : Name) → owns m (next_owner origin m o) NSEC ≡ true
  next_owned o = by (next_is o)
    where
      by : NextIs origin m o (next_owner origin m o) → owns m (next_owner origin m o) NSEC ≡ true
      by (least_after k l none) = k
      by (wraps e none) = ap (λ n. owns m n NSEC) e ∙ h.begins

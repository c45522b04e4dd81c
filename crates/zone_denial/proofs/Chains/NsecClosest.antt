-- On a chain of NSEC sets, a name of the zone has the closest owner's set, or is covered by it
use Rattle.std.proofs.Common.{◌≡◌, Bool, true, false, cond, ◌&&◌, ◌||◌, List, [], ◌∷◌, ◌++◌, refl, sym, ap, ◌∙◌, true≢false, ◌⊎◌, inl, inr, Less, is_lt}
use Rattle.std.specs.Prelude.{Option, Some, None, filter, filter_map, option_and_then}
use Rattle.std.specs.Option.{option_map_or}
use Rattle.std.specs.List.{cons_option}
use Rattle.zone_proto.specs.Names.{Name, name_eq, name_cmp, is_at_or_above}
use Rattle.zone_proto.specs.Order.{is_before, is_upto}
use Rattle.zone_proto.specs.Sets.{RRset}
use Rattle.zone_proto.specs.Types.{NSEC}
use Rattle.zone_proto.proofs.Members.{In, In-filter, In-from_filter, and_left, and_right, or_left, or_right}
use Rattle.zone_proto.proofs.Ordering.Orders.{IsTop, has_greatest, Side, side, before, same, after, less_test, upto_cases, upto_before, upto_same}
use Rattle.zone_proto.proofs.Names.Tree.{name_order}
use Rattle.zone_map.specs.Zones.{Sets, set_at, owns, owners}
use Rattle.zone_map.proofs.Owned.{owner_in, owner_owned, set_of}
use Rattle.zone_denial.specs.ChainLaws.{ChainFindsOrCovers}
use Rattle.zone_denial.specs.Chains.{IsNsecChain, next_owner}
use Rattle.zone_denial.specs.Covering.{covers}
use Rattle.zone_denial.specs.NsecDenial.{goes_past, reaches, closest_owner, nsec_denial, both_of, proved_beside}
use Rattle.zone_denial.specs.NsecLaws.{LastCovers, FindsOrCovers}
use Rattle.zone_denial.proofs.Chain.NsecCircle.{above_upto, NextIs, least_after, wraps}
use Rattle.zone_denial.proofs.Chains.NsecLinks.{origin_upto, next_is, next_said}

-- an owner that isn't after x, whose next name is past x or goes back to the owner or before it
pub record IsClosest (origin : Name) (m : Sets) (x o : Name) : Type 0 where
  pub on_chain : owns m o NSEC ≡ true
  pub not_after : is_upto name_cmp o x ≡ true
  pub past : (name_cmp x (next_owner origin m o) ≡ Less) ⊎ (is_upto name_cmp (next_owner origin m o) o ≡ true)

module _ (origin : Name) (m : Sets) (h : IsNsecChain origin m) (x : Name) where
  -- ---- these are the owners that reach x

  goes_past_from : (o n : Name) → (name_cmp x n ≡ Less) ⊎ (is_upto name_cmp n o ≡ true) → goes_past o x n ≡ true
  goes_past_from o n (inl e) = or_left (is_before name_cmp x n) (is_upto name_cmp n o) (ap is_lt e)
  goes_past_from o n (inr e) = or_right (is_before name_cmp x n) (is_upto name_cmp n o) e

  from_goes_past : (o n : Name) → goes_past o x n ≡ true → (name_cmp x n ≡ Less) ⊎ (is_upto name_cmp n o ≡ true)
  from_goes_past o n h = by (is_before name_cmp x n) refl h
    where
      by : (b : Bool) → is_before name_cmp x n ≡ b → b || is_upto name_cmp n o ≡ true → (name_cmp x n ≡ Less) ⊎ (is_upto name_cmp n o ≡ true)
      by true e h = inl (less_test (name_cmp x n) e)
      by false e h = inr h

  reached : (o : Name) → owns m o NSEC ≡ true → reaches m x o ≡ is_upto name_cmp o x && goes_past o x (next_owner origin m o)
  reached o k = ap (λ p. is_upto name_cmp o x && option_map_or (goes_past o x) p false) (next_said origin m h o k)

  pub reaches_from : (o : Name) → IsClosest origin m x o → reaches m x o ≡ true
  reaches_from o c = reached o c.on_chain ∙ (λ i. c.not_after i && goes_past_from o (next_owner origin m o) c.past i)

  from_reaches : (o : Name) → owns m o NSEC ≡ true → reaches m x o ≡ true → IsClosest origin m x o
  from_reaches o k r =
      let both = sym (reached o k) ∙ r in
      record {
        on_chain = k;
        not_after = and_left (is_upto name_cmp o x) (goes_past o x (next_owner origin m o)) both;
        past = from_goes_past o (next_owner origin m o) (and_right (is_upto name_cmp o x) (goes_past o x (next_owner origin m o)) both);
      }

  -- ---- the greatest owner that isn't after x is one

  abbrev not_later : List Name
  not_later = filter (λ o. is_upto name_cmp o x) (owners m NSEC)

  stands : (a : Name) → owns m a NSEC ≡ true → is_upto name_cmp a x ≡ true → In a not_later
  stands a k u = In-filter (λ o. is_upto name_cmp o x) a (owners m NSEC) (owner_in m a NSEC k) u

  last_is_past : (o : Name) → owns m o NSEC ≡ true → IsTop name_order not_later o → NextIs origin m o (next_owner origin m o)
      → (name_cmp x (next_owner origin m o) ≡ Less) ⊎ (is_upto name_cmp (next_owner origin m o) o ≡ true)
  last_is_past o on g (least_after k l none) = by (side name_order x (next_owner origin m o))
    where
      by : Side name_cmp x (next_owner origin m o) → (name_cmp x (next_owner origin m o) ≡ Less) ⊎ (is_upto name_cmp (next_owner origin m o) o ≡ true)
      by (before e) = inl e
      by (same e) = absurd (g.none_greater (next_owner origin m o) (stands (next_owner origin m o) k (upto_same name_order (next_owner origin m o) x (sym e))) l)
      by (after e) = absurd (g.none_greater (next_owner origin m o) (stands (next_owner origin m o) k (upto_before name_order (next_owner origin m o) x e)) l)
  last_is_past o on g (wraps e none) = inr (ap (λ n. is_upto name_cmp n o) e ∙ origin_upto origin m h o on)

  pub last_is_closest : (o : Name) → IsTop name_order not_later o → IsClosest origin m x o
  last_is_closest o g =
      let i = In-from_filter (λ o. is_upto name_cmp o x) o (owners m NSEC) g.among in
      let on = owner_owned m o NSEC i.0 in
      record { on_chain = on; not_after = i.1; past = last_is_past o on g (next_is origin m h o) }

module _ (origin : Name) (m : Sets) (h : IsNsecChain origin m) (x : Name) where
  some_closest : is_at_or_above origin x ≡ true → (o : Name) × IsClosest origin m x o
  some_closest inside =
      let r = has_greatest name_order (not_later origin m h x) origin (stands origin m h x origin h.begins (above_upto origin x inside)) in
      (r.0, last_is_closest origin m h x r.0 r.2)

  -- so each name of the zone has a closest owner
  pub closest_is : is_at_or_above origin x ≡ true → (o : Name) × (closest_owner m x ≡ Some o) × IsClosest origin m x o
  closest_is inside =
      let c = some_closest inside in
      let r = has_greatest name_order (filter (reaches m x) (owners m NSEC)) c.0 (In-filter (reaches m x) c.0 (owners m NSEC) (owner_in m c.0 NSEC c.1.on_chain) (reaches_from origin m h x c.0 c.1)) in
      let i = In-from_filter (reaches m x) r.0 (owners m NSEC) r.2.among in
      (r.0, r.1, from_reaches origin m h x r.0 (owner_owned m r.0 NSEC i.0) i.1)

-- ---- off the chain, such an owner and its next name cover x

module _ (origin : Name) (m : Sets) (x o : Name) (c : IsClosest origin m x o) (off : owns m x NSEC ≡ false) where
  pub closest_before : name_cmp o x ≡ Less
  closest_before = by (upto_cases name_order o x c.not_after)
    where
      by : (o ≡ x) ⊎ (name_cmp o x ≡ Less) → name_cmp o x ≡ Less
      by (inl e) = absurd (true≢false (sym c.on_chain ∙ ap (λ a. owns m a NSEC) e ∙ off))
      by (inr e) = e

  covers_from : (n : Name) → (name_cmp x n ≡ Less) ⊎ (is_upto name_cmp n o ≡ true) → covers name_cmp o n x ≡ true
  covers_from n (inl e) =
      or_left (is_before name_cmp o x && is_before name_cmp x n) (is_upto name_cmp n o && (is_before name_cmp o x || is_before name_cmp x n))
      (λ i. is_lt (closest_before i) && is_lt (e i))
  covers_from n (inr e) =
      or_right (is_before name_cmp o x && is_before name_cmp x n) (is_upto name_cmp n o && (is_before name_cmp o x || is_before name_cmp x n))
      (λ i. e i && (is_lt (closest_before i) || is_before name_cmp x n))

  pub closest_covers : covers name_cmp o (next_owner origin m o) x ≡ true
  closest_covers = covers_from (next_owner origin m o) c.past

-- ---- the last set of a denial

-- the sets of owners, the last one's last
last_of_both : (m : Sets) (p : Option Name) (o : Name) (s : RRset) → set_at m o NSEC ≡ Some s
    → (front : List RRset) × (filter_map (λ a. set_at m a NSEC) (both_of p (Some o)) ≡ front ++ s ∷ [])
last_of_both m None o s e = ([], ap (λ q. cons_option q []) e)
last_of_both m (Some a) o s e = by (name_eq a o)
  where
    by : (b : Bool) → (front : List RRset) × (filter_map (λ a. set_at m a NSEC) (cond b (o ∷ []) (a ∷ o ∷ [])) ≡ front ++ s ∷ [])
    by true = ([], ap (λ q. cons_option q []) e)
    by false = with_first (set_at m a NSEC)
      where
        with_first : (p : Option RRset) → (front : List RRset) × (cons_option p (cons_option (set_at m o NSEC) []) ≡ front ++ s ∷ [])
        with_first None = ([], ap (λ q. cons_option q []) e)
        with_first (Some t) = (t ∷ [], ap (λ q. t ∷ cons_option q []) e)

module _ (origin : Name) (m : Sets) (h : IsNsecChain origin m) where
  -- off the chain it is the closest owner's, and covers the name
  pub last_covers : (x o : Name) → IsClosest origin m x o → closest_owner m x ≡ Some o → owns m x NSEC ≡ false → LastCovers (nsec_denial origin m x) x (next_owner origin m o)
  last_covers x o c is off =
      let s = set_of m o NSEC c.on_chain in
      let p = option_and_then (closest_owner m) (proved_beside origin m x) in
      let last = last_of_both m p o s.0 s.1 in
      record {
        before = last.0;
        set = s.0;
        last =
            ap (λ b. filter_map (λ a. set_at m a NSEC) (cond b (x ∷ []) (both_of p (closest_owner m x)))) off
            ∙ ap (λ q. filter_map (λ a. set_at m a NSEC) (both_of p q)) is
            ∙ last.1;
        next = (h.each o s.0 s.1).next;
        covers = ap (λ w. covers name_cmp w (next_owner origin m o) x) (h.zone.stored o NSEC s.0 s.1).owner ∙ closest_covers origin m x o c off;
      }

  found_alone : (x : Name) (s : RRset) → set_at m x NSEC ≡ Some s → owns m x NSEC ≡ true → nsec_denial origin m x ≡ s ∷ []
  found_alone x s e on =
      ap (λ b. filter_map (λ a. set_at m a NSEC) (cond b (x ∷ []) (both_of (option_and_then (closest_owner m) (proved_beside origin m x)) (closest_owner m x)))) on
      ∙ ap (λ q. cons_option q []) e

pub finds_or_covers : ChainFindsOrCovers
finds_or_covers origin m h x inside = by (owns m x NSEC) refl
  where
    by : (b : Bool) → owns m x NSEC ≡ b → FindsOrCovers m x (nsec_denial origin m x)
    by true on = let s = set_of m x NSEC on in inl (s.0, s.1, found_alone origin m h x s.0 s.1 on)
    by false off = let c = closest_is origin m h x inside in inr (next_owner origin m c.0, last_covers origin m h x c.0 c.2 c.1 off)

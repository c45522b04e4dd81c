-- On a chain of NSEC sets, the denial of a name off it has the set of the wildcard at the closest encloser, or covers
-- the wildcard
use Rattle.std.proofs.Common.{◌≡◌, Bool, true, false, cond, ◌&&◌, [], ◌∷◌, refl, sym, ap, ◌∙◌, subst, true≢false, ◌⊎◌, inl, inr, Less}
use Rattle.std.specs.Prelude.{Option, Some, None, filter, find, is_some, unwrap_or, option_and_then}
use Rattle.std.specs.List.{Contains}
use Rattle.zone_proto.specs.Names.{Name, name_eq, name_cmp, is_at_or_above, asterisk_label, IsAbove, IsAtOrAbove, proper_ancestors, wildcard_under}
use Rattle.zone_proto.specs.Order.{is_upto}
use Rattle.zone_proto.specs.Sets.{RRset}
use Rattle.zone_proto.specs.Types.{NSEC}
use Rattle.zone_proto.proofs.Members.{In, In-Contains, In-filter, In-filter_map, and_left}
use Rattle.zone_proto.proofs.Names.NameTree.{name_eq-Decides, is_at_or_above_sound, is_at_or_above_complete}
use Rattle.zone_proto.proofs.Ordering.Orders.{greatest_is, Side, side, before, same, after, upto_same, upto_before, upto_cases}
use Rattle.zone_proto.proofs.Names.Tree.{name_order, above_cases}
use Rattle.zone_map.specs.Zones.{Sets, set_at, owns, owners}
use Rattle.zone_map.proofs.Delegations.{found_above}
use Rattle.zone_map.proofs.Owned.{owner_in, set_of}
use Rattle.zone_denial.specs.ChainLaws.{ChainProvesWildcard}
use Rattle.zone_denial.specs.Chains.{IsNsecChain, next_owner}
use Rattle.zone_denial.specs.Covering.{covers}
use Rattle.zone_denial.specs.NsecDenial.{owns_nsec_at_or_below, nsec_encloser, proved_beside, reaches, closest_owner, both_of, denying_owners, nsec_denial}
use Rattle.zone_denial.specs.NsecLaws.{HasOwnOrCover}
use Rattle.zone_denial.proofs.Chains.NsecClosest.{IsClosest, reaches_from, closest_is, closest_covers}
use Rattle.zone_denial.proofs.Chain.NsecEnclosers.{beside_below}

-- the first of two that may be there is there
In-both_first : (a : Name) (q : Option Name) → In a (both_of (Some a) q)
In-both_first a None = inl refl
In-both_first a (Some b) = by (name_eq a b) refl
  where
    by : (c : Bool) → name_eq a b ≡ c → In a (cond c (b ∷ []) (a ∷ b ∷ []))
    by true e = inl (sym ((name_eq-Decides a b).0 e))
    by false e = inl refl

-- the closest encloser is in the zone
encloser_in : (origin : Name) (m : Sets) (x : Name) → IsAtOrAbove origin (nsec_encloser origin m x)
encloser_in origin m x = by (find encloses (proper_ancestors x)) refl
  where
    encloses : Name → Bool
    encloses a = is_at_or_above origin a && owns_nsec_at_or_below m a

    passes : (x a : Name) → find encloses (proper_ancestors x) ≡ Some a → encloses a ≡ true
    passes [] a e = absurd cc
    passes (l ∷ ls) a e = (found_above encloses ls a e).1

    by : (p : Option Name) → find encloses (proper_ancestors x) ≡ p → IsAtOrAbove origin (unwrap_or p origin)
    by None e = ([], refl)
    by (Some a) e = is_at_or_above_sound origin a (and_left (is_at_or_above origin a) (owns_nsec_at_or_below m a) (passes x a e))

module _ (origin : Name) (m : Sets) (h : IsNsecChain origin m) where
  -- the closest owner of an owner is itself
  itself : (x o : Name) → closest_owner m x ≡ Some o → IsClosest origin m x o → owns m x NSEC ≡ true → o ≡ x
  itself x o e c k = by (upto_cases name_order o x c.not_after)
    where
      past : Side name_cmp x (next_owner origin m x) → (name_cmp x (next_owner origin m x) ≡ Less) ⊎ (is_upto name_cmp (next_owner origin m x) x ≡ true)
      past (before l) = inl l
      past (same l) = inr (upto_same name_order (next_owner origin m x) x (sym l))
      past (after l) = inr (upto_before name_order (next_owner origin m x) x l)

      own : IsClosest origin m x x
      own = record { on_chain = k; not_after = upto_same name_order x x refl; past = past (side name_order x (next_owner origin m x)) }

      by : (o ≡ x) ⊎ (name_cmp o x ≡ Less) → o ≡ x
      by (inl q) = q
      by (inr l) = absurd ((greatest_is name_order (filter (reaches m x) (owners m NSEC)) o e).none_greater x (In-filter (reaches m x) x (owners m NSEC) (owner_in m x NSEC k) (reaches_from origin m h x x own)) l)

  module _ (x : Name) (inside : is_at_or_above origin x ≡ true) (off : owns m x NSEC ≡ false) where
    below_origin : IsAbove origin x
    below_origin = by (above_cases origin x (is_at_or_above_sound origin x inside))
      where
        by : (origin ≡ x) ⊎ IsAbove origin x → IsAbove origin x
        by (inl e) = absurd (true≢false (sym (h.begins) ∙ ap (λ a. owns m a NSEC) e ∙ off))
        by (inr w) = w

    abbrev wildcard_name : Name
    wildcard_name = wildcard_under (nsec_encloser origin m x)

    wildcard_in : is_at_or_above origin wildcard_name ≡ true
    wildcard_in = let w = encloser_in origin m x in is_at_or_above_complete origin wildcard_name (asterisk_label ∷ w.0, ap wildcard_under w.1)

    -- a set that the wildcard's closest owner has is in the denial
    has_closest : (o : Name) (s : RRset) → closest_owner m wildcard_name ≡ Some o → set_at m o NSEC ≡ Some s → Contains (nsec_denial origin m x) s
    has_closest o s is stands =
        let owners_are : denying_owners origin m x ≡ both_of (Some o) (closest_owner m x) =
        ap (λ b. cond b (x ∷ []) (both_of (option_and_then (closest_owner m) (proved_beside origin m x)) (closest_owner m x))) off
        ∙ ap (λ p. both_of (option_and_then (closest_owner m) p) (closest_owner m x)) (beside_below origin m x below_origin)
        ∙ ap (λ p. both_of p (closest_owner m x)) is in
        In-Contains s (nsec_denial origin m x)
        (In-filter_map (λ o. set_at m o NSEC) o s (denying_owners origin m x) (subst (In o) (sym owners_are) (In-both_first o (closest_owner m x))) stands)

    pub wildcard_proved : HasOwnOrCover m wildcard_name (nsec_denial origin m x)
    wildcard_proved =
        let c = closest_is origin m h wildcard_name wildcard_in in
        let s = set_of m c.0 NSEC c.2.on_chain in
        record {
          on = λ r e. has_closest c.0 r c.1 (ap (λ a. set_at m a NSEC) (itself wildcard_name c.0 c.1 c.2 (ap is_some e)) ∙ e);
          off = λ none.
              record {
                set = s.0;
                among = has_closest c.0 s.0 c.1 s.1;
                next = next_owner origin m c.0;
                said = (h.each c.0 s.0 s.1).next;
                covers = ap (λ w. covers name_cmp w (next_owner origin m c.0) wildcard_name) (h.zone.stored c.0 NSEC s.0 s.1).owner ∙ closest_covers origin m wildcard_name c.0 c.2 none;
              };
        }

pub proves_wildcard : ChainProvesWildcard
proves_wildcard origin m h x inside off = wildcard_proved origin m h x inside off

-- The closest encloser that a record shows of a name that it denies is the one that the denial has
use Rattle.std.proofs.Common.{◌≡◌, Bool, true, false, ◌&&◌, ◌||◌, [], ◌∷◌, refl, sym, ap, ◌∙◌, subst, ◌⊎◌, inl, inr}
use Rattle.std.specs.Prelude.{Some, unwrap_or}
use Rattle.zone_proto.specs.Names.{Name, asterisk_label, is_above, is_at_or_above, IsAtOrAbove, IsAbove, wildcard_under}
use Rattle.zone_proto.specs.Types.{NS, NSEC}
use Rattle.zone_proto.proofs.Members.{In-from_any, any_from_In, none_passes, and_left, and_right, or_left, or_right}
use Rattle.zone_proto.proofs.Names.NameTree.{above_test, is_at_or_above_sound, is_at_or_above_complete}
use Rattle.zone_map.specs.Zones.{Sets, owns, owners}
use Rattle.zone_map.proofs.Owned.{owner_in, owner_owned}
use Rattle.zone_denial.specs.Authority.{is_below_cut}
use Rattle.zone_denial.specs.NsecDenial.{owns_nsec_at_or_below, nsec_encloser}
use Rattle.zone_denial.specs.Chains.{IsNsecChain, next_owner}
use Rattle.zone_denial.proofs.Names.LongestAncestors.{above_above, IsLongestAbove, longest_above, others_above}
use Rattle.zone_denial.proofs.Chain.NsecBelow.{above_through}
use Rattle.zone_denial.proofs.Chains.NsecLinks.{next_owned}
use Rattle.denial_laws.proofs.ShownEnclosers.{same_name, above_wildcard}
use Rattle.denial_validation.specs.NsecProofs.{shown_encloser}
use Rattle.denial_laws.specs.Chains.{IsInScopeOfChain}
use Rattle.denial_laws.proofs.Chains.Gaps.{IsBetween, owner_near}
use Rattle.denial_laws.proofs.Chains.Readings.{record_at}

module _ (origin : Name) (m : Sets) (x : Name) (j : IsInScopeOfChain origin m x) (over : IsAbove origin x) where
  abbrev h : IsNsecChain origin m
  h = j.zone

  abbrev e : Name
  e = nsec_encloser origin m x

  abbrev encloses : Name → Bool
  encloses g = is_at_or_above origin g && owns_nsec_at_or_below m g

  enclosed : (g w : Name) → IsAtOrAbove origin g → owns m w NSEC ≡ true → IsAtOrAbove g w → encloses g ≡ true
  enclosed g w a k u = λ i. is_at_or_above_complete origin g a i && any_from_In (is_at_or_above g) w (owners m NSEC) (owner_in m w NSEC k) (is_at_or_above_complete g w u) i

  origin_encloses : encloses origin ≡ true
  origin_encloses = enclosed origin origin ([], refl) h.begins ([], refl)

  longest : IsLongestAbove encloses x (nsec_encloser origin m x)
  longest =
      let r = longest_above encloses x origin over origin_encloses in
      subst (IsLongestAbove encloses x) (sym (ap (λ p. unwrap_or p origin) r.1.found)) r.1

  pub encloser_above : IsAbove (nsec_encloser origin m x) x
  encloser_above = longest.above

  encloser_in : IsAtOrAbove origin (nsec_encloser origin m x)
  encloser_in = others_above encloses x e origin longest over origin_encloses

  -- the wildcard at it is judged as x is
  pub judged_wildcard : IsInScopeOfChain origin m (wildcard_under (nsec_encloser origin m x))
  judged_wildcard = record {
    zone = j.zone;
    one_kind = j.one_kind;
    unreferred = j.unreferred;
    inside = is_at_or_above_complete origin (wildcard_under e) (above_through origin e (wildcard_under e) encloser_in (asterisk_label ∷ [], refl));
    uncut = uncut (is_below_cut origin m (wildcard_under e)) refl;
    no_dname = λ a u. j.no_dname a (above_x a u);
  }
    where
      above_x : (a : Name) → IsAbove a (wildcard_under (nsec_encloser origin m x)) → IsAbove a x
      above_x a u = above_above a e x (above_wildcard a e u) encloser_above

      uncut : (b : Bool) → is_below_cut origin m (wildcard_under (nsec_encloser origin m x)) ≡ b → b ≡ false
      uncut false q = refl
      uncut true q =
          let r = In-from_any (λ a. is_above origin a && is_above a (wildcard_under e)) (owners m NS) q in
          let u = above_x r.0 ((above_test r.0 (wildcard_under e)).0 (and_right (is_above origin r.0) (is_above r.0 (wildcard_under e)) r.2)) in
          absurd (none_passes (λ a. is_above origin a && is_above a x) r.0 (owners m NS) j.uncut r.1 (λ i. and_left (is_above origin r.0) (is_above r.0 (wildcard_under e)) r.2 i && (above_test r.0 x).1 u i))

  -- of a record that x comes after
  module _ (o : Name) (b : IsBetween origin m x o) where
    abbrev n : Name
    n = next_owner origin m o

    abbrev shows_name : Name → Bool
    shows_name g = is_at_or_above g o || is_at_or_above g n

    from_either : (g : Name) → IsAtOrAbove g o ⊎ IsAtOrAbove g n → shows_name g ≡ true
    from_either g (inl u) = or_left (is_at_or_above g o) (is_at_or_above g n) (is_at_or_above_complete g o u)
    from_either g (inr u) = or_right (is_at_or_above g o) (is_at_or_above g n) (is_at_or_above_complete g n u)

    -- an ancestor of x that encloses is shown
    shown_from : (g : Name) → IsAbove g x → encloses g ≡ true → shows_name g ≡ true
    shown_from g a p =
        let r = In-from_any (is_at_or_above g) (owners m NSEC) (and_right (is_at_or_above origin g) (owns_nsec_at_or_below m g) p) in
        from_either g (owner_near origin m h x o b g r.0 a (owner_owned m r.0 NSEC r.1) (is_at_or_above_sound g r.0 r.2))

    -- and what is shown at or below the origin encloses
    from_shown : (g : Name) → IsAtOrAbove origin g → shows_name g ≡ true → encloses g ≡ true
    from_shown g a p = by (is_at_or_above g o) refl p
      where
        by : (c : Bool) → is_at_or_above g o ≡ c → c || is_at_or_above g n ≡ true → encloses g ≡ true
        by true u q = enclosed g o a b.on_chain (is_at_or_above_sound g o u)
        by false u q = enclosed g n a (next_owned origin m h o) (is_at_or_above_sound g n q)

    pub shown_is : shown_encloser (record_at origin m h o) x ≡ Some (nsec_encloser origin m x)
    shown_is = r.1.found ∙ ap Some (same_name r.0 e upward downward)
      where
        r : (a : Name) × IsLongestAbove shows_name x a
        r = longest_above shows_name x origin over (shown_from origin over origin_encloses)

        downward : IsAtOrAbove e r.0
        downward = others_above shows_name x r.0 e r.1 encloser_above (shown_from e encloser_above longest.passes)

        upward : IsAtOrAbove r.0 e
        upward = others_above encloses x e r.0 longest r.1.above (from_shown r.0 (above_through origin e r.0 encloser_in downward) r.1.passes)

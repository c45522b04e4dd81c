-- What a chain of NSEC3 sets says of the wildcard that a search asks, without opt-out
use Rattle.std.proofs.Common.{◌≡◌, ℕ, Bool, true, false, not, ◌&&◌, ◌||◌, List, refl, sym, ap, ◌∙◌, subst, true≢false, ◌⊎◌, inl, inr}
use Rattle.std.specs.Prelude.{Option, Some, find, option_map, ◌==◌}
use Rattle.std.specs.Cmp.{both_ways}
use Rattle.std.specs.List.{Contains}
use Rattle.zone_proto.specs.declared.rdata.denial.NSEC3PARAM.{NSEC3PARAM as Nsec3Parameters}
use Rattle.zone_proto.specs.Names.{Name, is_at_or_above, IsAbove, IsAtOrAbove, proper_ancestors, wildcard_under}
use Rattle.zone_proto.specs.Types.{NS, NSEC, NSEC3, DNAME}
use Rattle.zone_proto.proofs.Members.{In-Contains, Contains-In, and_left, and_right, not_true}
use Rattle.zone_proto.proofs.Names.NameTree.{above_test, above_is_less, is_at_or_above_sound, is_at_or_above_complete}
use Rattle.zone_proto.proofs.Names.Tree.{name_order, above_cases}
use Rattle.zone_proto.proofs.Ordering.Orders.{asym}
use Rattle.zone_map.specs.Wildcards.{exists}
use Rattle.zone_map.specs.Zones.{Sets, owns}
use Rattle.zone_denial.specs.Authority.{is_below_cut, owns_besides, is_authoritative}
use Rattle.zone_denial.specs.ChainLaws.{Nsec3ChainEnclosersAgree, Nsec3ChainProvedWildcardIsAsked, Nsec3ChainAbsentWildcardIsDenied}
use Rattle.zone_denial.specs.Chains.{is_below_dname, is_insecure_delegation, may_be_left_out, IsNsec3Chain}
use Rattle.zone_denial.specs.Nsec3Denial.{encloser_on}
use Rattle.zone_denial.specs.WildcardLaws.{OwnsNone}
use Rattle.zone_denial.proofs.Chain.NsecAskedWildcard.{other_type, plain_type, absent_wildcard}
use Rattle.zone_denial.proofs.Chain.NsecBelow.{above_through}
use Rattle.zone_denial.proofs.Chains.NsecBelow.{IsOpen, open_above, first_below}
use Rattle.zone_denial.proofs.Chains.Nsec3Names.{is_named, named_in, in_named, origin_in}
use Rattle.zone_denial.proofs.Chains.Nsec3Wildcard.{proves_wildcard}
use Rattle.zone_denial.proofs.Names.AuthoritativeNames.{authoritative_from, besides_from, from_besides}
use Rattle.zone_denial.proofs.Names.ExistingAncestors.{exists_from, from_exists, unowned_absent, asked_is}
use Rattle.zone_denial.proofs.Names.LongestAncestors.{IsLongestAbove, longest_above, others_above}

module _ (origin : Name) (beside m : Sets) (hash : Name → Option (List ℕ)) (parameters : Nsec3Parameters) (names : List Name) (h : IsNsec3Chain origin beside m hash parameters names) (none : OwnsNone m NSEC) where
  -- ---- a name of the chain exists

  besides_exists : (a b : Name) → owns_besides m NSEC3 b ≡ true → IsAtOrAbove a b → exists m a ≡ true
  besides_exists a b k u =
      let t = from_besides m NSEC3 b k in
      exists_from m a b t.0 t.2 (λ i. other_type m b t.0 NSEC none t.2 i || not_true (t.0 == NSEC3) t.1 i) u

  pub named_exists : (a : Name) → Contains names a → exists m a ≡ true
  named_exists a on =
      let r = (h.authoritative a on).1 in
      besides_exists a r.0 (and_left (owns_besides m NSEC3 r.0) (not (is_below_cut origin m r.0)) (and_right (is_at_or_above origin r.0) (owns_besides m NSEC3 r.0 && not (is_below_cut origin m r.0)) r.1)) r.2

  -- ---- and without opt-out a name that exists is one of the chain, where nothing refers elsewhere at it or above it

  first_authoritative : (e : Name) → IsAtOrAbove origin e → IsOpen origin m e → exists m e ≡ true → (z : Name) × (is_authoritative origin m NSEC3 z ≡ true) × (is_below_dname m z ≡ false) × IsAtOrAbove e z
  first_authoritative e inside open_at k =
      let r = from_exists m e k in
      let z = first_below origin m besides cuts dnames e open_at r.0 r.1 r.2 r.4 (besides_from m NSEC3 r.0 r.1 (plain_type r.1 r.3).1 r.2) in (
        z.0,
        authoritative_from origin m NSEC3 z.0 (is_at_or_above_complete origin z.0 (above_through origin e z.0 inside z.1.under)) z.1.passes z.1.uncut,
        z.1.plain,
        z.1.under,
      )
    where
      besides : Name → Bool
      besides n = owns_besides m NSEC3 n

      cuts : (a : Name) → owns m a NS ≡ true → besides a ≡ true
      cuts a k = besides_from m NSEC3 a NS refl k

      dnames : (a : Name) → owns m a DNAME ≡ true → besides a ≡ true
      dnames a k = besides_from m NSEC3 a DNAME refl k

  module _ (all_in : parameters.opt_out ≡ false) where
    pub exists_named : (e : Name) → IsAtOrAbove origin e → IsOpen origin m e → exists m e ≡ true → Contains names e
    exists_named e inside open_at k =
        let z = first_authoritative e inside open_at k in
        h.between z.0 e (by z.0 z.2 (h.complete z.0 z.1)) inside z.3
      where
        by : (z : Name) → is_below_dname m z ≡ false → Contains names z ⊎ (may_be_left_out origin m parameters.opt_out z ≡ true) → Contains names z
        by z plain (inl on) = on
        by z plain (inr left) = absurd (true≢false (sym left ∙ (λ i. plain i || (all_in i && is_insecure_delegation origin m z))))

    -- so it is there exactly where it is named
    pub exists_as_named : (e : Name) → IsAtOrAbove origin e → IsOpen origin m e → exists m e ≡ is_named names e
    exists_as_named e inside open_at =
        both_ways (exists m e) (is_named names e) (λ k. in_named names e (Contains-In e names (exists_named e inside open_at k))) (λ k. named_exists e (In-Contains e names (named_in names e k)))

    -- ---- enclosers

    origin_there : exists m origin ≡ true
    origin_there = named_exists origin h.begins

    module _ (x : Name) (u : IsAbove origin x) (uncut : is_below_cut origin m x ≡ false) (plain : is_below_dname m x ≡ false) where
      pub there : (e : Name) × IsLongestAbove (exists m) x e
      there = longest_above (exists m) x origin u origin_there

      pub encloser : (a : Name) × IsLongestAbove (is_named names) x a
      encloser = longest_above (is_named names) x origin u (in_named names origin (origin_in names origin h.begins))

      same_encloser : encloser.0 ≡ there.0
      same_encloser = by (above_cases a e down) (above_cases e a up)
        where
          a : Name
          a = encloser.0

          e : Name
          e = there.0

          down : IsAtOrAbove a e
          down = others_above (exists m) x e a there.1 encloser.1.above (named_exists a (In-Contains a names (named_in names a encloser.1.passes)))

          inside : IsAtOrAbove origin e
          inside = others_above (exists m) x e origin there.1 u origin_there

          up : IsAtOrAbove e a
          up =
              others_above (is_named names) x a e encloser.1 there.1.above
              (in_named names e (Contains-In e names (exists_named e inside (open_above origin m x uncut plain e there.1.above) there.1.passes)))

          by : (a ≡ e) ⊎ IsAbove a e → (e ≡ a) ⊎ IsAbove e a → a ≡ e
          by (inl q) w = q
          by (inr v) (inl q) = sym q
          by (inr v) (inr w) = absurd (asym name_order a e (above_is_less a e v) (above_is_less e a w))

      pub agree : find (exists m) (proper_ancestors x) ≡ encloser_on names x
      agree = there.1.found ∙ ap Some (sym same_encloser) ∙ sym encloser.1.found

pub enclosers_agree : Nsec3ChainEnclosersAgree
enclosers_agree origin beside m hash parameters names h all_in none x below uncut plain = agree origin beside m hash parameters names h none all_in x ((above_test origin x).0 below) uncut plain

pub proved_wildcard_is_asked : Nsec3ChainProvedWildcardIsAsked
proved_wildcard_is_asked origin beside m hash parameters names h all_in none x below uncut plain wildcard_name absent a is =
    asked_is m origin x ((above_test origin x).0 below) wildcard_name absent ∙ ap (option_map wildcard_under) (enclosers_agree origin beside m hash parameters names h all_in none x below uncut plain ∙ is)

pub absent_wildcard_is_denied : Nsec3ChainAbsentWildcardIsDenied
absent_wildcard_is_denied origin beside m hash parameters names h below_root all_in none x inside uncut plain apart not_wildcard unowned gone =
    let r = proves_wildcard origin beside m hash parameters names h below_root x inside apart off in
    let cover = r.2.wildcard_name.off (wildcard_off r.2.encloser r.2.is_encloser) in
    record { answer = r.0; denial = r.1; encloser = r.2.encloser; is_encloser = r.2.is_encloser; off = wildcard_off r.2.encloser r.2.is_encloser; cover = cover.0; covers = cover.1; has_cover = cover.2 }
  where
    off : Contains names x → ⊥
    off i = true≢false (sym (named_exists origin beside m hash parameters names h none x i) ∙ unowned_absent m x unowned)

    below : IsAbove origin x
    below = by (above_cases origin x (is_at_or_above_sound origin x inside))
      where
        by : (origin ≡ x) ⊎ IsAbove origin x → IsAbove origin x
        by (inl e) = absurd (off (subst (Contains names) e h.begins))
        by (inr w) = w

    wildcard_off : (a : Name) → encloser_on names x ≡ Some a → Contains names (wildcard_under a) → ⊥
    wildcard_off a is i =
        let t = there origin beside m hash parameters names h none all_in x below uncut plain in
        let same : t.0 ≡ a = same_value t.0 a (sym t.1.found ∙ agree origin beside m hash parameters names h none all_in x below uncut plain ∙ is) in
        true≢false
        (sym (named_exists origin beside m hash parameters names h none (wildcard_under a) i)
        ∙ ap (λ n. exists m (wildcard_under n)) (sym same)
        ∙ absent_wildcard m origin x t.0 below not_wildcard unowned gone t.1.found)
      where
        same_value : (a b : Name) → Some a ≡ Some b → a ≡ b
        same_value a b e = cc

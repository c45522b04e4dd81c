-- How the names of a chain of NSEC3 sets and the names that exist go together, with opt-out and without
use Rattle.std.proofs.Common.{◌≡◌, ℕ, Bool, true, false, not, ◌&&◌, ◌||◌, List, refl, sym, ◌∙◌, true≢false, ◌⊎◌, inl, inr}
use Rattle.std.specs.Prelude.{Option, Some, ◌==◌}
use Rattle.std.specs.List.{Contains}
use Rattle.zone_proto.specs.declared.rdata.denial.NSEC3PARAM.{NSEC3PARAM as Nsec3Parameters}
use Rattle.zone_proto.specs.Names.{Name, is_above, IsAtOrAbove, IsAbove, wildcard_under}
use Rattle.zone_proto.specs.Types.{NS, NSEC, NSEC3, DNAME}
use Rattle.zone_proto.proofs.Members.{In, In-Contains, Contains-In, In-from_any, any_from_In, and_left, and_right}
use Rattle.zone_proto.proofs.Names.NameTree.{above_test, is_at_or_above_complete}
use Rattle.zone_map.specs.Wildcards.{exists, closest_encloser as found_encloser}
use Rattle.zone_map.specs.Zones.{Sets, owns, owners}
use Rattle.zone_map.proofs.Owned.{owner_owned}
use Rattle.zone_denial.specs.Authority.{is_below_cut, owns_besides}
use Rattle.zone_denial.specs.Chains.{is_below_dname, is_insecure_delegation, may_be_left_out, IsNsec3Chain}
use Rattle.zone_denial.specs.Nsec3Denial.{encloser_on}
use Rattle.zone_denial.specs.WildcardLaws.{OwnsNone}
use Rattle.zone_denial.proofs.Chains.NsecBelow.{open_itself}
use Rattle.zone_denial.proofs.Chains.Nsec3AskedWildcard.{named_exists, exists_named, enclosers_agree}
use Rattle.zone_denial.proofs.Chains.Nsec3Names.{is_named, named_in, in_named, origin_in}
use Rattle.zone_denial.proofs.Names.AuthoritativeNames.{authoritative_from, besides_from}
use Rattle.zone_denial.proofs.Names.LongestAncestors.{IsLongestAbove, longest_is, others_above, above_above}
use Rattle.denial_laws.proofs.ShownEnclosers.{above_wildcard}
use Rattle.denial_laws.proofs.Tests.{refuted}

-- ---- no cut above, and no DNAME

-- no cut is above a name whose ancestors are ancestors of such a name
pub uncut_under : (origin : Name) (m : Sets) (x y : Name) → is_below_cut origin m x ≡ false → ((c : Name) → IsAbove c y → IsAbove c x) → is_below_cut origin m y ≡ false
uncut_under origin m x y uncut up = refuted (is_below_cut origin m y) by
  where
    by : is_below_cut origin m y ≡ true → ⊥
    by e =
        let c = In-from_any (λ a. is_above origin a && is_above a y) (owners m NS) e in
        let over = and_left (is_above origin c.0) (is_above c.0 y) c.2 in
        let under = (above_test c.0 x).1 (up c.0 ((above_test c.0 y).0 (and_right (is_above origin c.0) (is_above c.0 y) c.2))) in
        true≢false (sym (any_from_In (λ a. is_above origin a && is_above a x) c.0 (owners m NS) c.1 (λ i. over i && under i)) ∙ uncut)

above_wildcard_above : (x a c : Name) → IsAbove a x → IsAbove c (wildcard_under a) → IsAbove c x
above_wildcard_above x a c u v = above_above c a x (above_wildcard c a v) u

pub uncut_wildcard : (origin : Name) (m : Sets) (x a : Name) → is_below_cut origin m x ≡ false → IsAbove a x → is_below_cut origin m (wildcard_under a) ≡ false
uncut_wildcard origin m x a uncut u = uncut_under origin m x (wildcard_under a) uncut (λ c v. above_wildcard_above x a c u v)

-- nor a DNAME
pub plain_under : (m : Sets) (y : Name) → ((a : Name) → IsAbove a y → owns m a DNAME ≡ false) → is_below_dname m y ≡ false
plain_under m y none = refuted (is_below_dname m y) by
  where
    by : is_below_dname m y ≡ true → ⊥
    by e =
        let r = In-from_any (λ a. is_above a y) (owners m DNAME) e in
        true≢false (sym (owner_owned m r.0 DNAME r.1) ∙ none r.0 ((above_test r.0 y).0 r.2))

pub plain_wildcard : (m : Sets) (x a : Name) → ((a : Name) → IsAbove a x → owns m a DNAME ≡ false) → IsAbove a x → is_below_dname m (wildcard_under a) ≡ false
plain_wildcard m x a none u = plain_under m (wildcard_under a) (λ c v. none c (above_wildcard_above x a c u v))

-- ---- the names of the chain

module _ (origin : Name) (beside m : Sets) (hash : Name → Option (List ℕ)) (parameters : Nsec3Parameters) (names : List Name) (h : IsNsec3Chain origin beside m hash parameters names) (none : OwnsNone m NSEC) where
  pub origin_there : exists m origin ≡ true
  origin_there = named_exists origin beside m hash parameters names h none origin h.begins

  named_there : (a : Name) → In a names → exists m a ≡ true
  named_there a i = named_exists origin beside m hash parameters names h none a (In-Contains a names i)

  pub absent_off : (a : Name) → exists m a ≡ false → is_named names a ≡ false
  absent_off a e = refuted (is_named names a) (λ k. true≢false (sym (named_there a (named_in names a k)) ∙ e))

  -- without opt-out a name that exists is one of them, where neither a zone cut nor a DNAME is above it
  pub there_named : parameters.opt_out ≡ false → (n : Name) → IsAtOrAbove origin n → is_below_cut origin m n ≡ false → is_below_dname m n ≡ false → exists m n ≡ true → is_named names n ≡ true
  there_named all_in n u uncut plain k = in_named names n (Contains-In n names (by (owns_besides m NSEC3 n) refl))
    where
      left_in : Contains names n ⊎ (may_be_left_out origin m parameters.opt_out n ≡ true) → Contains names n
      left_in (inl c) = c
      left_in (inr e) = absurd (true≢false (sym e ∙ (λ i. plain i || (all_in i && is_insecure_delegation origin m n))))

      by : (b : Bool) → owns_besides m NSEC3 n ≡ b → Contains names n
      by true e = left_in (h.complete n (authoritative_from origin m NSEC3 n (is_at_or_above_complete origin n u) e uncut))
      by false e = exists_named origin beside m hash parameters names h none all_in n u (open_itself origin m n uncut plain (unowned NS refl) (unowned DNAME refl)) k
        where
          unowned : (t : ℕ) → not (t == NSEC3) ≡ true → owns m n t ≡ false
          unowned t o = refuted (owns m n t) (λ q. true≢false (sym (besides_from m NSEC3 n t o q) ∙ e))

  -- ---- the closest encloser

  module _ (x : Name) (over : IsAbove origin x) (a : Name) (is : encloser_on names x ≡ Some a) where
    longest : IsLongestAbove (is_named names) x a
    longest = longest_is (is_named names) x a is

    pub encloser_in : IsAtOrAbove origin a
    encloser_in = others_above (is_named names) x a origin longest over (in_named names origin (origin_in names origin h.begins))

    pub encloser_above : IsAbove a x
    encloser_above = longest.above

    module _ (e : Name) (there : found_encloser m x ≡ Some e) where
      existing : IsLongestAbove (exists m) x e
      existing = longest_is (exists m) x e there

      pub existing_above : IsAbove e x
      existing_above = existing.above

      -- is that which exists, or above it
      pub encloser_over : IsAtOrAbove a e
      encloser_over = others_above (exists m) x e a existing longest.above (named_there a (named_in names a longest.passes))

      -- is that which exists without opt-out
      pub encloser_agrees : parameters.opt_out ≡ false → is_below_cut origin m x ≡ false → is_below_dname m x ≡ false → a ≡ e
      encloser_agrees all_in uncut plain = same_found a e (sym is ∙ sym (enclosers_agree origin beside m hash parameters names h all_in none x ((above_test origin x).1 over) uncut plain) ∙ there)
        where
          same_found : (a b : Name) → Some a ≡ Some b → a ≡ b
          same_found a b e = cc

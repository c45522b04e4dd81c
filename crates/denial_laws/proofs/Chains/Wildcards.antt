-- Which wildcard is asked for a name in scope
use Rattle.std.proofs.Common.{◌≡◌, Bool, true, false, refl, sym, ap, ◌∙◌, true≢false, IsFalse}
use Rattle.std.specs.Prelude.{Option, Some, None}
use Rattle.std.specs.Option.{option_map_or}
use Rattle.zone_proto.specs.Names.{Name, is_above, IsAbove, wildcard_under, is_wildcard}
use Rattle.zone_proto.proofs.Members.{In-from_any}
use Rattle.zone_proto.proofs.Names.NameTree.{above_test}
use Rattle.zone_map.specs.SearchLaws.{WildcardIsOfClosestEncloser}
use Rattle.zone_map.specs.Wildcards.{exists, asked_wildcard, asked_wildcard_exists}
use Rattle.zone_map.specs.Zones.{Sets, owners, owns_at_or_below}
use Rattle.zone_map.proofs.Owned.{owner_owned}
use Rattle.zone_map.proofs.Wildcards.{wildcard_is_of_closest_encloser}
use Rattle.zone_denial.specs.Chains.{is_below_dname}
use Rattle.zone_denial.specs.NsecDenial.{nsec_encloser}
use Rattle.zone_denial.proofs.Chains.NsecAskedWildcard.{exists_is, proved_wildcard_is_asked}
use Rattle.zone_denial.proofs.Names.ExistingAncestors.{unowned_absent}
use Rattle.zone_proto.specs.Types.{DNAME}
use Rattle.denial_laws.specs.Chains.{IsInScopeOfChain}

-- above a name in scope no DNAME stands
pub undnamed : (origin : Name) (m : Sets) (x : Name) → IsInScopeOfChain origin m x → is_below_dname m x ≡ false
undnamed origin m x j = by (is_below_dname m x) refl
  where
    by : (b : Bool) → is_below_dname m x ≡ b → b ≡ false
    by false e = refl
    by true e =
        let r = In-from_any (λ a. is_above a x) (owners m DNAME) e in
        absurd (true≢false (sym (owner_owned m r.0 DNAME r.1) ∙ j.no_dname r.0 ((above_test r.0 x).0 r.2)))

module _ (origin : Name) (m : Sets) (x : Name) (j : IsInScopeOfChain origin m x) (over : IsAbove origin x) where
  -- whatever wildcard is asked is under the encloser of the denial, and x doesn't exist
  pub asked_only : (w : Name) → asked_wildcard m x ≡ Some w → (w ≡ wildcard_under (nsec_encloser origin m x)) × (exists m x ≡ false)
  asked_only w e =
      let law : WildcardIsOfClosestEncloser = wildcard_is_of_closest_encloser in
      let absent = law.absent m x w e in
      (same_value w (wildcard_under (nsec_encloser origin m x)) (sym e ∙ proved_wildcard_is_asked origin m j.zone j.one_kind x ((above_test origin x).1 over) j.uncut (undnamed origin m x j) (law.plain m x w e) absent), absent)
    where
      same_value : (a b : Name) → Some a ≡ Some b → a ≡ b
      same_value a b e = cc

  -- so no wildcard exists where that one doesn't
  pub no_wildcard_name : owns_at_or_below m (wildcard_under (nsec_encloser origin m x)) ≡ false → asked_wildcard_exists m x ≡ false
  no_wildcard_name none = by (asked_wildcard m x) refl
    where
      by : (o : Option Name) → asked_wildcard m x ≡ o → option_map_or (exists m) o false ≡ false
      by None e = refl
      by (Some w) e = ap (exists m) (asked_only w e).0 ∙ exists_is origin m j.zone j.one_kind (wildcard_under (nsec_encloser origin m x)) ∙ none

  -- and where one exists, it is that one
  pub wildcard_there : asked_wildcard_exists m x ≡ true → (asked_wildcard m x ≡ Some (wildcard_under (nsec_encloser origin m x))) × (owns_at_or_below m (wildcard_under (nsec_encloser origin m x)) ≡ true)
  wildcard_there s = by (asked_wildcard m x) refl s
    where
      wildcard_name : Name
      wildcard_name = wildcard_under (nsec_encloser origin m x)

      by : (o : Option Name) → asked_wildcard m x ≡ o → option_map_or (exists m) o false ≡ true → (asked_wildcard m x ≡ Some wildcard_name) × (owns_at_or_below m wildcard_name ≡ true)
      by None e p = absurd (true≢false (sym p))
      by (Some w) e p = let q = (asked_only w e).0 in (e ∙ ap Some q, sym (exists_is origin m j.zone j.one_kind wildcard_name) ∙ ap (exists m) (sym q) ∙ p)

  -- of a plain name it is the one that is asked
  pub wildcard_gone : IsFalse (is_wildcard x) → owns_at_or_below m x ≡ false → asked_wildcard_exists m x ≡ false → owns_at_or_below m (wildcard_under (nsec_encloser origin m x)) ≡ false
  wildcard_gone plain none gone =
      sym (exists_is origin m j.zone j.one_kind (wildcard_under (nsec_encloser origin m x)))
      ∙ sym (ap (λ p. option_map_or (exists m) p false) (proved_wildcard_is_asked origin m j.zone j.one_kind x ((above_test origin x).1 over) j.uncut (undnamed origin m x j) plain (unowned_absent m x none)))
      ∙ gone

-- The closest encloser of a name of the zone that isn't among the names of a chain of NSEC3 sets, and the next closer name
use Rattle.std.proofs.Common.{◌≡◌, ◌≢◌, suc, Bool, true, false, List, [], ◌∷◌, length, refl, sym, ◌∙◌, subst, true≢false, ◌⊎◌, inl, inr, arith}
use Rattle.std.specs.Prelude.{Some}
use Rattle.std.specs.List.{list_any, Contains}
use Rattle.zone_proto.specs.Names.{Name, name_eq, is_at_or_above, IsAtOrAbove, IsAbove}
use Rattle.zone_proto.proofs.Members.{In, In-Contains, Contains-In, In-from_any, any_from_In}
use Rattle.zone_proto.proofs.Names.NameTree.{name_eq-Decides, is_at_or_above_sound}
use Rattle.zone_proto.proofs.Names.Tree.{name_eq_itself, above_cases}
use Rattle.zone_denial.specs.Nsec3Denial.{encloser_on, next_closer}
use Rattle.zone_denial.proofs.Chain.NsecBelow.{above_at}
use Rattle.zone_denial.proofs.Hashed.Nsec3Enclosers.{next_closer_is, below_ancestor}
use Rattle.zone_denial.proofs.Names.LongestAncestors.{IsLongestAbove, longest_above}

module _ (names : List Name) where
  abbrev pub is_named : Name → Bool
  is_named n = list_any (name_eq n) names

  pub named_in : (n : Name) → is_named n ≡ true → In n names
  named_in n h = let r = In-from_any (name_eq n) names h in subst (λ w. In w names) (sym ((name_eq-Decides n r.0).0 r.2)) r.1

  pub in_named : (n : Name) → In n names → is_named n ≡ true
  in_named n i = any_from_In (name_eq n) n names i (name_eq_itself n)

  pub unnamed : (n : Name) → (In n names → ⊥) → is_named n ≡ false
  unnamed n off = by (is_named n) refl
    where
      by : (b : Bool) → is_named n ≡ b → b ≡ false
      by true e = absurd (off (named_in n e))
      by false e = refl

  -- the closest encloser of x, and the next closer name
  pub record IsEnclosed (x a c : Name) : Type 0 where
    pub is_encloser : encloser_on names x ≡ Some a
    pub on : In a names
    pub above : IsAtOrAbove a x
    pub is_closer : next_closer x a ≡ Some c
    pub closer_at : IsAtOrAbove c x
    pub closer_below : IsAtOrAbove a c
    pub off : In c names → ⊥

  module _ (origin : Name) (begins : Contains names origin) where
    pub origin_in : In origin names
    origin_in = Contains-In origin names begins

    pub root_off : origin ≢ [] → ((n : Name) → Contains names n → IsAtOrAbove origin n) → is_named [] ≡ false
    root_off below_root inside = unnamed [] (λ i. none (inside [] (In-Contains [] names i)))
      where
        none : IsAtOrAbove origin [] → ⊥
        none ([], e) = below_root (sym e)
        none (l ∷ f, e) = absurd cc

    pub enclosed_off : (x : Name) → is_at_or_above origin x ≡ true → (In x names → ⊥) → (a : Name) × (c : Name) × IsEnclosed x a c
    enclosed_off x inside off =
        let r = longest_above is_named x origin (below (above_cases origin x (is_at_or_above_sound origin x inside))) (in_named origin origin_in) in
        let k = next_closer_is x r.0 r.1.above in (
          r.0,
          k.0,
          record {
            is_encloser = r.1.found;
            on = named_in r.0 r.1.passes;
            above = above_at r.0 x r.1.above;
            is_closer = k.1;
            closer_at = k.2;
            closer_below = below_ancestor x r.0 k.0 r.1.above k.2 k.3;
            off = λ i. longer_off r.0 k.0 r.1 k.3 i (above_cases k.0 x k.2);
          },
        )
      where
        below : (origin ≡ x) ⊎ IsAbove origin x → IsAbove origin x
        below (inl e) = absurd (off (subst (λ w. In w names) e origin_in))
        below (inr above) = above

        longer_off : (a c : Name) → IsLongestAbove is_named x a → length c ≡ suc (length a) → In c names → (c ≡ x) ⊎ IsAbove c x → ⊥
        longer_off a c h k i (inl e) = off (subst (λ w. In w names) e i)
        longer_off a c h k i (inr u) = true≢false (sym (in_named c i) ∙ h.longest c u (omega (arith, k)))

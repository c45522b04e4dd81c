-- The closest encloser of a name of the zone that isn't on the circle of NSEC3 sets, and the next closer name
use Rattle.std.proofs.Common.{◌≡◌, ◌≢◌, suc, Bool, true, false, cond, not, List, [], ◌∷◌, ◌++◌, length, refl, sym, ap, ◌∙◌, subst, true≢false, ◌⊎◌, inl, inr, arith, eqb-true, eq-eqb, ◌==◌}
use Rattle.std.specs.Prelude.{Option, Some, None, Result, Ok, find, filter}
use Rattle.std.specs.List.{list_any}
use Rattle.std.proofs.lemmas.List.{length-append}
use Rattle.zone_proto.specs.Names.{Name, Label, name_eq, is_root, is_at_or_above, suffixes, IsAtOrAbove, IsAbove, proper_ancestors}
use Rattle.zone_proto.proofs.Members.{In, Contains-In, In-Contains, In-from_any, any_from_In}
use Rattle.zone_proto.proofs.Names.NameTree.{name_eq-Decides, is_at_or_above_sound}
use Rattle.zone_proto.proofs.Names.Tree.{name_eq_itself, above_cases}
use Rattle.zone_map.specs.Zones.{Sets}
use Rattle.zone_map.proofs.Delegations.{found_above, none_found}
use Rattle.zone_denial.specs.Nsec3Denial.{closest_encloser, next_closer, find_tested, result_and_then}
use Rattle.zone_denial.specs.Nsec3Names.{nsec3_names, IsNsec3Name}
use Rattle.zone_denial.proofs.Hashed.Nsec3NameLaws.{names_are_exact}
use Rattle.zone_denial.proofs.Names.LongestAncestors.{IsLongestAbove, longest_above}
use Rattle.zone_denial.proofs.Chain.NsecBelow.{above_at, comparable}

-- ---- the name one label longer than an ancestor

one_longer : (l : Label) (f a : Name) → (c : Name) × IsAtOrAbove c ((l ∷ f) ++ a) × (length c ≡ suc (length a))
one_longer l [] a = (l ∷ a, ([], refl), refl)
one_longer l (k ∷ f) a = let r = one_longer k f a in (r.0, (l ∷ r.1.0, ap (λ n. l ∷ n) r.1.1), r.2)

pub next_closer_is : (x a : Name) → IsAbove a x → (c : Name) × (next_closer x a ≡ Some c) × IsAtOrAbove c x × (length c ≡ suc (length a))
next_closer_is x a (l, f, e) = by (next_closer x a) refl
  where
    longer : Name → Bool
    longer s = length s == suc (length a)

    by : (o : Option Name) → next_closer x a ≡ o → (c : Name) × (next_closer x a ≡ Some c) × IsAtOrAbove c x × (length c ≡ suc (length a))
    by None h =
        let c = one_longer l f a in
        absurd (true≢false (sym (eq-eqb (length c.0) (suc (length a)) c.2) ∙ none_found longer x h c.0 (subst (IsAtOrAbove c.0) (sym e) c.1)))
    by (Some c) h =
        let r = found_above longer x c h in
        (c, h, r.0, eqb-true (length c) (suc (length a)) r.1)

-- it is at or below the ancestor
pub below_ancestor : (x a c : Name) → IsAbove a x → IsAtOrAbove c x → length c ≡ suc (length a) → IsAtOrAbove a c
below_ancestor x a c (l, f, e) (g, q) h = by (comparable (l ∷ f) g a c (sym e ∙ q))
  where
    by : IsAtOrAbove a c ⊎ IsAtOrAbove c a → IsAtOrAbove a c
    by (inl r) = r
    by (inr (k, r)) = absurd (omega (arith, h, ap length r ∙ length-append k c))

-- ---- the longest proper ancestor that passes a test

-- a test that may be refused finds it too, where it isn't refused for the names up to there, and the root doesn't pass
module _ {E : Type 0} (test : Name → Result Bool E) (p : Name → Bool) (root : p [] ≡ false) where
  abbrev not_root : Name → Bool
  not_root a = not (is_root a)

  found_by_test : (n a : Name) → find p (suffixes n) ≡ Some a → ((b : Name) → IsAtOrAbove b n → IsAtOrAbove a b → test b ≡ Ok (p b)) → find_tested test (filter not_root (suffixes n)) ≡ Ok (Some a)
  found_by_test [] a e h = absurd (no_value (ap (λ b. cond b (Some []) None) (sym root) ∙ e))
    where
      no_value : ◌≡◌ {A = Option Name} None (Some a) → ⊥
      no_value q = cc
  found_by_test (l ∷ ls) a e h =
      ap (result_and_then (λ passes. cond passes (Ok (Some (l ∷ ls))) (find_tested test (filter not_root (suffixes ls))))) (h (l ∷ ls) ([], refl) (found_above p (l ∷ ls) a e).0)
      ∙ by (p (l ∷ ls)) e (λ q. found_by_test ls a q (λ b u k. h b (l ∷ u.0, ap (λ n. l ∷ n) u.1) k))
    where
      by : (c : Bool) → cond c (Some (l ∷ ls)) (find p (suffixes ls)) ≡ Some a → (find p (suffixes ls) ≡ Some a → find_tested test (filter not_root (suffixes ls)) ≡ Ok (Some a))
          → cond c (Ok (Some (l ∷ ls))) (find_tested test (filter not_root (suffixes ls))) ≡ Ok (Some a)
      by true q ih = let same : ◌≡◌ {A = Name} (l ∷ ls) a = cc in ap (λ (n : Name). Ok (Some n)) same
      by false q ih = ih q

  pub walked : (n a : Name) → find p (proper_ancestors n) ≡ Some a → ((b : Name) → IsAtOrAbove b n → IsAtOrAbove a b → test b ≡ Ok (p b)) → find_tested test (filter not_root (proper_ancestors n)) ≡ Ok (Some a)
  walked [] a e h = absurd cc
  walked (l ∷ ls) a e h = found_by_test ls a e (λ b u k. h b (l ∷ u.0, ap (λ n. l ∷ n) u.1) k)

-- ---- names of the circle

module _ (origin : Name) (m : Sets) (opt_out : Bool) where
  abbrev names : List Name
  names = nsec3_names origin m opt_out

  abbrev pub is_named : Name → Bool
  is_named n = list_any (name_eq n) names

  pub named_in : (n : Name) → is_named n ≡ true → In n names
  named_in n h = let r = In-from_any (name_eq n) names h in subst (λ w. In w names) (sym ((name_eq-Decides n r.0).0 r.2)) r.1

  pub in_named : (n : Name) → In n names → is_named n ≡ true
  in_named n i = any_from_In (name_eq n) n names i (name_eq_itself n)

  pub origin_in : In origin names
  origin_in = Contains-In origin names ((names_are_exact origin m opt_out origin).1 (inl refl))

  pub root_off : origin ≢ [] → is_named [] ≡ false
  root_off below_root = by (is_named []) refl
    where
      above_none : IsNsec3Name origin m opt_out [] → ⊥
      above_none (inl e) = below_root (sym e)
      above_none (inr ((l, f, e), c)) = cc

      by : (b : Bool) → is_named [] ≡ b → b ≡ false
      by true e = absurd (above_none ((names_are_exact origin m opt_out []).0 (In-Contains [] names (named_in [] e))))
      by false e = refl

  -- the closest encloser of x, and the next closer name
  pub record IsEnclosed (x a c : Name) : Type 0 where
    pub is_encloser : closest_encloser origin m opt_out x ≡ Some a
    pub on : In a names
    pub above : IsAtOrAbove a x
    pub is_closer : next_closer x a ≡ Some c
    pub closer_at : IsAtOrAbove c x
    pub closer_below : IsAtOrAbove a c
    pub off : In c names → ⊥

  pub enclosed_off : (x : Name) → is_at_or_above origin x ≡ true → (In x names → ⊥) → (a : Name) × (c : Name) × IsEnclosed x a c
  enclosed_off x inside off =
      let r = longest_above is_named x origin (below (above_cases origin x (is_at_or_above_sound origin x inside))) (in_named origin origin_in) in
      let k = next_closer_is x r.0 r.1.above in (
        r.0,
        k.0,
        record {
          is_encloser = r.1.found;
          on = named_in r.0 r.1.passes;
          above = above_at r.0 x r.1.above;
          is_closer = k.1;
          closer_at = k.2;
          closer_below = below_ancestor x r.0 k.0 r.1.above k.2 k.3;
          off = λ i. longer_off r.0 k.0 r.1 k.3 i (above_cases k.0 x k.2);
        },
      )
    where
      below : (origin ≡ x) ⊎ IsAbove origin x → IsAbove origin x
      below (inl e) = absurd (off (subst (λ w. In w names) e origin_in))
      below (inr above) = above

      longer_off : (a c : Name) → IsLongestAbove is_named x a → length c ≡ suc (length a) → In c names → (c ≡ x) ⊎ IsAbove c x → ⊥
      longer_off a c h k i (inl e) = off (subst (λ w. In w names) e i)
      longer_off a c h k i (inr u) = true≢false (sym (in_named c i) ∙ h.longest c u (omega (arith, k)))

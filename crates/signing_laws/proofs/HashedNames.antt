-- The names of a chain of NSEC3 sets, in a zone whose origin owns NSEC3PARAM
use Rattle.std.proofs.Common.{◌≡◌, ◌≢◌, ℕ, Bool, true, false, not, ◌&&◌, ◌||◌, List, [], ◌∷◌, ◌++◌, length, refl, sym, ap, ◌∙◌, subst, true≢false, ◌⊎◌, inl, inr, arith, eq-eqb, ◌==◌}
use Rattle.std.specs.List.{Contains}
use Rattle.std.proofs.lemmas.List.{length-append}
use Rattle.zone_proto.specs.Names.{Name, name_eq, is_above, is_at_or_above, IsAbove, IsAtOrAbove}
use Rattle.zone_proto.specs.Types.{NS, SOA, DS, NSEC3, NSEC3PARAM}
use Rattle.zone_proto.proofs.Members.{In-Contains, Contains-In, In-filter, In-from_filter, and_left, and_right, not_true}
use Rattle.zone_proto.proofs.Names.NameTree.{name_eq-Decides, above_test, is_at_or_above_sound, is_at_or_above_complete}
use Rattle.zone_proto.proofs.Names.Tree.{above_cases}
use Rattle.zone_map.specs.Zones.{Sets, owns, names_of}
use Rattle.zone_denial.specs.Authority.{is_authoritative, authoritative_names, is_below_cut, owns_besides}
use Rattle.zone_denial.specs.Chains.{is_insecure_delegation, is_below_dname, may_be_left_out}
use Rattle.zone_denial.specs.Nsec3Names.{is_unsigned_delegation, counted_names, nsec3_names, IsNsec3Name}
use Rattle.zone_denial.proofs.Chain.NsecBelow.{above_at, above_through}
use Rattle.zone_denial.proofs.Hashed.Nsec3Enclosers.{origin_in}
use Rattle.zone_denial.proofs.Hashed.Nsec3Lists.{delegation_type}
use Rattle.zone_denial.proofs.Hashed.Nsec3NameLaws.{names_are_exact}
use Rattle.zone_denial.proofs.Names.AuthoritativeNames.{authoritative_from, authoritative_listed, besides_from, from_besides, origin_uncut}

or_true : (b : Bool) → b || true ≡ true
or_true true = refl
or_true false = refl

module _ (origin : Name) (m : Sets) (opt_out : Bool) (announced : owns m origin NSEC3PARAM ≡ true) where
  abbrev names : List Name
  names = nsec3_names origin m opt_out

  pub origin_owns : owns_besides m NSEC3 origin ≡ true
  origin_owns = besides_from m NSEC3 origin NSEC3PARAM refl announced

  named : (n : Name) → IsNsec3Name origin m opt_out n → Contains names n
  named n = (names_are_exact origin m opt_out n).1

  pub begins : Contains names origin
  begins = In-Contains origin names (origin_in origin m opt_out)

  -- no name lies strictly between the origin and itself
  none_between : (a : Name) → IsAbove a origin → IsAbove origin a → ⊥
  none_between a (l, f, p) (k, g, q) = absurd (shorter l f p k g q)
    where
      shorter : (l : List ℕ) (f : Name) → origin ≡ (l ∷ f) ++ a → (k : List ℕ) (g : Name) → a ≡ (k ∷ g) ++ origin → ⊥
      shorter l f p k g q = omega (arith, ap length p, length-append (l ∷ f) a, ap length q, length-append (k ∷ g) origin)

  pub between : (n a : Name) → Contains names n → IsAtOrAbove origin a → IsAtOrAbove a n → Contains names a
  between n a c u v = by ((names_are_exact origin m opt_out n).0 c) (above_cases origin a u)
    where
      at_origin : n ≡ origin → IsAbove origin a → (a ≡ n) ⊎ IsAbove a n → Contains names a
      at_origin e w (inl q) = subst (Contains names) (sym (q ∙ e)) begins
      at_origin e w (inr q) = absurd (none_between a (subst (IsAbove a) e q) w)

      by : IsNsec3Name origin m opt_out n → (origin ≡ a) ⊎ IsAbove origin a → Contains names a
      by n_is (inl e) = subst (Contains names) e begins
      by (inl e) (inr w) = at_origin e w (above_cases a n v)
      by (inr (above, (c, i, at))) (inr w) = named a (inr (w, (c, i, above_through a n c v at)))

  origin_authoritative : is_authoritative origin m NSEC3 origin ≡ true
  origin_authoritative = authoritative_from origin m NSEC3 origin (is_at_or_above_complete origin origin ([], refl)) origin_owns (origin_uncut origin m)

  pub authoritative : (n : Name) → Contains names n → IsAtOrAbove origin n × ((c : Name) × (is_authoritative origin m NSEC3 c ≡ true) × IsAtOrAbove n c)
  authoritative n k = by ((names_are_exact origin m opt_out n).0 k)
    where
      by : IsNsec3Name origin m opt_out n → IsAtOrAbove origin n × ((c : Name) × (is_authoritative origin m NSEC3 c ≡ true) × IsAtOrAbove n c)
      by (inl e) = (([], e), (origin, origin_authoritative, ([], sym e)))
      by (inr (above, (c, i, at))) =
          let test = λ (n : Name). not (opt_out && (not (name_eq n origin) && is_unsigned_delegation m n)) in
          let among = (In-from_filter test c (authoritative_names origin m NSEC3) (Contains-In c (counted_names origin m opt_out) i)).0 in
          (above_at origin n above, (c, (In-from_filter (is_authoritative origin m NSEC3) c (names_of m) among).1, at))

  -- what opt-out leaves out is a delegation without DS
  left_out : (n : Name) → is_authoritative origin m NSEC3 n ≡ true → name_eq n origin ≡ false → is_unsigned_delegation m n ≡ true → is_insecure_delegation origin m n ≡ true
  left_out n a other un = λ i. (below i && (ns i && not (soa i))) && not (ds i)
    where
      rest : owns_besides m NSEC3 n && not (is_below_cut origin m n) ≡ true
      rest = and_right (is_at_or_above origin n) (owns_besides m NSEC3 n && not (is_below_cut origin m n)) a

      inside : IsAtOrAbove origin n
      inside = is_at_or_above_sound origin n (and_left (is_at_or_above origin n) (owns_besides m NSEC3 n && not (is_below_cut origin m n)) a)

      below : is_above origin n ≡ true
      below = by (above_cases origin n inside)
        where
          by : (origin ≡ n) ⊎ IsAbove origin n → is_above origin n ≡ true
          by (inl e) = absurd (true≢false (sym ((name_eq-Decides n origin).1 (sym e)) ∙ other))
          by (inr w) = (above_test origin n).1 w

      some : (t : ℕ) × (not (t == NSEC3) ≡ true) × (owns m n t ≡ true)
      some = from_besides m NSEC3 n (and_left (owns_besides m NSEC3 n) (not (is_below_cut origin m n)) rest)

      not_hashed : (t : ℕ) → not (t == NSEC3) ≡ true → t ≢ NSEC3
      not_hashed t p e = true≢false (sym (eq-eqb t NSEC3 e) ∙ not_true (t == NSEC3) p)

      ns : owns m n NS ≡ true
      ns = ap (owns m n) (sym (delegation_type m n some.0 (not_hashed some.0 some.1) some.2 un)) ∙ some.2

      unowned : (t : ℕ) → t ≢ NSEC3 → t ≢ NS → owns m n t ≡ false
      unowned t p q = by (owns m n t) refl
        where
          by : (b : Bool) → owns m n t ≡ b → b ≡ false
          by false e = refl
          by true e = absurd (q (delegation_type m n t p e un))

      soa : owns m n SOA ≡ false
      soa = unowned SOA (λ e. omega (arith, e)) (λ e. omega (arith, e))

      ds : owns m n DS ≡ false
      ds = unowned DS (λ e. omega (arith, e)) (λ e. omega (arith, e))

  pub complete : (n : Name) → is_authoritative origin m NSEC3 n ≡ true → Contains names n ⊎ (may_be_left_out origin m opt_out n ≡ true)
  complete n a = by opt_out (name_eq n origin) (is_unsigned_delegation m n) refl refl refl
    where
      inside : IsAtOrAbove origin n
      inside = is_at_or_above_sound origin n (and_left (is_at_or_above origin n) (owns_besides m NSEC3 n && not (is_below_cut origin m n)) a)

      counted : not (opt_out && (not (name_eq n origin) && is_unsigned_delegation m n)) ≡ true → Contains names n
      counted p = of (above_cases origin n inside)
        where
          of : (origin ≡ n) ⊎ IsAbove origin n → Contains names n
          of (inl e) = subst (Contains names) e begins
          of (inr w) =
              named n
              (inr (
                w,
                (
                  n,
                  In-Contains n (counted_names origin m opt_out)
                      (In-filter (λ (n : Name). not (opt_out && (not (name_eq n origin) && is_unsigned_delegation m n))) n (authoritative_names origin m NSEC3) (authoritative_listed origin m NSEC3 n a) p),
                  ([], refl),
                ),
              ))

      by : (o e u : Bool) → opt_out ≡ o → name_eq n origin ≡ e → is_unsigned_delegation m n ≡ u → Contains names n ⊎ (may_be_left_out origin m opt_out n ≡ true)
      by false e u p q r = inl (counted (ap (λ b. not (b && (not (name_eq n origin) && is_unsigned_delegation m n))) p))
      by true true u p q r = inl (counted (λ i. not (p i && (not (q i) && is_unsigned_delegation m n))))
      by true false false p q r = inl (counted (λ i. not (p i && (not (q i) && r i))))
      by true false true p q r = inr ((λ i. is_below_dname m n || (p i && left_out n a q r i)) ∙ or_true (is_below_dname m n))

-- What a lookup finds at a name that nothing refers elsewhere: what the name owns, or what its wildcard does
use Rattle.std.proofs.Common.{◌≡◌, ℕ, Bool, true, false, cond, not, ◌&&◌, ◌||◌, List, [], ◌∷◌, drop, refl, sym, ap, ◌∙◌, subst, true≢false, ◌⊎◌, inl, inr, eqb-true}
use Rattle.std.specs.Prelude.{Option, Some, None, filter, is_some, option_map, option_and_then, ◌==◌}
use Rattle.std.specs.Option.{option_or}
use Rattle.std.specs.Ordering.{nat_cmp}
use Rattle.zone_proto.specs.Names.{Name, name_eq, is_root, is_wildcard, is_at_or_above, wildcard_under, IsAtOrAbove, IsAbove}
use Rattle.zone_proto.specs.Order.{least}
use Rattle.zone_proto.specs.Sets.{RRset}
use Rattle.zone_proto.specs.Types.{A, NS, CNAME, SOA, AAAA, DS, ANAME}
use Rattle.zone_proto.proofs.Members.{and_left, and_right}
use Rattle.zone_proto.proofs.Names.NameTree.{is_at_or_above_sound, is_at_or_above_complete}
use Rattle.zone_proto.proofs.Names.Tree.{above_cases}
use Rattle.zone_map.specs.Direct.{is_delegated, is_delegated_for, nearest_delegation, referral_at, referral, is_address, exact, direct}
use Rattle.zone_map.specs.Upserts.{is_denial_type, CnamesStandAlone}
use Rattle.zone_map.specs.Wildcards.{exists, closest_encloser, asked_wildcard, renamed, wildcard, found}
use Rattle.zone_map.specs.Zones.{Sets, set_at, owns}
use Rattle.zone_map.proofs.Delegations.{found_above}
use Rattle.zone_map.proofs.ExistingNames.{owner_exists}
use Rattle.zone_map.proofs.Wildcards.{wildcard_is_of_closest_encloser}
use Rattle.zone_denial.proofs.Chain.NsecBelow.{above_at, above_through}

-- where what is delegated at a name or above it owns SOA, nothing refers the name
pub no_referral : (m : Sets) (n : Name) (t : ℕ) → ((a : Name) → IsAtOrAbove a n → is_delegated_for m n t a ≡ true → owns m a SOA ≡ true) → referral m n t ≡ None
no_referral m n t h = by (nearest_delegation m n t) refl
  where
    by : (o : Option Name) → nearest_delegation m n t ≡ o → referral_at m o ≡ None
    by None e = refl
    by (Some a) e = let f = found_above (is_delegated_for m n t) n a e in ap (λ b. cond b None (set_at m a NS)) (h a f.0 f.1)

-- ---- what a name owns

-- of an address type and ANAME the address type is the less
first_of_addresses : (t : ℕ) → is_address t ≡ true → least nat_cmp (t ∷ ANAME ∷ []) ≡ Some t
first_of_addresses t h = by (t == A) refl (t == AAAA) refl h
  where
    by : (b : Bool) → (t == A) ≡ b → (c : Bool) → (t == AAAA) ≡ c → b || c ≡ true → least nat_cmp (t ∷ ANAME ∷ []) ≡ Some t
    by true e c f h = subst (λ u. least nat_cmp (u ∷ ANAME ∷ []) ≡ Some u) (sym (eqb-true t A e)) refl
    by false e true f h = subst (λ u. least nat_cmp (u ∷ ANAME ∷ []) ≡ Some u) (sym (eqb-true t AAAA f)) refl
    by false e false f h = absurd (true≢false (sym h))

unowned : (o : Option RRset) → o ≡ None → is_some o ≡ false
unowned o e = ap is_some e

module _ (m : Sets) (n : Name) where
  abbrev from : List ℕ → Option RRset
  from ts = option_and_then (set_at m n) (least nat_cmp ts)

  -- the types that answer, of which the name owns these or not
  abbrev of_types : Bool → Bool → Bool → Bool → ℕ → List ℕ
  of_types address own alias aname t =
      cond address
      (cond own (t ∷ cond alias (CNAME ∷ cond aname (ANAME ∷ []) []) (cond aname (ANAME ∷ []) [])) (cond alias (CNAME ∷ cond aname (ANAME ∷ []) []) (cond aname (ANAME ∷ []) [])))
      (cond own (t ∷ cond alias (CNAME ∷ []) []) (cond alias (CNAME ∷ []) []))

  exact_is : (t : ℕ) → exact m n t ≡ from (of_types (is_address t) (owns m n t) (owns m n CNAME) (owns m n ANAME) t)
  exact_is t = by (is_address t)
    where
      by : (b : Bool) → from (filter (owns m n) (cond b (t ∷ CNAME ∷ ANAME ∷ []) (t ∷ CNAME ∷ []))) ≡ from (of_types b (owns m n t) (owns m n CNAME) (owns m n ANAME) t)
      by true = refl
      by false = refl

  exact_alias_itself : (s : RRset) → set_at m n CNAME ≡ Some s → exact m n CNAME ≡ Some s
  exact_alias_itself s e = (λ i. from (of_types false (is_some (e i)) (is_some (e i)) (owns m n ANAME) CNAME)) ∙ e

  module _ (t : ℕ) where
    -- the set of the type
    pub exact_own : ((t == CNAME) ≡ false → owns m n CNAME ≡ false) → (s : RRset) → set_at m n t ≡ Some s → exact m n t ≡ Some s
    exact_own beside s e = by (t == CNAME) refl
      where
        other : (b : Bool) → is_address t ≡ b → (c : Bool) → from (of_types b true false c t) ≡ Some s
        other false f c = e
        other true f true = ap (option_and_then (set_at m n)) (first_of_addresses t f) ∙ e
        other true f false = e

        by : (b : Bool) → (t == CNAME) ≡ b → exact m n t ≡ Some s
        by true f = subst (λ u. set_at m n u ≡ Some s → exact m n u ≡ Some s) (sym (eqb-true t CNAME f)) (exact_alias_itself s) e
        by false f = exact_is t ∙ (λ i. from (of_types (is_address t) (is_some (e i)) (beside f i) (owns m n ANAME) t)) ∙ other (is_address t) refl (owns m n ANAME)

    -- without it, the alias
    pub exact_alias : CnamesStandAlone m → (s : RRset) → set_at m n t ≡ None → set_at m n CNAME ≡ Some s → exact m n t ≡ Some s
    exact_alias alone s e f = by (owns m n ANAME) refl
      where
        either : (b : Bool) → from (of_types b false true false t) ≡ Some s
        either true = f
        either false = f

        clash : (ANAME ≡ CNAME) ⊎ (is_denial_type ANAME ≡ true) → ⊥
        clash (inl p) = true≢false (sym (ap (λ u. u == CNAME) p))
        clash (inr p) = true≢false (sym p)

        by : (c : Bool) → owns m n ANAME ≡ c → exact m n t ≡ Some s
        by true g = absurd (clash (alone.alone n ANAME (ap is_some f) g))
        by false g = exact_is t ∙ (λ i. from (of_types (is_address t) (is_some (e i)) (is_some (f i)) (g i) t)) ∙ either (is_address t)

    -- without either, ANAME for addresses
    pub exact_stand_in : (s : RRset) → is_address t ≡ true → set_at m n t ≡ None → set_at m n CNAME ≡ None → set_at m n ANAME ≡ Some s → exact m n t ≡ Some s
    exact_stand_in s a e f g = exact_is t ∙ (λ i. from (of_types (a i) (is_some (e i)) (is_some (f i)) (is_some (g i)) t)) ∙ g

    -- and else nothing
    pub exact_nothing : set_at m n t ≡ None → set_at m n CNAME ≡ None → (is_address t ≡ true → owns m n ANAME ≡ false) → exact m n t ≡ None
    exact_nothing e f flat = exact_is t ∙ (λ i. from (of_types (is_address t) (is_some (e i)) (is_some (f i)) (owns m n ANAME) t)) ∙ by (is_address t) refl
      where
        by : (b : Bool) → is_address t ≡ b → from (of_types b false false (owns m n ANAME) t) ≡ None
        by false a = refl
        by true a = ap (λ c. from (cond c (ANAME ∷ []) [])) (flat a)

    -- so it is where the name doesn't exist
    pub exact_absent : owns m n t ≡ false → exists m n ≡ false → exact m n t ≡ None
    exact_absent unowned absent =
        exact_nothing (no_set (set_at m n t) unowned) (no_set (set_at m n CNAME) (owned CNAME refl)) (λ a. owned ANAME refl)
      where
        no_set : (o : Option RRset) → is_some o ≡ false → o ≡ None
        no_set None k = refl
        no_set (Some s) k = absurd (true≢false k)

        owned : (u : ℕ) → is_denial_type u ≡ false → owns m n u ≡ false
        owned u other = by (owns m n u) refl
          where
            by : (b : Bool) → owns m n u ≡ b → b ≡ false
            by false k = refl
            by true k = absurd (true≢false (sym (owner_exists m n u k (ap not other)) ∙ absent))

-- ---- what is found

or_none : (o : Option RRset) → option_or o None ≡ o
or_none None = refl
or_none (Some s) = refl

-- the wildcard at the closest encloser of a name that doesn't exist and doesn't begin with `*`
pub wildcard_asked : (m : Sets) (n : Name) → exists m n ≡ false → is_wildcard n ≡ false → asked_wildcard m n ≡ option_map wildcard_under (closest_encloser m n)
wildcard_asked m [] e f = refl
wildcard_asked m (l ∷ n) e f = λ i. cond (f i || e i) None (option_map wildcard_under (closest_encloser m (l ∷ n)))

module _ (m : Sets) (signed : Bool) (n : Name) (t : ℕ) (unreferred : referral m n t ≡ None) where
  pub direct_is : direct m n t ≡ exact m n t
  direct_is = ap (λ o. option_or o (exact m n t)) unreferred

  -- at a name that exists
  pub found_there : asked_wildcard m n ≡ None → found m signed n t ≡ exact m n t
  found_there e =
      ap (λ o. option_or (direct m n t) (option_and_then (λ s. option_map (renamed signed s n) (direct m s t)) o)) e
      ∙ or_none (direct m n t) ∙ direct_is

  -- at a name that doesn't, by its wildcard
  pub found_by_wildcard : owns m n t ≡ false → exists m n ≡ false → is_wildcard n ≡ false
      → found m signed n t ≡ option_and_then (λ s. option_map (renamed signed s n) (direct m s t)) (option_map wildcard_under (closest_encloser m n))
  found_by_wildcard unowned absent not_wildcard =
      ap (λ o. option_or o (wildcard m signed n t)) (direct_is ∙ exact_absent m n t unowned absent)
      ∙ ap (option_and_then (λ s. option_map (renamed signed s n) (direct m s t))) (wildcard_asked m n absent not_wildcard)

-- ---- outside a zone nothing is found

module _ (origin : Name) (m : Sets) (inside : (n : Name) (t : ℕ) → owns m n t ≡ true → is_at_or_above origin n ≡ true) (not_wildcard : is_wildcard origin ≡ false) where
  unowned_outside : (n : Name) → (IsAtOrAbove origin n → ⊥) → (t : ℕ) → set_at m n t ≡ None
  unowned_outside n out t = by (set_at m n t) refl
    where
      by : (o : Option RRset) → set_at m n t ≡ o → o ≡ None
      by None e = refl
      by (Some s) e = absurd (out (is_at_or_above_sound origin n (inside n t (ap is_some e))))

  nothing_outside : (n : Name) (t : ℕ) → (IsAtOrAbove origin n → ⊥) → direct m n t ≡ None
  nothing_outside n t out =
      direct_is m false n t (no_referral m n t none_above)
      ∙ exact_nothing m n t (unowned_outside n out t) (unowned_outside n out CNAME) (λ a. ap is_some (unowned_outside n out ANAME))
    where
      none_above : (a : Name) → IsAtOrAbove a n → is_delegated_for m n t a ≡ true → owns m a SOA ≡ true
      none_above a u d =
          let ns : owns m a NS ≡ true = and_right (not (is_root a)) (owns m a NS) (and_left (is_delegated m a) (not ((t == DS) && name_eq a n && not (owns m n SOA))) d) in
          absurd (out (above_through origin a n (is_at_or_above_sound origin a (inside a NS ns)) u))

  pub found_outside : (signed : Bool) (x : Name) (t : ℕ) → is_at_or_above origin x ≡ false → found m signed x t ≡ None
  found_outside signed x t e =
      ap (λ o. option_or o (wildcard m signed x t)) (nothing_outside x t out) ∙ by (asked_wildcard m x) refl
    where
      out : IsAtOrAbove origin x → ⊥
      out u = true≢false (sym (is_at_or_above_complete origin x u) ∙ e)

      under : (a : Name) → IsAbove a x → IsAtOrAbove origin (wildcard_under a) → ⊥
      under a above u = cases (above_cases origin (wildcard_under a) u)
        where
          cases : (origin ≡ wildcard_under a) ⊎ IsAbove origin (wildcard_under a) → ⊥
          cases (inl same) = true≢false (sym (ap is_wildcard same) ∙ not_wildcard)
          cases (inr (l, f, q)) = out (above_through origin a x (f, ap (drop 1) q) (above_at a x above))

      by : (o : Option Name) → asked_wildcard m x ≡ o → option_and_then (λ s. option_map (renamed signed s x) (direct m s t)) o ≡ None
      by None f = refl
      by (Some w) f =
          let c = wildcard_is_of_closest_encloser.encloser m x w f in
          ap (option_map (renamed signed w x)) (nothing_outside w t (λ u. under c.0 c.2.above (subst (IsAtOrAbove origin) c.1 u)))

-- Where nothing refers a name elsewhere, nothing is found at it for a type that it doesn't own
use Rattle.std.proofs.Common.{◌≡◌, ℕ, Bool, true, false, cond, not, ◌&&◌, List, [], ◌∷◌, ◌++◌, drop, refl, sym, ap, ◌∙◌, true≢false, ◌⊎◌, inl, inr}
use Rattle.std.specs.Prelude.{Option, Some, None, filter, find, option_and_then, ◌==◌}
use Rattle.std.specs.Ordering.{nat_cmp}
use Rattle.zone_proto.specs.Names.{Name, name_eq, is_root, is_above, is_at_or_above, suffixes, IsAtOrAbove, IsAbove}
use Rattle.zone_proto.specs.Order.{least}
use Rattle.zone_proto.specs.Sets.{RRset}
use Rattle.zone_proto.specs.Types.{NS, CNAME, SOA, DS, ANAME}
use Rattle.zone_proto.proofs.Members.{none_passes, and_left, and_right}
use Rattle.zone_proto.proofs.Names.NameTree.{above_test, is_at_or_above_sound}
use Rattle.zone_proto.proofs.Names.Tree.{name_eq_itself, above_cases}
use Rattle.zone_map.specs.Direct.{is_delegated, is_delegated_for, referral_at, is_address, exact, direct}
use Rattle.zone_map.specs.Walks.{referral_above}
use Rattle.zone_map.specs.Zones.{Sets, set_at, owns, owners}
use Rattle.zone_map.proofs.Delegations.{found_above}
use Rattle.zone_map.proofs.Owned.{owner_in}
use Rattle.zone_map.proofs.Walks.{direct_above, direct_own}
use Rattle.zone_denial.specs.Authority.{is_below_cut}
use Rattle.zone_denial.proofs.Chain.NsecBelow.{above_at, comparable}
use Rattle.denial_laws.specs.Scope.{Unreferred}
use Rattle.denial_laws.specs.Soundness.{IsUnflattened}

-- ---- at the name

exact_none : (m : Sets) (y : Name) (t : ℕ) → owns m y t ≡ false → owns m y CNAME ≡ false → IsUnflattened m y t → exact m y t ≡ None
exact_none m y t a c flat = by (is_address t) flat
  where
    of : List ℕ → Option RRset
    of ts = option_and_then (set_at m y) (least nat_cmp ts)

    by : (b : Bool) → (b ≡ true → owns m y ANAME ≡ false) → option_and_then (set_at m y) (least nat_cmp (filter (owns m y) (cond b (t ∷ CNAME ∷ ANAME ∷ []) (t ∷ CNAME ∷ [])))) ≡ None
    by true n =
        let flat : owns m y ANAME ≡ false = n refl in
        let last : filter (owns m y) (ANAME ∷ []) ≡ [] = ap (λ b. cond b (ANAME ∷ []) []) flat in
        let two : filter (owns m y) (CNAME ∷ ANAME ∷ []) ≡ [] = ap (λ b. cond b (CNAME ∷ filter (owns m y) (ANAME ∷ [])) (filter (owns m y) (ANAME ∷ []))) c ∙ last in
        ap of (ap (λ b. cond b (t ∷ filter (owns m y) (CNAME ∷ ANAME ∷ [])) (filter (owns m y) (CNAME ∷ ANAME ∷ []))) a ∙ two)
    by false n =
        let one : filter (owns m y) (CNAME ∷ []) ≡ [] = ap (λ b. cond b (CNAME ∷ []) []) c in
        ap of (ap (λ b. cond b (t ∷ filter (owns m y) (CNAME ∷ [])) (filter (owns m y) (CNAME ∷ []))) a ∙ one)

-- ---- above it

module _ (origin : Name) (m : Sets) (y : Name) (unreferred : Unreferred origin m) (inside : is_at_or_above origin y ≡ true) (uncut : is_below_cut origin m y ≡ false) where
  -- what is delegated above it owns SOA
  soa_above : (a : Name) → IsAbove a y → owns m a NS ≡ true → owns m a SOA ≡ true
  soa_above a w ns = by (comparable u.0 v.0 origin a (sym u.1 ∙ v.1))
    where
      u : IsAtOrAbove origin y
      u = is_at_or_above_sound origin y inside

      v : IsAtOrAbove a y
      v = above_at a y w

      strictly : (origin ≡ a) ⊎ IsAbove origin a → owns m a SOA ≡ true
      strictly (inl e) = unreferred a ([], e) ns
      strictly (inr k) = absurd (none_passes (λ c. is_above origin c && is_above c y) a (owners m NS) uncut (owner_in m a NS ns) (λ i. (above_test origin a).1 k i && (above_test a y).1 w i))

      by : IsAtOrAbove origin a ⊎ IsAtOrAbove a origin → owns m a SOA ≡ true
      by (inl p) = strictly (above_cases origin a p)
      by (inr p) = unreferred a p ns

  not_the_root : (a : Name) → is_delegated m a ≡ true → a ≡ [] → ⊥
  not_the_root a d e = true≢false (sym (and_left (not (is_root a)) (owns m a NS) d) ∙ ap (λ n. not (is_root n)) e)

  above_from : (n a : Name) → is_delegated m a ≡ true → IsAtOrAbove a (drop 1 n) → IsAbove a n
  above_from [] a d ([], q) = absurd (not_the_root a d (sym q))
  above_from [] a d (l ∷ f, q) = let p : [] ≡ l ∷ (f ++ a) = q in cc
  above_from (l ∷ ls) a d (f, q) = (l, f, ap (λ n. l ∷ n) q)

  none_above : referral_above m (drop 1 y) ≡ None
  none_above = by (find (is_delegated m) (suffixes (drop 1 y))) refl
    where
      by : (o : Option Name) → find (is_delegated m) (suffixes (drop 1 y)) ≡ o → referral_at m o ≡ None
      by None e = refl
      by (Some a) e =
          let f = found_above (is_delegated m) (drop 1 y) a e in
          ap (λ b. cond b None (set_at m a NS)) (soa_above a (above_from y a f.1 f.0) (and_right (not (is_root a)) (owns m a NS) f.1))

  -- ---- so nothing is found

  module _ (t : ℕ) (beside : (t == DS) ≡ false → owns m y NS ≡ true → owns m y SOA ≡ true) where
    own_soa : is_delegated_for m y t y ≡ true → owns m y SOA ≡ true
    own_soa d = by (t == DS) refl (owns m y SOA) refl
      where
        ns : owns m y NS ≡ true
        ns = and_right (not (is_root y)) (owns m y NS) (and_left (is_delegated m y) (not ((t == DS) && name_eq y y && not (owns m y SOA))) d)

        passed : not ((t == DS) && name_eq y y && not (owns m y SOA)) ≡ true
        passed = and_right (is_delegated m y) (not ((t == DS) && name_eq y y && not (owns m y SOA))) d

        by : (b : Bool) → (t == DS) ≡ b → (a : Bool) → owns m y SOA ≡ a → owns m y SOA ≡ true
        by b e true q = q
        by false e false q = beside e ns
        by true e false q = absurd (true≢false (sym passed ∙ (λ i. not (e i && name_eq_itself y i && not (q i)))))

    pub direct_none : owns m y t ≡ false → owns m y CNAME ≡ false → IsUnflattened m y t → direct m y t ≡ None
    direct_none a c flat = by (is_delegated_for m y t y) refl
      where
        by : (b : Bool) → is_delegated_for m y t y ≡ b → direct m y t ≡ None
        by false e = direct_above m y t None (ap (λ b. cond b (Some (referral_at m (Some y))) None) e) none_above ∙ exact_none m y t a c flat
        by true e =
            direct_own m y t None (ap (λ b. cond b (Some (referral_at m (Some y))) None) e ∙ ap (λ b. Some (cond b None (set_at m y NS))) (own_soa e))
            ∙ exact_none m y t a c flat

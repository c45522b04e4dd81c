-- What a search finds is the same among the sets of a zone and among those that stay where only its chain denies, denials aside
use Rattle.std.proofs.Common.{◌≡◌, ℕ, Bool, true, false, cond, not, ◌&&◌, ◌||◌, List, [], ◌∷◌, refl, sym, ap, ◌∙◌, true≢false, inl, inr, eqb-true}
use Rattle.std.specs.Prelude.{Option, Some, None, filter, find, is_some, option_map, option_and_then, ◌==◌}
use Rattle.std.specs.List.{list_any, cons_option}
use Rattle.std.specs.Map.{lookup}
use Rattle.std.specs.Option.{option_or}
use Rattle.std.specs.Ordering.{nat_cmp}
use Rattle.zone_proto.specs.declared.nx_proof_kind.NxProofKind.{NxProofKind}
use Rattle.zone_proto.specs.declared.rr_key.RrKey.{RrKey}
use Rattle.zone_proto.specs.Keys.{key, key_eq}
use Rattle.zone_proto.specs.Names.{Name, name_eq, is_root, is_wildcard, is_above, is_at_or_above, suffixes, proper_ancestors, wildcard_under}
use Rattle.zone_proto.specs.Order.{least}
use Rattle.zone_proto.specs.Sets.{RRset}
use Rattle.zone_proto.specs.Types.{NS, CNAME, SOA, DS, ANAME, DNAME}
use Rattle.zone_proto.proofs.Members.{In, In-from_filter}
use Rattle.zone_proto.proofs.Ordering.KeyOrder.{key_same}
use Rattle.zone_proto.proofs.Ordering.Orders.{greatest_is, number_order}
use Rattle.zone_map.specs.Direct.{is_address, is_delegated_for, referral_at, types_for, direct}
use Rattle.zone_map.specs.Upserts.{is_denial_type}
use Rattle.zone_map.specs.Wildcards.{exists, asked_wildcard, found, renamed}
use Rattle.zone_map.specs.Zones.{Sets, set_at, owns, owners}
use Rattle.zone_denial.specs.Authority.{is_below_cut}
use Rattle.zone_denial.specs.ChainLaws.{ChainSetsKeepSets, ChainSetsKeepNames, ChainSetsKeepFound}
use Rattle.zone_denial.specs.Chains.{is_of_chain, stays, chain_sets, is_below_dname}
use Rattle.zone_denial.proofs.InOrder.{flipped}

module _ (chain : Option NxProofKind) where
  abbrev passes : RrKey × RRset → Bool
  passes e = stays chain e.0.record_type.0 e.1

  -- a set that is none of denial stays
  kept : (e : RrKey × RRset) → is_denial_type e.0.record_type.0 ≡ false → passes e ≡ true
  kept e p = ap (λ b. not b || is_of_chain chain e.0.record_type.0 e.1) p

  -- ---- sets

  pub set_same : (m : Sets) (n : Name) (t : ℕ) → is_denial_type t ≡ false → set_at (chain_sets chain m) n t ≡ set_at m n t
  set_same [] n t p = refl
  set_same (e ∷ m) n t p = by (key_eq (key n t) e.0) refl (passes e) refl (set_same m n t p)
    where
      by : (b : Bool) → key_eq (key n t) e.0 ≡ b → (c : Bool) → passes e ≡ c → set_at (chain_sets chain m) n t ≡ set_at m n t
          → lookup (key_eq (key n t)) (cond c (e ∷ chain_sets chain m) (chain_sets chain m)) ≡ cond b (Some e.1) (set_at m n t)
      by true q true r ih = ap (λ b. cond b (Some e.1) (set_at (chain_sets chain m) n t)) q
      by true q false r ih = absurd (true≢false (sym (kept e (ap (λ (k : RrKey). is_denial_type k.record_type.0) (sym (key_same (key n t) e.0 q)) ∙ p)) ∙ r))
      by false q true r ih = ap (λ b. cond b (Some e.1) (set_at (chain_sets chain m) n t)) q ∙ ih
      by false q false r ih = ih

  pub owns_same : (m : Sets) (n : Name) (t : ℕ) → is_denial_type t ≡ false → owns (chain_sets chain m) n t ≡ owns m n t
  owns_same m n t p = ap is_some (set_same m n t p)

  pub owners_same : (m : Sets) (t : ℕ) → is_denial_type t ≡ false → owners (chain_sets chain m) t ≡ owners m t
  owners_same [] t p = refl
  owners_same (e ∷ m) t p = by (t == e.0.record_type.0) refl (passes e) refl (owners_same m t p)
    where
      by : (b : Bool) → (t == e.0.record_type.0) ≡ b → (c : Bool) → passes e ≡ c → owners (chain_sets chain m) t ≡ owners m t
          → owners (cond c (e ∷ chain_sets chain m) (chain_sets chain m)) t ≡ cons_option (cond b (Some e.0.name) None) (owners m t)
      by b q true r ih = (λ i. cons_option (cond (q i) (Some e.0.name) None) (ih i))
      by true q false r ih = absurd (true≢false (sym (kept e (ap is_denial_type (sym (eqb-true t e.0.record_type.0 q)) ∙ p)) ∙ r))
      by false q false r ih = ih

  -- ---- names

  pub exists_same : (m : Sets) (n : Name) → exists (chain_sets chain m) n ≡ exists m n
  exists_same [] n = refl
  exists_same (e ∷ m) n = by (is_denial_type e.0.record_type.0) refl (passes e) refl (exists_same m n)
    where
      none : (b : Bool) → b && false ≡ false
      none true = refl
      none false = refl

      by : (b : Bool) → is_denial_type e.0.record_type.0 ≡ b → (c : Bool) → passes e ≡ c → exists (chain_sets chain m) n ≡ exists m n
          → exists (cond c (e ∷ chain_sets chain m) (chain_sets chain m)) n ≡ (is_at_or_above n e.0.name && not b) || exists m n
      by b q true r ih = (λ i. (is_at_or_above n e.0.name && not (q i)) || ih i)
      by true q false r ih = ih ∙ sym (ap (λ b. b || exists m n) (none (is_at_or_above n e.0.name)))
      by false q false r ih = absurd (true≢false (sym (kept e q) ∙ r))

  pub asked_same : (m : Sets) (n : Name) → asked_wildcard (chain_sets chain m) n ≡ asked_wildcard m n
  asked_same m n = λ i. cond (is_root n || is_wildcard n || exists_same m n i) None (option_map wildcard_under (find (λ a. exists_same m a i) (proper_ancestors n)))

  pub below_cut_same : (origin : Name) (m : Sets) (n : Name) → is_below_cut origin (chain_sets chain m) n ≡ is_below_cut origin m n
  below_cut_same origin m n = ap (list_any (λ a. is_above origin a && is_above a n)) (owners_same m NS refl)

  pub below_dname_same : (m : Sets) (n : Name) → is_below_dname (chain_sets chain m) n ≡ is_below_dname m n
  below_dname_same m n = ap (list_any (λ a. is_above a n)) (owners_same m DNAME refl)

  -- ---- what is found

  module _ (m : Sets) (t : ℕ) (p : is_denial_type t ≡ false) where
    referral_same : (o : Option Name) → referral_at (chain_sets chain m) o ≡ referral_at m o
    referral_same o = λ i. option_and_then (λ a. cond (owns_same m a SOA refl i) None (set_same m a NS refl i)) o

    -- the types that answer for it are none of denial either
    pub direct_same : (n : Name) → direct (chain_sets chain m) n t ≡ direct m n t
    direct_same n =
        (λ i. option_or (nearest i)
        (option_and_then (set_at (chain_sets chain m) n) (least nat_cmp (filter (owns (chain_sets chain m) n) (types_for t)))))
        ∙ ap (option_or (referral_at m (find (is_delegated_for m n t) (suffixes n)))) exact_same
      where
        nearest : referral_at (chain_sets chain m) (find (is_delegated_for (chain_sets chain m) n t) (suffixes n)) ≡ referral_at m (find (is_delegated_for m n t) (suffixes n))
        nearest =
            (λ i. referral_at (chain_sets chain m)
            (find (λ a. (not (is_root a) && owns_same m a NS refl i) && not ((t == DS) && name_eq a n && not (owns_same m n SOA refl i))) (suffixes n)))
            ∙ referral_same (find (is_delegated_for m n t) (suffixes n))

        of : (u : ℕ) → is_denial_type u ≡ false → (us : List ℕ)
            → filter (owns (chain_sets chain m) n) us ≡ filter (owns m n) us
            → filter (owns (chain_sets chain m) n) (u ∷ us) ≡ filter (owns m n) (u ∷ us)
        of u q us ih = λ i. cond (owns_same m n u q i) (u ∷ ih i) (ih i)

        types_same : filter (owns (chain_sets chain m) n) (types_for t) ≡ filter (owns m n) (types_for t)
        types_same = by (is_address t)
          where
            by : (b : Bool) → filter (owns (chain_sets chain m) n) (cond b (t ∷ CNAME ∷ ANAME ∷ []) (t ∷ CNAME ∷ [])) ≡ filter (owns m n) (cond b (t ∷ CNAME ∷ ANAME ∷ []) (t ∷ CNAME ∷ []))
            by true = of t p (CNAME ∷ ANAME ∷ []) (of CNAME refl (ANAME ∷ []) (of ANAME refl [] refl))
            by false = of t p (CNAME ∷ []) (of CNAME refl [] refl)

        answer : Option ℕ → Option RRset
        answer o = option_and_then (set_at (chain_sets chain m) n) o

        least_same : least nat_cmp (filter (owns (chain_sets chain m) n) (types_for t)) ≡ least nat_cmp (filter (owns m n) (types_for t))
        least_same = ap (least nat_cmp) types_same

        exact_same : option_and_then (set_at (chain_sets chain m) n) (least nat_cmp (filter (owns (chain_sets chain m) n) (types_for t))) ≡ option_and_then (set_at m n) (least nat_cmp (filter (owns m n) (types_for t)))
        exact_same = ap answer least_same ∙ by (least nat_cmp (filter (owns m n) (types_for t))) (λ u e. among u e)
          where
            among : (u : ℕ) → least nat_cmp (filter (owns m n) (types_for t)) ≡ Some u → is_denial_type u ≡ false
            among u e = plain u (In-from_filter (owns m n) u (types_for t) (greatest_is (flipped number_order) (filter (owns m n) (types_for t)) u e).among).0
              where
                plain : (u : ℕ) → In u (types_for t) → is_denial_type u ≡ false
                plain u i = each (is_address t) i
                  where
                    each : (b : Bool) → In u (cond b (t ∷ CNAME ∷ ANAME ∷ []) (t ∷ CNAME ∷ [])) → is_denial_type u ≡ false
                    each true (inl e) = ap is_denial_type (sym e) ∙ p
                    each true (inr (inl e)) = ap is_denial_type (sym e)
                    each true (inr (inr (inl e))) = ap is_denial_type (sym e)
                    each true (inr (inr (inr i))) = absurd i
                    each false (inl e) = ap is_denial_type (sym e) ∙ p
                    each false (inr (inl e)) = ap is_denial_type (sym e)
                    each false (inr (inr i)) = absurd i

            by : (o : Option ℕ) → ((u : ℕ) → o ≡ Some u → is_denial_type u ≡ false) → option_and_then (set_at (chain_sets chain m) n) o ≡ option_and_then (set_at m n) o
            by None h = refl
            by (Some u) h = set_same m n u (h u refl)

    pub found_same : (signed : Bool) (n : Name) → found (chain_sets chain m) signed n t ≡ found m signed n t
    found_same signed n =
        λ i. option_or (direct_same n i) (option_and_then (λ s. option_map (renamed signed s n) (direct_same s i)) (asked_same m n i))

pub keep_sets : ChainSetsKeepSets
keep_sets chain m n t p = set_same chain m n t p

pub keep_names : ChainSetsKeepNames
keep_names chain origin m n = record {
  exists = exists_same chain m n;
  wildcard_name = asked_same chain m n;
  cut = below_cut_same chain origin m n;
  dname = below_dname_same chain m n;
}

pub keep_found : ChainSetsKeepFound
keep_found chain m signed n t p = found_same chain m t p signed n

-- A zone that gets its NSEC sets with trimmed lists has a chain of them
use Rattle.std.proofs.Common.{◌≡◌, ◌≢◌, ◌↔◌, ℕ, Bool, true, false, not, ◌&&◌, ◌||◌, cond, List, [], length, map, refl, sym, ap, ◌∙◌, subst, true≢false, ◌⊎◌, inl, inr, arith, eqb-true}
use Rattle.std.specs.Prelude.{Option, Some, None, filter, is_some, unwrap_or, option_map, ◌==◌}
use Rattle.std.specs.Cmp.{both_ways}
use Rattle.std.specs.List.{Contains}
use Rattle.zone_proto.specs.Names.{Name, name_cmp, lower, is_above, is_at_or_above, IsAbove}
use Rattle.zone_proto.specs.Order.{is_before, least}
use Rattle.zone_proto.specs.Sets.{RRset}
use Rattle.zone_proto.specs.Types.{NS, CNAME, SOA, DS, RRSIG, NSEC, NSEC3}
use Rattle.zone_proto.proofs.Members.{In, In-filter, In-from_filter, and_left, and_right, not_true}
use Rattle.zone_proto.proofs.Names.NameTree.{above_test, is_at_or_above_sound, is_at_or_above_complete}
use Rattle.zone_proto.proofs.Names.Tree.{name_order, above_cases}
use Rattle.zone_proto.proofs.Ordering.Orders.{greatest_same, greatest_is}
use Rattle.zone_map.specs.Zones.{Sets, IsZone, set_at, owns, owners, names_of}
use Rattle.zone_map.proofs.Lists.{owner_lowered}
use Rattle.zone_map.proofs.Owned.{name_owned, owner_in, owner_owned}
use Rattle.zone_denial.specs.Authority.{is_authoritative, authoritative_names, is_below_cut, owns_besides}
use Rattle.zone_denial.specs.Chains.{is_delegation, is_stated_at_delegation, IsRightList, next_owner}
use Rattle.zone_denial.specs.NsecCircle.{first_nsec, nsec_next}
use Rattle.zone_denial.specs.NsecSets.{nsec_set}
use Rattle.zone_denial.specs.TypeLists.{nsec_types}
use Rattle.zone_denial.proofs.Chain.NsecLists.{list_has, from_list}
use Rattle.zone_denial.proofs.Chain.NsecSecured.{same_next, same_types}
use Rattle.zone_denial.proofs.InOrder.{flipped}
use Rattle.zone_denial.proofs.Names.AuthoritativeNames.{same_authority, authoritative_from, authoritative_listed, besides_from, origin_uncut}
use Rattle.zone_trimming.specs.Trimming.{trimmed_set}
use Rattle.zone_trimming.specs.TrimmedChains.{HasTrimmedNsecSets, TrimmedIsNsecChain}
use Rattle.zone_trimming.proofs.TrimmedLists.{has, cuts, stays, left, same_left, has_from, from_has, from_left, in_left, all_left}

-- a type of which a list tells at a delegation isn't another one of which it doesn't
told_apart : (t u : ℕ) → is_stated_at_delegation t ≡ true → is_stated_at_delegation u ≡ false → t ≢ u
told_apart t u h k e = true≢false (sym h ∙ ap is_stated_at_delegation e ∙ k)

and_false : (a b : Bool) → b ≡ true → a && not b ≡ false
and_false true b e = ap not e
and_false false b e = refl

some_mapped : {X Y : Type 0} (f : X → Y) (p : Option X) → is_some (option_map f p) ≡ is_some p
some_mapped f None = refl
some_mapped f (Some x) = refl

-- the next name is in lower case
low_next : (origin : Name) (m : Sets) → IsZone m → lower origin ≡ origin → (n : Name) → lower (nsec_next origin m n) ≡ nsec_next origin m n
low_next origin m zone low n = by (least name_cmp later) refl
  where
    later : List Name
    later = filter (is_before name_cmp n) (authoritative_names origin m NSEC)

    by : (p : Option Name) → least name_cmp later ≡ p → lower (unwrap_or p origin) ≡ unwrap_or p origin
    by None e = low
    by (Some a) e =
        let i = In-from_filter (is_before name_cmp n) a (authoritative_names origin m NSEC) (greatest_is (flipped name_order) later a e).among in
        let r = name_owned m a (In-from_filter (is_authoritative origin m NSEC) a (names_of m) i.0).0 in
        owner_lowered m a r.0 zone r.1

module _ (origin : Name) (m after : Sets) (ttl serial : ℕ) (zone : IsZone m) (low : lower origin ≡ origin) (soa : owns m origin SOA ≡ true) (h : HasTrimmedNsecSets origin m ttl serial after) where
  -- ---- who owns NSEC

  owned : (n : Name) → owns after n NSEC ≡ is_authoritative origin m NSEC n
  owned n =
      sym (some_mapped (λ (s : RRset). s.records) (set_at after n NSEC))
      ∙ ap is_some (h.denials n)
      ∙ by (is_authoritative origin m NSEC n)
    where
      by : (b : Bool) → is_some (option_map (λ (s : RRset). s.records) (option_map trimmed_set (cond b (Some (nsec_set origin m ttl serial n)) None))) ≡ b
      by true = refl
      by false = refl

  on_chain : (n : Name) → owns after n NSEC ≡ is_authoritative origin after NSEC n
  on_chain n = owned n ∙ sym (same_authority NSEC refl origin m after h.others n)

  next_is : (n : Name) → nsec_next origin after n ≡ next_owner origin after n
  next_is n = ap (λ p. unwrap_or p origin) (greatest_same (flipped name_order) authorities owners_after to from)
    where
      authorities : List Name
      authorities = filter (is_before name_cmp n) (authoritative_names origin after NSEC)

      owners_after : List Name
      owners_after = filter (is_before name_cmp n) (owners after NSEC)

      to : (a : Name) → In a authorities → In a owners_after
      to a i =
          let r = In-from_filter (is_before name_cmp n) a (authoritative_names origin after NSEC) i in
          let k = on_chain a ∙ (In-from_filter (is_authoritative origin after NSEC) a (names_of after) r.0).1 in
          In-filter (is_before name_cmp n) a (owners after NSEC) (owner_in after a NSEC k) r.1

      from : (a : Name) → In a owners_after → In a authorities
      from a i =
          let r = In-from_filter (is_before name_cmp n) a (owners after NSEC) i in
          In-filter (is_before name_cmp n) a (authoritative_names origin after NSEC) (authoritative_listed origin after NSEC a (sym (on_chain a) ∙ owner_owned after a NSEC r.0)) r.1

  same_records : (n : Name) (s : RRset) → set_at after n NSEC ≡ Some s → s.records ≡ (trimmed_set (nsec_set origin m ttl serial n)).records
  same_records n s e = by (is_authoritative origin m NSEC n) (sym (ap (option_map (λ (s : RRset). s.records)) e) ∙ h.denials n)
    where
      by : (b : Bool) → Some s.records ≡ option_map (λ (s : RRset). s.records) (option_map trimmed_set (cond b (Some (nsec_set origin m ttl serial n)) None)) → s.records ≡ (trimmed_set (nsec_set origin m ttl serial n)).records
      by true q = cc
      by false q = absurd cc

  -- ---- the lists

  module _ (n : Name) (on : owns after n NSEC ≡ true) where
    abbrev listed : List ℕ
    listed = nsec_types after n

    owned_of : (t : ℕ) → t ≢ RRSIG → Contains listed t → owns after n t ≡ true
    owned_of t a c = by (from_list after n t c)
      where
        by : (owns after n t ≡ true) ⊎ (t ≡ RRSIG) ⊎ (t ≡ NSEC) → owns after n t ≡ true
        by (inl k) = k
        by (inr (inl e)) = absurd (a e)
        by (inr (inr e)) = ap (owns after n) e ∙ on

    listed_of : (t : ℕ) → owns after n t ≡ true → Contains listed t
    listed_of t k = list_has after n t (inl k)

    has_is : (t : ℕ) → t ≢ RRSIG → has listed t ≡ owns after n t
    has_is t a = both_ways (has listed t) (owns after n t) (λ e. owned_of t a (from_has listed t e)) (λ k. has_from listed t (listed_of t k))

    cuts_is : cuts listed ≡ owns after n NS && not (owns after n SOA)
    cuts_is = λ i. has_is NS (λ e. omega (arith, e)) i && not (has_is SOA (λ e. omega (arith, e)) i)

    at_or_above : is_at_or_above origin n ≡ true
    at_or_above = and_left (is_at_or_above origin n) (owns_besides after NSEC n && not (is_below_cut origin after n)) (sym (on_chain n) ∙ on)

    untouched : is_delegation origin after n ≡ false → cuts listed ≡ false
    untouched e = cuts_is ∙ by (above_cases origin n (is_at_or_above_sound origin n at_or_above))
      where
        by : (origin ≡ n) ⊎ IsAbove origin n → owns after n NS && not (owns after n SOA) ≡ false
        by (inl q) = and_false (owns after n NS) (owns after n SOA) (ap (λ x. owns after x SOA) (sym q) ∙ h.others origin SOA refl ∙ soa)
        by (inr w) = sym (ap (λ b. b && (owns after n NS && not (owns after n SOA))) ((above_test origin n).1 w)) ∙ e

    told_stays : is_delegation origin after n ≡ true → (t : ℕ) → is_stated_at_delegation t ≡ true → owns after n t ≡ true → stays listed t ≡ true
    told_stays d t told k = by (t == NS) (t == CNAME) (t == SOA) (t == DS) refl told
      where
        no_soa : owns after n SOA ≡ false
        no_soa = not_true (owns after n SOA) (and_right (owns after n NS) (not (owns after n SOA)) (and_right (is_above origin n) (owns after n NS && not (owns after n SOA)) d))

        by : (a b c e : Bool) → (t == SOA) ≡ c → a || (b || (c || e)) ≡ true → a || (b || (e || ((t == NSEC) || ((t == NSEC3) || ((t == RRSIG) && (has listed DS || has listed NSEC)))))) ≡ true
        by true b c e q g = refl
        by false true c e q g = refl
        by false false true e q g = absurd (true≢false (sym k ∙ ap (owns after n) (eqb-true t SOA q) ∙ no_soa))
        by false false false true q g = refl
        by false false false false q g = absurd (true≢false (sym g))

    right_list : IsRightList origin after n (left listed)
    right_list = record {
      at_delegation = λ d t told. (λ c. owned_of t (told_apart t RRSIG told refl) (from_left listed t c), λ k. in_left listed t (listed_of t k) (told_stays d t told k));
      exact = λ d t a b x. subst (λ xs. Contains xs t ↔ (owns after n t ≡ true)) (sym (all_left listed (untouched d))) (owned_of t a, listed_of t);
      signed = λ d s. subst (λ xs. Contains xs RRSIG) (sym (all_left listed (untouched d))) (list_has after n RRSIG (inr (inl refl)));
    }

    own_listed : is_delegation origin after n ≡ false → Contains (left listed) NSEC
    own_listed d = subst (λ xs. Contains xs NSEC) (sym (all_left listed (untouched d))) (listed_of NSEC on)

pub trimmed_is_nsec_chain : TrimmedIsNsecChain
trimmed_is_nsec_chain origin m after ttl serial zone stands low soa h =
    record {
      zone = stands;
      begins =
          on_chain origin m after ttl serial zone low soa h origin
          ∙ authoritative_from origin after NSEC origin (is_at_or_above_complete origin origin ([], refl)) (besides_from after NSEC origin SOA refl (h.others origin SOA refl ∙ soa)) (origin_uncut origin after);
      authoritative = λ n k. sym (on_chain origin m after ttl serial zone low soa h n) ∙ k;
      complete = λ n k. inl (on_chain origin m after ttl serial zone low soa h n ∙ k);
      each = λ n s e.
          let on : owns after n NSEC ≡ true = ap is_some e in
          let records = same_records origin m after ttl serial zone low soa h n s e in
          record {
            single = ap length records;
            next =
                ap (λ rs. option_map (λ a. lower a.next_domain_name) (first_nsec rs)) records
                ∙ ap Some (low_next origin m zone low n ∙ sym (same_next origin m after h.others n) ∙ next_is origin m after ttl serial zone low soa h n);
            types = left (nsec_types after n);
            listed =
                ap (λ rs. option_map (λ a. map (λ t. t.0) a.types) (first_nsec rs)) records
                ∙ ap Some (same_left (nsec_types m n) ∙ ap left (sym (same_types origin m after h.others n)));
            right = right_list origin m after ttl serial zone low soa h n on;
            own = own_listed origin m after ttl serial zone low soa h n on;
            hashed = (
              λ c. owned_of origin m after ttl serial zone low soa h n on NSEC3 (λ e. omega (arith, e)) (from_left (nsec_types after n) NSEC3 c),
              λ k. in_left (nsec_types after n) NSEC3 (listed_of origin m after ttl serial zone low soa h n on NSEC3 k) refl,
            );
          };
    }

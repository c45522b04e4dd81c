-- The lists of a zone in which who owns NSEC is whom it is authoritative for: trimmed they are right, and which name comes next
use Rattle.std.proofs.Common.{◌≡◌, ◌≢◌, ◌↔◌, ℕ, Bool, true, false, not, ◌&&◌, ◌||◌, List, refl, sym, ap, ◌∙◌, subst, true≢false, ◌⊎◌, inl, inr, arith, eqb-true}
use Rattle.std.specs.Prelude.{Option, Some, None, filter, unwrap_or, ◌==◌}
use Rattle.std.specs.Cmp.{both_ways}
use Rattle.std.specs.List.{Contains}
use Rattle.zone_proto.specs.Names.{Name, name_cmp, lower, is_above, is_at_or_above, IsAbove}
use Rattle.zone_proto.specs.Order.{is_before, least}
use Rattle.zone_proto.specs.Types.{NS, CNAME, SOA, DS, RRSIG, NSEC, NSEC3}
use Rattle.zone_proto.proofs.Members.{In, In-filter, In-from_filter, and_right, not_true, or_right}
use Rattle.zone_proto.proofs.Names.NameTree.{above_test, is_at_or_above_sound}
use Rattle.zone_proto.proofs.Names.Tree.{name_order, above_cases}
use Rattle.zone_proto.proofs.Ordering.Orders.{greatest_same, greatest_is}
use Rattle.zone_map.specs.Zones.{Sets, IsZone, owns, owners, names_of}
use Rattle.zone_map.proofs.Lists.{owner_lowered}
use Rattle.zone_map.proofs.Owned.{name_owned, owner_in, owner_owned}
use Rattle.zone_denial.specs.Authority.{is_authoritative, authoritative_names}
use Rattle.zone_denial.specs.Chains.{is_delegation, is_stated_at_delegation, IsRightList, next_owner}
use Rattle.zone_denial.specs.NsecCircle.{nsec_next}
use Rattle.zone_denial.specs.TypeLists.{nsec_types}
use Rattle.zone_denial.proofs.Chain.NsecLists.{list_has, from_list}
use Rattle.zone_denial.proofs.InOrder.{flipped}
use Rattle.zone_denial.proofs.Names.AuthoritativeNames.{authoritative_listed}
use Rattle.zone_trimming.proofs.TrimmedLists.{has, cuts, stays, left, has_from, from_has, from_left, in_left, all_left}

-- ---- the name that comes next

-- it is in lower case
pub low_next : (origin : Name) (m : Sets) → IsZone m → lower origin ≡ origin → (n : Name) → lower (nsec_next origin m n) ≡ nsec_next origin m n
low_next origin m zone low n = by (least name_cmp later) refl
  where
    later : List Name
    later = filter (is_before name_cmp n) (authoritative_names origin m NSEC)

    by : (p : Option Name) → least name_cmp later ≡ p → lower (unwrap_or p origin) ≡ unwrap_or p origin
    by None e = low
    by (Some a) e =
        let i = In-from_filter (is_before name_cmp n) a (authoritative_names origin m NSEC) (greatest_is (flipped name_order) later a e).among in
        let r = name_owned m a (In-from_filter (is_authoritative origin m NSEC) a (names_of m) i.0).0 in
        owner_lowered m a r.0 zone r.1

-- the next one of those that the zone is authoritative for is the next owner of NSEC
pub next_is : (origin : Name) (m : Sets) → ((n : Name) → owns m n NSEC ≡ is_authoritative origin m NSEC n) → (n : Name) → nsec_next origin m n ≡ next_owner origin m n
next_is origin m held n = ap (λ p. unwrap_or p origin) (greatest_same (flipped name_order) authorities later to from)
  where
    authorities : List Name
    authorities = filter (is_before name_cmp n) (authoritative_names origin m NSEC)

    later : List Name
    later = filter (is_before name_cmp n) (owners m NSEC)

    to : (a : Name) → In a authorities → In a later
    to a i =
        let r = In-from_filter (is_before name_cmp n) a (authoritative_names origin m NSEC) i in
        let k = held a ∙ (In-from_filter (is_authoritative origin m NSEC) a (names_of m) r.0).1 in
        In-filter (is_before name_cmp n) a (owners m NSEC) (owner_in m a NSEC k) r.1

    from : (a : Name) → In a later → In a authorities
    from a i =
        let r = In-from_filter (is_before name_cmp n) a (owners m NSEC) i in
        In-filter (is_before name_cmp n) a (authoritative_names origin m NSEC) (authoritative_listed origin m NSEC a (sym (held a) ∙ owner_owned m a NSEC r.0)) r.1

-- ---- the trimmed list of a name that owns NSEC

-- a type of which a list tells at a delegation isn't another one of which it doesn't
pub told_apart : (t u : ℕ) → is_stated_at_delegation t ≡ true → is_stated_at_delegation u ≡ false → t ≢ u
told_apart t u h k e = true≢false (sym h ∙ ap is_stated_at_delegation e ∙ k)

and_false : (a b : Bool) → b ≡ true → a && not b ≡ false
and_false true b e = ap not e
and_false false b e = refl

module _ (origin : Name) (m : Sets) (soa : owns m origin SOA ≡ true) (n : Name) (inside : is_at_or_above origin n ≡ true) (on : owns m n NSEC ≡ true) where
  abbrev listed : List ℕ
  listed = nsec_types m n

  owned_of : (t : ℕ) → t ≢ RRSIG → Contains listed t → owns m n t ≡ true
  owned_of t a c = by (from_list m n t c)
    where
      by : (owns m n t ≡ true) ⊎ (t ≡ RRSIG) ⊎ (t ≡ NSEC) → owns m n t ≡ true
      by (inl k) = k
      by (inr (inl e)) = absurd (a e)
      by (inr (inr e)) = ap (owns m n) e ∙ on

  listed_of : (t : ℕ) → owns m n t ≡ true → Contains listed t
  listed_of t k = list_has m n t (inl k)

  has_is : (t : ℕ) → t ≢ RRSIG → has listed t ≡ owns m n t
  has_is t a = both_ways (has listed t) (owns m n t) (λ e. owned_of t a (from_has listed t e)) (λ k. has_from listed t (listed_of t k))

  cuts_is : cuts listed ≡ owns m n NS && not (owns m n SOA)
  cuts_is = λ i. has_is NS (λ e. omega (arith, e)) i && not (has_is SOA (λ e. omega (arith, e)) i)

  untouched : is_delegation origin m n ≡ false → cuts listed ≡ false
  untouched e = cuts_is ∙ by (above_cases origin n (is_at_or_above_sound origin n inside))
    where
      by : (origin ≡ n) ⊎ IsAbove origin n → owns m n NS && not (owns m n SOA) ≡ false
      by (inl q) = and_false (owns m n NS) (owns m n SOA) (ap (λ x. owns m x SOA) (sym q) ∙ soa)
      by (inr w) = sym (ap (λ b. b && (owns m n NS && not (owns m n SOA))) ((above_test origin n).1 w)) ∙ e

  told_stays : is_delegation origin m n ≡ true → (t : ℕ) → is_stated_at_delegation t ≡ true → owns m n t ≡ true → stays listed t ≡ true
  told_stays d t told k = by (t == NS) (t == CNAME) (t == SOA) (t == DS) refl told
    where
      no_soa : owns m n SOA ≡ false
      no_soa = not_true (owns m n SOA) (and_right (owns m n NS) (not (owns m n SOA)) (and_right (is_above origin n) (owns m n NS && not (owns m n SOA)) d))

      by : (a b c e : Bool) → (t == SOA) ≡ c → a || (b || (c || e)) ≡ true → a || (b || (e || ((t == NSEC) || ((t == NSEC3) || ((t == RRSIG) && (has listed DS || has listed NSEC)))))) ≡ true
      by true b c e q g = refl
      by false true c e q g = refl
      by false false true e q g = absurd (true≢false (sym k ∙ ap (owns m n) (eqb-true t SOA q) ∙ no_soa))
      by false false false true q g = refl
      by false false false false q g = absurd (true≢false (sym g))

  -- it has NSEC and RRSIG, at a delegation too
  pub left_own : Contains (left listed) NSEC
  left_own = in_left listed NSEC (listed_of NSEC on) refl

  pub left_signed : Contains (left listed) RRSIG
  left_signed = in_left listed RRSIG (list_has m n RRSIG (inr (inl refl))) (or_right (has listed DS) (has listed NSEC) (has_from listed NSEC (listed_of NSEC on)))

  pub left_hashed : Contains (left listed) NSEC3 ↔ (owns m n NSEC3 ≡ true)
  left_hashed = (λ c. owned_of NSEC3 (λ e. omega (arith, e)) (from_left listed NSEC3 c), λ k. in_left listed NSEC3 (listed_of NSEC3 k) refl)

  pub left_right : IsRightList origin m n (left listed)
  left_right = record {
    at_delegation = λ d t told. (λ c. owned_of t (told_apart t RRSIG told refl) (from_left listed t c), λ k. in_left listed t (listed_of t k) (told_stays d t told k));
    exact = λ d t a b x. subst (λ xs. Contains xs t ↔ (owns m n t ≡ true)) (sym (all_left listed (untouched d))) (owned_of t a, listed_of t);
    signed = λ d s. left_signed;
  }

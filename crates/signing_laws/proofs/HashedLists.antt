-- The trimmed list of types of a name's NSEC3 set is right, in a zone whose origin owns NSEC3PARAM and an SOA
use Rattle.std.proofs.Common.{◌≡◌, ◌≢◌, ◌↔◌, ℕ, Bool, true, false, not, ◌&&◌, ◌||◌, List, [], ◌∷◌, length, refl, sym, ap, ◌∙◌, subst, true≢false, ◌⊎◌, inl, inr, arith, eqb-true, ◌==◌}
use Rattle.std.specs.Cmp.{both_ways}
use Rattle.std.specs.List.{Contains}
use Rattle.zone_proto.specs.declared.rr_key.RrKey.{RrKey}
use Rattle.zone_proto.specs.Names.{Name, name_eq, is_above, IsAbove, IsAtOrAbove}
use Rattle.zone_proto.specs.Sets.{RRset}
use Rattle.zone_proto.specs.Types.{NS, CNAME, SOA, DS, RRSIG, NSEC, NSEC3, NSEC3PARAM}
use Rattle.zone_proto.proofs.Members.{In, In-Contains, In-from_any, and_left, and_right, not_true}
use Rattle.zone_proto.proofs.Names.NameTree.{name_eq-Decides, above_test}
use Rattle.zone_proto.proofs.Names.Tree.{above_cases}
use Rattle.zone_map.specs.Zones.{Sets, owns}
use Rattle.zone_map.proofs.Owned.{entry_owned}
use Rattle.zone_denial.specs.Authority.{owns_besides}
use Rattle.zone_denial.specs.Chains.{has_signature, is_delegation, is_stated_at_delegation, IsRightList}
use Rattle.zone_denial.specs.Nsec3Circle.{nsec3_types, IsNsec3Type}
use Rattle.zone_denial.proofs.Hashed.Nsec3TypeLaws.{types_are_exact}
use Rattle.zone_denial.proofs.Names.AuthoritativeNames.{besides_from}
use Rattle.zone_trimming.proofs.TrimmedLists.{has, cuts, stays, left, has_from, from_has, from_left, in_left, all_left}
use Rattle.signing_laws.proofs.HashedNames.{origin_owns}

-- a type of which a list tells at a delegation isn't another one of which it doesn't
told_apart : (t u : ℕ) → is_stated_at_delegation t ≡ true → is_stated_at_delegation u ≡ false → t ≢ u
told_apart t u h k e = true≢false (sym h ∙ ap is_stated_at_delegation e ∙ k)

and_false : (a b : Bool) → b ≡ true → a && not b ≡ false
and_false true b e = ap not e
and_false false b e = refl

other_than_hashed : (t : ℕ) → t ≢ NSEC3 → not (t == NSEC3) ≡ true
other_than_hashed t ne = by (t == NSEC3) refl
  where
    by : (b : Bool) → (t == NSEC3) ≡ b → not b ≡ true
    by true e = absurd (ne (eqb-true t NSEC3 e))
    by false e = refl

module _ (origin : Name) (m : Sets) (announced : owns m origin NSEC3PARAM ≡ true) (soa : owns m origin SOA ≡ true) (n : Name) where
  -- ---- the whole list

  abbrev listed : List ℕ
  listed = nsec3_types origin m n

  listed_of : (t : ℕ) → t ≢ NSEC3 → owns m n t ≡ true → Contains listed t
  listed_of t ne k = (types_are_exact origin m n t).1 (inl (k, ne))

  owned_of : (t : ℕ) → t ≢ RRSIG → Contains listed t → owns m n t ≡ true
  owned_of t a c = by ((types_are_exact origin m n t).0 c)
    where
      by : IsNsec3Type origin m n t → owns m n t ≡ true
      by (inl (k, ne)) = k
      by (inr (inl (e, why))) = absurd (a e)
      by (inr (inr (e, same))) = (λ i. owns m (same i) (e i)) ∙ announced

  has_another : has_signature m n ≡ true → owns_besides m NSEC3 n ≡ true
  has_another s =
      let signs = λ (e : RrKey × RRset). (e.0.record_type.0 == RRSIG) || not (length e.1.signatures == 0) in
      let r = In-from_any (λ (e : RrKey × RRset). name_eq n e.0.name && (not (e.0.record_type.0 == NSEC3) && signs e)) m s in
      let same = (name_eq-Decides n r.0.0.name).0 (and_left (name_eq n r.0.0.name) (not (r.0.0.record_type.0 == NSEC3) && signs r.0) r.2) in
      let other = and_left (not (r.0.0.record_type.0 == NSEC3)) (signs r.0) (and_right (name_eq n r.0.0.name) (not (r.0.0.record_type.0 == NSEC3) && signs r.0) r.2) in
      besides_from m NSEC3 n r.0.0.record_type.0 other (ap (λ a. owns m a r.0.0.record_type.0) same ∙ entry_owned m r.0.0.name r.0.0.record_type.0 r.0 r.1 refl)

  none_listed : owns_besides m NSEC3 n ≡ false → listed ≡ []
  none_listed none = by listed refl
    where
      not_origin : n ≡ origin → ⊥
      not_origin e = true≢false (sym (origin_owns origin m false announced) ∙ ap (owns_besides m NSEC3) (sym e) ∙ none)

      of_type : (t : ℕ) → IsNsec3Type origin m n t → ⊥
      of_type t (inl (k, ne)) = true≢false (sym (besides_from m NSEC3 n t (other_than_hashed t ne) k) ∙ none)
      of_type t (inr (inl (e, inl same))) = not_origin same
      of_type t (inr (inl (e, inr some))) = true≢false (sym some ∙ none)
      of_type t (inr (inr (e, same))) = not_origin same

      by : (ts : List ℕ) → listed ≡ ts → ts ≡ []
      by [] e = refl
      by (t ∷ ts) e = absurd (of_type t ((types_are_exact origin m n t).0 (In-Contains t listed (subst (In t) (sym e) (inl refl)))))

  -- ---- the trimmed one

  pub no_hashed : Contains (left listed) NSEC3 → ⊥
  no_hashed c = by ((types_are_exact origin m n NSEC3).0 (from_left listed NSEC3 c))
    where
      by : IsNsec3Type origin m n NSEC3 → ⊥
      by (inl (k, ne)) = ne refl
      by (inr (inl (e, why))) = omega (arith, e)
      by (inr (inr (e, same))) = omega (arith, e)

  pub empty : owns_besides m NSEC3 n ≡ false → left listed ≡ []
  empty none = ap left (none_listed none)

  has_is : (t : ℕ) → t ≢ RRSIG → t ≢ NSEC3 → has listed t ≡ owns m n t
  has_is t a b = both_ways (has listed t) (owns m n t) (λ e. owned_of t a (from_has listed t e)) (λ k. has_from listed t (listed_of t b k))

  cuts_is : cuts listed ≡ owns m n NS && not (owns m n SOA)
  cuts_is = λ i. has_is NS (λ e. omega (arith, e)) (λ e. omega (arith, e)) i && not (has_is SOA (λ e. omega (arith, e)) (λ e. omega (arith, e)) i)

  module _ (inside : IsAtOrAbove origin n) where
    untouched : is_delegation origin m n ≡ false → left listed ≡ listed
    untouched e = all_left listed (cuts_is ∙ by (above_cases origin n inside))
      where
        by : (origin ≡ n) ⊎ IsAbove origin n → owns m n NS && not (owns m n SOA) ≡ false
        by (inl q) = and_false (owns m n NS) (owns m n SOA) (ap (λ x. owns m x SOA) (sym q) ∙ soa)
        by (inr w) = sym (ap (λ b. b && (owns m n NS && not (owns m n SOA))) ((above_test origin n).1 w)) ∙ e

    told_stays : is_delegation origin m n ≡ true → (t : ℕ) → is_stated_at_delegation t ≡ true → owns m n t ≡ true → stays listed t ≡ true
    told_stays d t told k = by (t == NS) (t == CNAME) (t == SOA) (t == DS) refl told
      where
        no_soa : owns m n SOA ≡ false
        no_soa = not_true (owns m n SOA) (and_right (owns m n NS) (not (owns m n SOA)) (and_right (is_above origin n) (owns m n NS && not (owns m n SOA)) d))

        by : (a b c e : Bool) → (t == SOA) ≡ c → a || (b || (c || e)) ≡ true → a || (b || (e || ((t == NSEC) || ((t == NSEC3) || ((t == RRSIG) && (has listed DS || has listed NSEC)))))) ≡ true
        by true b c e q g = refl
        by false true c e q g = refl
        by false false true e q g = absurd (true≢false (sym k ∙ ap (owns m n) (eqb-true t SOA q) ∙ no_soa))
        by false false false true q g = refl
        by false false false false q g = absurd (true≢false (sym g))

    pub right_list : IsRightList origin m n (left listed)
    right_list = record {
      at_delegation =
          λ d t told. (
            λ c. owned_of t (told_apart t RRSIG told refl) (from_left listed t c),
            λ k. in_left listed t (listed_of t (told_apart t NSEC3 told refl) k) (told_stays d t told k),
          );
      exact = λ d t a w b. subst (λ xs. Contains xs t ↔ (owns m n t ≡ true)) (sym (untouched d)) (owned_of t a, listed_of t b);
      signed = λ d s. subst (λ xs. Contains xs RRSIG) (sym (untouched d)) ((types_are_exact origin m n RRSIG).1 (inr (inl (refl, inr (has_another s)))));
    }

    pub nsec_listed : is_delegation origin m n ≡ false → owns m n NSEC ≡ true → Contains (left listed) NSEC
    nsec_listed d k = subst (λ xs. Contains xs NSEC) (sym (untouched d)) (listed_of NSEC (λ e. omega (arith, e)) k)

    pub nsec_owned : Contains (left listed) NSEC → owns m n NSEC ≡ true
    nsec_owned c = owned_of NSEC (λ e. omega (arith, e)) (from_left listed NSEC c)

-- A circle of denials, as a zone has it that is secured, is a chain, and its sets are all of that chain
use Rattle.std.proofs.Common.{◌≡◌, ◌≢◌, ℕ, Bool, true, false, not, ◌&&◌, ◌||◌, List, [], ◌∷◌, ◌++◌, refl, sym, ap, ◌∙◌, subst, true≢false, ◌⊎◌, inl, inr, arith, eqb-true, eq-eqb, Decides}
use Rattle.std.specs.Prelude.{Option, Some, filter, is_some, unwrap_or, length, ◌==◌}
use Rattle.std.specs.List.{Contains}
use Rattle.std.specs.Option.{option_map_or}
use Rattle.std.proofs.lemmas.List.{length-append}
use Rattle.std.proofs.lemmas.Slice.Eq.{slice_eq-Decides}
use Rattle.zone_proto.specs.declared.rdata.denial.NSEC3PARAM.{NSEC3PARAM as Nsec3Parameters}
use Rattle.zone_proto.specs.declared.rr_key.RrKey.{RrKey}
use Rattle.zone_proto.specs.Data.{same_octets}
use Rattle.zone_proto.specs.HashedOwners.{hashed_owner}
use Rattle.zone_proto.specs.Names.{Name, name_cmp, name_eq, is_above, is_at_or_above, IsAbove, IsAtOrAbove}
use Rattle.zone_proto.specs.Order.{is_before}
use Rattle.zone_proto.specs.Sets.{RRset}
use Rattle.zone_proto.specs.Types.{NS, SOA, DS, RRSIG, NSEC, NSEC3, NSEC3PARAM}
use Rattle.zone_proto.proofs.Members.{In, In-Contains, Contains-In, In-filter, In-from_filter, In-from_any, and_left, and_right, not_true}
use Rattle.zone_proto.proofs.Names.NameTree.{name_eq-Decides, above_test, is_at_or_above_sound, is_at_or_above_complete}
use Rattle.zone_proto.proofs.Names.Tree.{name_order, above_cases}
use Rattle.zone_proto.proofs.Ordering.Orders.{greatest_same}
use Rattle.zone_map.specs.Zones.{Sets, set_at, owns, owners, names_of}
use Rattle.zone_map.proofs.Owned.{entry_owned, owner_in, owner_owned}
use Rattle.zone_denial.specs.Authority.{is_authoritative, authoritative_names, owns_besides}
use Rattle.zone_denial.specs.ChainLaws.{NsecCircleIsChain, Nsec3CircleIsChain, NsecCircleStays, Nsec3CircleStays}
use Rattle.zone_denial.specs.Chains.{has_parameters, is_insecure_delegation, is_below_dname, has_signature, is_stated_at_delegation, IsRightList, next_owner, may_be_left_out}
use Rattle.zone_denial.specs.NsecCircle.{nsec_next}
use Rattle.zone_denial.specs.NsecLaws.{IsNsecZone}
use Rattle.zone_denial.specs.Nsec3Circle.{nsec3_types, IsNsec3Type}
use Rattle.zone_denial.specs.Nsec3Names.{is_unsigned_delegation, counted_names, nsec3_names, IsNsec3Name}
use Rattle.zone_denial.specs.Nsec3Zones.{IsNsec3Zone}
use Rattle.zone_denial.specs.TypeLists.{nsec_types}
use Rattle.zone_denial.proofs.Chain.NsecBelow.{above_at, above_through}
use Rattle.zone_denial.proofs.Chain.NsecCircle.{origin_on_circle}
use Rattle.zone_denial.proofs.Chain.NsecLists.{list_has, from_list}
use Rattle.zone_denial.proofs.Chains.ChainSets.{all_by_nsec, all_by_nsec3}
use Rattle.zone_denial.proofs.Hashed.Nsec3Enclosers.{origin_in}
use Rattle.zone_denial.proofs.Hashed.Nsec3Lists.{delegation_type}
use Rattle.zone_denial.proofs.Hashed.Nsec3NameLaws.{names_are_exact}
use Rattle.zone_denial.proofs.Hashed.Nsec3TypeLaws.{types_are_exact}
use Rattle.zone_denial.proofs.InOrder.{flipped}
use Rattle.zone_denial.proofs.Names.AuthoritativeNames.{authoritative_from, authoritative_listed, besides_from, from_besides, origin_uncut}

-- a type of which a list tells at a delegation isn't another one of which it doesn't
told_apart : (t u : ℕ) → is_stated_at_delegation t ≡ true → is_stated_at_delegation u ≡ false → t ≢ u
told_apart t u h k e = true≢false (sym h ∙ ap is_stated_at_delegation e ∙ k)

-- ---- NSEC

module _ (origin : Name) (m : Sets) (h : IsNsecZone origin m) where
  -- the owners of NSEC are the authoritative names
  same_next : (n : Name) → nsec_next origin m n ≡ next_owner origin m n
  same_next n = ap (λ p. unwrap_or p origin) (greatest_same (flipped name_order) authorities owned to from)
    where
      authorities : List Name
      authorities = filter (is_before name_cmp n) (authoritative_names origin m NSEC)

      owned : List Name
      owned = filter (is_before name_cmp n) (owners m NSEC)

      to : (a : Name) → In a authorities → In a owned
      to a i =
          let r = In-from_filter (is_before name_cmp n) a (authoritative_names origin m NSEC) i in
          let k = h.circle.one_for_each a ∙ (In-from_filter (is_authoritative origin m NSEC) a (names_of m) r.0).1 in
          In-filter (is_before name_cmp n) a (owners m NSEC) (owner_in m a NSEC k) r.1

      from : (a : Name) → In a owned → In a authorities
      from a i =
          let r = In-from_filter (is_before name_cmp n) a (owners m NSEC) i in
          In-filter (is_before name_cmp n) a (authoritative_names origin m NSEC) (authoritative_listed origin m NSEC a (sym (h.circle.one_for_each a) ∙ owner_owned m a NSEC r.0)) r.1

  module _ (n : Name) (on : owns m n NSEC ≡ true) where
    owned_of : (t : ℕ) → t ≢ RRSIG → Contains (nsec_types m n) t → owns m n t ≡ true
    owned_of t a c = by (from_list m n t c)
      where
        by : (owns m n t ≡ true) ⊎ (t ≡ RRSIG) ⊎ (t ≡ NSEC) → owns m n t ≡ true
        by (inl k) = k
        by (inr (inl e)) = absurd (a e)
        by (inr (inr e)) = ap (owns m n) e ∙ on

    listed_of : (t : ℕ) → owns m n t ≡ true → Contains (nsec_types m n) t
    listed_of t k = list_has m n t (inl k)

    right_list : IsRightList origin m n (nsec_types m n)
    right_list = record {
      at_delegation = λ d t told. (owned_of t (told_apart t RRSIG told refl), listed_of t);
      exact = λ d t a w b. (owned_of t a, listed_of t);
      signed = λ d s. list_has m n RRSIG (inr (inl refl));
    }

pub nsec_circle_is_chain : NsecCircleIsChain
nsec_circle_is_chain origin m h = record {
  zone = h.zone;
  begins = origin_on_circle origin m h;
  authoritative = λ n k. sym (h.circle.one_for_each n) ∙ k;
  complete = λ n k. inl (h.circle.one_for_each n ∙ k);
  each = λ n s e.
      let c = h.circle.each n s e in
      let on = ap is_some e in
      record {
        single = c.single;
        next = c.next ∙ ap Some (same_next origin m h n);
        types = nsec_types m n;
        listed = c.list;
        right = right_list origin m h n on;
        own = λ d. listed_of origin m h n on NSEC on;
        hashed = (owned_of origin m h n on NSEC3 (λ e. omega (arith, e)), listed_of origin m h n on NSEC3);
      };
}

pub nsec_circle_stays : NsecCircleStays
nsec_circle_stays origin m h none = all_by_nsec m none

-- ---- NSEC3

other_than_hashed : (t : ℕ) → t ≢ NSEC3 → not (t == NSEC3) ≡ true
other_than_hashed t ne = by (t == NSEC3) refl
  where
    by : (b : Bool) → (t == NSEC3) ≡ b → not b ≡ true
    by true e = absurd (ne (eqb-true t NSEC3 e))
    by false e = refl

module _ (origin : Name) (m : Sets) (hash : Name → Option (List ℕ)) (parameters : Nsec3Parameters) (h : IsNsec3Zone origin m hash parameters) where
  abbrev names : List Name
  names = nsec3_names origin m parameters.opt_out

  -- ---- the lists

  origin_owns : owns_besides m NSEC3 origin ≡ true
  origin_owns = besides_from m NSEC3 origin NSEC3PARAM refl h.circle.announced

  module _ (n : Name) where
    hashed_listed : (t : ℕ) → t ≢ NSEC3 → owns m n t ≡ true → Contains (nsec3_types origin m n) t
    hashed_listed t ne k = (types_are_exact origin m n t).1 (inl (k, ne))

    hashed_owned : (t : ℕ) → t ≢ RRSIG → Contains (nsec3_types origin m n) t → owns m n t ≡ true
    hashed_owned t a c = by ((types_are_exact origin m n t).0 c)
      where
        by : IsNsec3Type origin m n t → owns m n t ≡ true
        by (inl (k, ne)) = k
        by (inr (inl (e, why))) = absurd (a e)
        by (inr (inr (e, same))) = (λ i. owns m (same i) (e i)) ∙ h.circle.announced

    has_another : has_signature m n ≡ true → owns_besides m NSEC3 n ≡ true
    has_another s =
        let signs = λ (e : RrKey × RRset). (e.0.record_type.0 == RRSIG) || not (length e.1.signatures == 0) in
        let r = In-from_any (λ (e : RrKey × RRset). name_eq n e.0.name && (not (e.0.record_type.0 == NSEC3) && signs e)) m s in
        let same = (name_eq-Decides n r.0.0.name).0 (and_left (name_eq n r.0.0.name) (not (r.0.0.record_type.0 == NSEC3) && signs r.0) r.2) in
        let other = and_left (not (r.0.0.record_type.0 == NSEC3)) (signs r.0) (and_right (name_eq n r.0.0.name) (not (r.0.0.record_type.0 == NSEC3) && signs r.0) r.2) in
        besides_from m NSEC3 n r.0.0.record_type.0 other (ap (λ a. owns m a r.0.0.record_type.0) same ∙ entry_owned m r.0.0.name r.0.0.record_type.0 r.0 r.1 refl)

    hashed_right : IsRightList origin m n (nsec3_types origin m n)
    hashed_right = record {
      at_delegation = λ d t told. (hashed_owned t (told_apart t RRSIG told refl), hashed_listed t (told_apart t NSEC3 told refl));
      exact = λ d t a w b. (hashed_owned t a, hashed_listed t b);
      signed = λ d s. (types_are_exact origin m n RRSIG).1 (inr (inl (refl, inr (has_another s))));
    }

    no_hashed : Contains (nsec3_types origin m n) NSEC3 → ⊥
    no_hashed c = by ((types_are_exact origin m n NSEC3).0 c)
      where
        by : IsNsec3Type origin m n NSEC3 → ⊥
        by (inl (k, ne)) = ne refl
        by (inr (inl (e, why))) = omega (arith, e)
        by (inr (inr (e, same))) = omega (arith, e)

    empty : owns_besides m NSEC3 n ≡ false → nsec3_types origin m n ≡ []
    empty none = by (nsec3_types origin m n) refl
      where
        not_origin : n ≡ origin → ⊥
        not_origin e = true≢false (sym origin_owns ∙ ap (owns_besides m NSEC3) (sym e) ∙ none)

        of_type : (t : ℕ) → IsNsec3Type origin m n t → ⊥
        of_type t (inl (k, ne)) = true≢false (sym (besides_from m NSEC3 n t (other_than_hashed t ne) k) ∙ none)
        of_type t (inr (inl (e, inl same))) = not_origin same
        of_type t (inr (inl (e, inr some))) = true≢false (sym some ∙ none)
        of_type t (inr (inr (e, same))) = not_origin same

        by : (ts : List ℕ) → nsec3_types origin m n ≡ ts → ts ≡ []
        by [] e = refl
        by (t ∷ ts) e = absurd (of_type t ((types_are_exact origin m n t).0 (In-Contains t (nsec3_types origin m n) (subst (In t) (sym e) (inl refl)))))

  -- ---- the names

  named : (n : Name) → IsNsec3Name origin m parameters.opt_out n → Contains names n
  named n = (names_are_exact origin m parameters.opt_out n).1

  begins : Contains names origin
  begins = In-Contains origin names (origin_in origin m parameters.opt_out)

  between : (n a : Name) → Contains names n → IsAtOrAbove origin a → IsAtOrAbove a n → Contains names a
  between n a c u v = by ((names_are_exact origin m parameters.opt_out n).0 c) (above_cases origin a u)
    where
      at_origin : n ≡ origin → IsAbove origin a → IsAtOrAbove origin n → (a ≡ n) ⊎ IsAbove a n → Contains names a
      at_origin e w x (inl q) = subst (Contains names) (sym (q ∙ e)) begins
      at_origin e w x (inr q) = absurd (nothing_strictly_between (subst (IsAbove a) e q) w)
        where
          nothing_strictly_between : IsAbove a origin → IsAbove origin a → ⊥
          nothing_strictly_between (l, f, p) (k, g, q) = absurd (shorter l f p k g q)
            where
              shorter : (l : List ℕ) (f : Name) → origin ≡ (l ∷ f) ++ a → (k : List ℕ) (g : Name) → a ≡ (k ∷ g) ++ origin → ⊥
              shorter l f p k g q = omega (arith, ap length p, length-append (l ∷ f) a, ap length q, length-append (k ∷ g) origin)

      by : IsNsec3Name origin m parameters.opt_out n → (origin ≡ a) ⊎ IsAbove origin a → Contains names a
      by n_is (inl e) = subst (Contains names) e begins
      by (inl e) (inr w) = at_origin e w (above_through origin a n u v) (above_cases a n v)
      by (inr (above, (c, i, at))) (inr w) = named a (inr (w, (c, i, above_through a n c v at)))

  origin_authoritative : is_authoritative origin m NSEC3 origin ≡ true
  origin_authoritative = authoritative_from origin m NSEC3 origin (is_at_or_above_complete origin origin ([], refl)) origin_owns (origin_uncut origin m)

  authoritative : (n : Name) → Contains names n → IsAtOrAbove origin n × ((c : Name) × (is_authoritative origin m NSEC3 c ≡ true) × IsAtOrAbove n c)
  authoritative n k = by ((names_are_exact origin m parameters.opt_out n).0 k)
    where
      by : IsNsec3Name origin m parameters.opt_out n → IsAtOrAbove origin n × ((c : Name) × (is_authoritative origin m NSEC3 c ≡ true) × IsAtOrAbove n c)
      by (inl e) = (([], e), (origin, origin_authoritative, ([], sym e)))
      by (inr (above, (c, i, at))) = (
        above_at origin n above,
        (c, (In-from_filter (is_authoritative origin m NSEC3) c (names_of m) (In-from_filter (λ n. not (parameters.opt_out && (not (name_eq n origin) && is_unsigned_delegation m n))) c (authoritative_names origin m NSEC3) (Contains-In c (counted_names origin m parameters.opt_out) i)).0).1, at),
      )

  -- what opt-out leaves out is a delegation without DS
  left_out : (n : Name) → is_authoritative origin m NSEC3 n ≡ true → name_eq n origin ≡ false → is_unsigned_delegation m n ≡ true → is_insecure_delegation origin m n ≡ true
  left_out n a other un = λ i. (below i && (ns i && not (soa i))) && not (ds i)
    where
      inside : IsAtOrAbove origin n
      inside = is_at_or_above_sound origin n (and_left (is_at_or_above origin n) _ a)

      below : is_above origin n ≡ true
      below = by (above_cases origin n inside)
        where
          by : (origin ≡ n) ⊎ IsAbove origin n → is_above origin n ≡ true
          by (inl e) = absurd (true≢false (sym ((name_eq-Decides n origin).1 (sym e)) ∙ other))
          by (inr w) = (above_test origin n).1 w

      some : (t : ℕ) × (not (t == NSEC3) ≡ true) × (owns m n t ≡ true)
      some = from_besides m NSEC3 n (and_left (owns_besides m NSEC3 n) _ (and_right (is_at_or_above origin n) _ a))

      not_hashed : (t : ℕ) → not (t == NSEC3) ≡ true → t ≢ NSEC3
      not_hashed t p e = true≢false (sym (eq-eqb t NSEC3 e) ∙ not_true (t == NSEC3) p)

      ns : owns m n NS ≡ true
      ns = ap (owns m n) (sym (delegation_type m n some.0 (not_hashed some.0 some.1) some.2 un)) ∙ some.2

      unowned : (t : ℕ) → t ≢ NSEC3 → t ≢ NS → owns m n t ≡ false
      unowned t p q = by (owns m n t) refl
        where
          by : (b : Bool) → owns m n t ≡ b → b ≡ false
          by false e = refl
          by true e = absurd (q (delegation_type m n t p e un))

      soa : owns m n SOA ≡ false
      soa = unowned SOA (λ e. omega (arith, e)) (λ e. omega (arith, e))

      ds : owns m n DS ≡ false
      ds = unowned DS (λ e. omega (arith, e)) (λ e. omega (arith, e))

  complete : (n : Name) → is_authoritative origin m NSEC3 n ≡ true → Contains names n ⊎ (may_be_left_out origin m parameters.opt_out n ≡ true)
  complete n a = by parameters.opt_out (name_eq n origin) (is_unsigned_delegation m n) refl refl refl
    where
      counts : Name → Bool
      counts n = not (parameters.opt_out && (not (name_eq n origin) && is_unsigned_delegation m n))

      inside : IsAtOrAbove origin n
      inside = is_at_or_above_sound origin n (and_left (is_at_or_above origin n) _ a)

      counted : counts n ≡ true → Contains names n
      counted p = of (above_cases origin n inside)
        where
          of : (origin ≡ n) ⊎ IsAbove origin n → Contains names n
          of (inl e) = subst (Contains names) e begins
          of (inr w) =
              named n
              (inr
              (w, (n, In-Contains n (counted_names origin m parameters.opt_out) (In-filter counts n (authoritative_names origin m NSEC3) (authoritative_listed origin m NSEC3 n a) p), ([], refl))))

      or_true : (b : Bool) → b || true ≡ true
      or_true true = refl
      or_true false = refl

      by : (o e u : Bool) → parameters.opt_out ≡ o → name_eq n origin ≡ e → is_unsigned_delegation m n ≡ u → Contains names n ⊎ (may_be_left_out origin m parameters.opt_out n ≡ true)
      by false e u p q r = inl (counted (ap (λ b. not (b && (not (name_eq n origin) && is_unsigned_delegation m n))) p))
      by true true u p q r = inl (counted ((λ i. not (p i && (not (q i) && is_unsigned_delegation m n)))))
      by true false false p q r = inl (counted ((λ i. not (p i && (not (q i) && r i)))))
      by true false true p q r = inr ((λ i. is_below_dname m n || (p i && left_out n a q r i)) ∙ or_true (is_below_dname m n))

pub nsec3_circle_is_chain : Nsec3CircleIsChain
nsec3_circle_is_chain origin beside m hash parameters h = record {
  zone = h.zone;
  begins = begins origin m hash parameters h;
  between = between origin m hash parameters h;
  authoritative = authoritative origin m hash parameters h;
  complete = complete origin m hash parameters h;
  one_for_each = λ n d c e.
      let r = h.circle.one_for_each n d c e in (
        r.0,
        r.1,
        record {
          single = r.2.single;
          types = nsec3_types origin m n;
          says = r.2.says;
          right = hashed_right origin m hash parameters h n;
          nsec = λ d. (hashed_listed origin m hash parameters h n NSEC (λ e. omega (arith, e)), λ c. inl (hashed_owned origin m hash parameters h n NSEC (λ e. omega (arith, e)) c));
          no_hashed = no_hashed origin m hash parameters h n;
          empty = empty origin m hash parameters h n;
        },
      );
  no_other = h.circle.no_other;
  announced = h.circle.announced;
}

-- each NSEC3 set has the parameters of the circle
number_Decides : (a b : ℕ) → Decides (a == b) (a ≡ b)
number_Decides a b = (λ e. eqb-true a b e, λ e. eq-eqb a b e)

octets_itself : (xs : List ℕ) → same_octets xs xs ≡ true
octets_itself xs = (slice_eq-Decides number_Decides xs xs (same_octets xs xs) refl).1 refl

pub nsec3_circle_stays : Nsec3CircleStays
nsec3_circle_stays origin m hash parameters h none =
    all_by_nsec3 m h.zone parameters.algorithm parameters.salt parameters.iterations parameters.opt_out none (λ n s e. by n s e (h.circle.no_other n (ap is_some e)))
  where
    same_set : (p : Option RRset) (s r : RRset) → p ≡ Some s → p ≡ Some r → s ≡ r
    same_set p s r e f = cc

    by : (n : Name) (s : RRset) → set_at m n NSEC3 ≡ Some s → (a : Name) × (d : List ℕ) × Contains (nsec3_names origin m parameters.opt_out) a × (hash a ≡ Some d) × (n ≡ hashed_owner origin d)
        → has_parameters parameters.algorithm parameters.salt parameters.iterations s ≡ true
    by n s e (a, d, c, k, o) =
        let r = h.circle.one_for_each a d c k in
        let same : s ≡ r.0 = same_set (set_at m n NSEC3) s r.0 e (ap (λ w. set_at m w NSEC3) o ∙ r.1) in
        ap (has_parameters parameters.algorithm parameters.salt parameters.iterations) same
        ∙ ap (λ p. option_map_or (λ a. (a.algorithm == parameters.algorithm) && (same_octets a.salt parameters.salt && (a.iterations == parameters.iterations))) p false) r.2.says
        ∙ (λ i. eq-eqb parameters.algorithm parameters.algorithm refl i && (octets_itself parameters.salt i && eq-eqb parameters.iterations parameters.iterations refl i))

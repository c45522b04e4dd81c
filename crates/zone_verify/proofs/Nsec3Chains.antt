-- NSEC3 sets that the program found right are a chain
use Rattle.std.proofs.Common.{◌≡◌, ℕ, Bool, true, false, not, ◌&&◌, ◌||◌, List, [], ◌∷◌, map, refl, sym, ap, ◌∙◌, subst, true≢false, ◌⊎◌, inl, inr, arith, eqb-true, eq-eqb}
use Rattle.std.specs.Prelude.{Option, Some, None, filter_map, length, ◌==◌}
use Rattle.std.specs.List.{Contains, cons_option}
use Rattle.std.specs.Bool.{Decides}
use Rattle.std.specs.Map.{keys_of}
use Rattle.std.specs.Option.{option_map_or}
use Rattle.std.proofs.lemmas.Slice.Eq.{slice_eq-Decides}
use Rattle.zone_proto.specs.declared.nx_proof_kind.NxProofKind.{NxProofKind}
use Rattle.zone_proto.specs.declared.nx_proof_kind.NxProofKind.TheVariants as kind
use Rattle.zone_proto.specs.declared.rdata.denial.NSEC3.{NSEC3 as Nsec3Data}
use Rattle.zone_proto.specs.declared.rdata.denial.NSEC3PARAM.{NSEC3PARAM as Nsec3Parameters}
use Rattle.zone_proto.specs.declared.record_type.RecordType.{RecordType}
use Rattle.zone_proto.specs.declared.rr_key.RrKey.{RrKey}
use Rattle.zone_proto.specs.Data.{same_octets}
use Rattle.zone_proto.specs.HashedOwners.{hashed_owner}
use Rattle.zone_proto.specs.Keys.{key, key_cmp}
use Rattle.zone_proto.specs.Names.{Name, name_eq, is_above, is_at_or_above, IsAtOrAbove}
use Rattle.zone_proto.specs.Sets.{RRset}
use Rattle.zone_proto.specs.Types.{NS, RRSIG, NSEC, NSEC3, NSEC3PARAM}
use Rattle.zone_proto.proofs.Members.{In, In-Contains, Contains-In, In-from_any, any_from_In, In-map, In-from_map, and_left, and_right, not_true, or_right}
use Rattle.zone_proto.proofs.Names.NameTree.{name_eq-Decides, above_test, is_at_or_above_complete}
use Rattle.zone_map.specs.Zones.{Sets, IsZone, set_at, owns, owners}
use Rattle.zone_map.proofs.Owned.{entry_owned}
use Rattle.zone_denial.specs.Authority.{is_authoritative, is_below_cut, owns_besides}
use Rattle.zone_denial.specs.AuthoritativeKeys.{authoritative_keys}
use Rattle.zone_denial.specs.Chains.{chain_sets, is_delegation, is_stated_at_delegation, has_signature, may_be_left_out, IsRightList, IsInNsec3Chain, IsNsec3Chain}
use Rattle.zone_denial.specs.Nsec3Circle.{digests, next_digest, nsec3_data, first_nsec3}
use Rattle.zone_denial.proofs.Ascending.{Ascends-from_sorted}
use Rattle.zone_denial.proofs.Chains.ChainSets.{sets_are, is_zone, found_entry}
use Rattle.zone_denial.proofs.Names.AuthoritativeNames.{authoritative_from, besides_from, from_besides, origin_uncut}
use Rattle.zone_denial.proofs.Names.LongestAncestors.{above_below}
use Rattle.zone_denial.proofs.Sets.CircleKeys.{circle_key_from, circle_key_in, key_owned}
use Rattle.zone_verify.specs.declared.nsec3_name.ChainName.{ChainName}
use Rattle.zone_verify.specs.Lists.{IsKeyListed, is_stated_at}
use Rattle.zone_verify.specs.Nsec3Names.{HasNsec3, IsNamed, IsKeyName, AreChainNames, IsNsec3Key}

number_Decides : (a b : ℕ) → Decides (a == b) (a ≡ b)
number_Decides a b = (λ e. eqb-true a b e, λ e. eq-eqb a b e)

same_salt : (xs ys : List ℕ) → same_octets xs ys ≡ true → xs ≡ ys
same_salt xs ys e = (slice_eq-Decides number_Decides xs ys (same_octets xs ys) refl).0 e

other_than_hashed : (t : ℕ) → (t ≡ NSEC3 → ⊥) → not (t == NSEC3) ≡ true
other_than_hashed t ne = by (t == NSEC3) refl
  where
    by : (b : Bool) → (t == NSEC3) ≡ b → not b ≡ true
    by true e = absurd (ne (eqb-true t NSEC3 e))
    by false e = refl

numbers : (types : List RecordType) → types ≡ map (λ (t : ℕ). record { 0 = t }) (map (λ (t : RecordType). t.0) types)
numbers [] = refl
numbers (t ∷ ts) = ap (λ (us : List RecordType). t ∷ us) (numbers ts)

module _ (origin : Name) (all : Sets) (zone : IsZone all) (hash : Name → Option (List ℕ)) (p : Nsec3Parameters) where
  abbrev chain : Option NxProofKind
  chain = Some (kind.Nsec3 p.algorithm p.salt p.iterations p.opt_out)

  abbrev m : Sets
  m = chain_sets chain all

  module _ (announced : owns m origin NSEC3PARAM ≡ true) (ks : List RrKey) (keys_are : ks ≡ authoritative_keys origin m NSEC3) (names : List ChainName)
      (are : AreChainNames origin all m hash p.opt_out ks names)
      (keyed : (k : RrKey) → Contains ks k → IsNsec3Key origin m hash p.opt_out names k)
      (linked : (c : ChainName) → Contains names c → c.data.now.next_hashed_owner_name ≡ next_digest (map (λ (c : ChainName). c.digest) names) c.digest)
      (owned : (o : Name) → owns m o NSEC3 ≡ true → (c : ChainName) × Contains names c × (c.owner ≡ o)) where
    abbrev ns : List Name
    ns = map (λ (c : ChainName). c.name) names

    named_in : (n : Name) → IsNamed names n → Contains ns n
    named_in n (c, i, e) = In-Contains n ns (subst (λ w. In w ns) e (In-map (λ (c : ChainName). c.name) c names (Contains-In c names i)))

    in_named : (n : Name) → Contains ns n → IsNamed names n
    in_named n i = let r = In-from_map (λ (c : ChainName). c.name) n names (Contains-In n ns i) in (r.0, In-Contains r.0 names r.1, r.2)

    digests_of : (cs : List ChainName) → ((c : ChainName) → In c cs → hash c.name ≡ Some c.digest) → filter_map hash (map (λ (c : ChainName). c.name) cs) ≡ map (λ (c : ChainName). c.digest) cs
    digests_of [] h = refl
    digests_of (c ∷ cs) h = let later = digests_of cs (λ d i. h d (inr i)) in let own = h c (inl refl) in λ i. cons_option (own i) (later i)

    digests_are : digests hash ns ≡ map (λ (c : ChainName). c.digest) names
    digests_are = digests_of names (λ c i. (are.each c (In-Contains c names i)).has.digest)

    -- ---- names

    key_authoritative : (k : RrKey) → Contains ks k → is_authoritative origin m NSEC3 k.name ≡ true
    key_authoritative k i = and_right (not (k.record_type.0 == NSEC3)) (is_authoritative origin m NSEC3 k.name) (circle_key_from origin m NSEC3 k (subst (In k) keys_are (Contains-In k ks i))).1

    origin_owns : owns_besides m NSEC3 origin ≡ true
    origin_owns = besides_from m NSEC3 origin NSEC3PARAM refl announced

    named_authoritative : (n : Name) → IsKeyName origin ks n → is_authoritative origin m NSEC3 n ≡ true
    named_authoritative n (inl e) =
        ap (is_authoritative origin m NSEC3) e ∙ authoritative_from origin m NSEC3 origin (is_at_or_above_complete origin origin ([], refl)) origin_owns (origin_uncut origin m)
    named_authoritative n (inr (k, i, e)) = ap (is_authoritative origin m NSEC3) e ∙ key_authoritative k i

    uncut : (n : Name) → is_authoritative origin m NSEC3 n ≡ true → is_below_cut origin m n ≡ false
    uncut n a = not_true (is_below_cut origin m n) (and_right (owns_besides m NSEC3 n) (not (is_below_cut origin m n)) (and_right (is_at_or_above origin n) (owns_besides m NSEC3 n && not (is_below_cut origin m n)) a))

    chain_uncut : (c : ChainName) → Contains names c → is_below_cut origin m c.name ≡ false
    chain_uncut c i = by (is_below_cut origin m c.name) refl
      where
        cuts : Name → Name → Bool
        cuts n a = is_above origin a && is_above a n

        by : (b : Bool) → is_below_cut origin m c.name ≡ b → b ≡ false
        by false e = refl
        by true e =
            let r = In-from_any (λ a. is_above origin a && is_above a c.name) (owners m NS) e in
            let b = (are.each c i).below in
            let lower = (above_test r.0 b.0).1 (above_below r.0 c.name b.0 ((above_test r.0 c.name).0 (and_right (is_above origin r.0) (is_above r.0 c.name) r.2)) b.2) in
            absurd
            (true≢false
            (sym (any_from_In (λ a. is_above origin a && is_above a b.0) r.0 (owners m NS) r.1 (λ j. and_left (is_above origin r.0) (is_above r.0 c.name) r.2 j && lower j))
            ∙ uncut b.0 (named_authoritative b.0 b.1)))

    key_right : (n : Name) (t : ℕ) → is_authoritative origin m NSEC3 n ≡ true → (t ≡ NSEC3 → ⊥) → owns m n t ≡ true → IsNsec3Key origin m hash p.opt_out names (key n t)
    key_right n t on ne k = keyed (key n t) (In-Contains (key n t) ks (subst (In (key n t)) (sym keys_are) (circle_key_in origin m NSEC3 n t k (other_than_hashed t ne) on)))

    not_hashed : (t : ℕ) → not (t == NSEC3) ≡ true → t ≡ NSEC3 → ⊥
    not_hashed t q e = true≢false (sym (eq-eqb t NSEC3 e) ∙ not_true (t == NSEC3) q)

    authoritative : (n : Name) → Contains ns n → IsAtOrAbove origin n × ((c : Name) × (is_authoritative origin m NSEC3 c ≡ true) × IsAtOrAbove n c)
    authoritative n i =
        let r = in_named n i in let c = are.each r.0 r.1 in
        (subst (IsAtOrAbove origin) r.2 c.inside, (c.below.0, named_authoritative c.below.0 c.below.1, subst (λ w. IsAtOrAbove w c.below.0) r.2 c.below.2))

    complete : (n : Name) → is_authoritative origin m NSEC3 n ≡ true → Contains ns n ⊎ (may_be_left_out origin m p.opt_out n ≡ true)
    complete n a =
        let some = from_besides m NSEC3 n (and_left (owns_besides m NSEC3 n) (not (is_below_cut origin m n)) (and_right (is_at_or_above origin n) (owns_besides m NSEC3 n && not (is_below_cut origin m n)) a)) in
        by some.0 (key_right n some.0 a (not_hashed some.0 some.1) some.2)
      where
        by : (t : ℕ) → IsNsec3Key origin m hash p.opt_out names (key n t) → Contains ns n ⊎ (may_be_left_out origin m p.opt_out n ≡ true)
        by t (inl h) = inl (named_in n (h.0, h.1, h.2))
        by t (inr h) = inr h.0

    -- ---- the set of a name

    same_digest : (o : Option (List ℕ)) (d e : List ℕ) → o ≡ Some d → o ≡ Some e → d ≡ e
    same_digest o d e q r = cc

    same_set : (o : Option RRset) (s r : RRset) → o ≡ Some s → o ≡ Some r → s ≡ r
    same_set o s r e f = cc

    same_data : (o : Option Nsec3Data) (s r : Nsec3Data) → o ≡ Some s → o ≡ Some r → s ≡ r
    same_data o s r e f = cc

    not_both : (o : Option RRset) (s : RRset) → o ≡ None → o ≡ Some s → ⊥
    not_both o s e f = cc

    module _ (c : ChainName) (i : Contains names c) where
      has : HasNsec3 origin m hash p.opt_out c
      has = (are.each c i).has

      abbrev types : List ℕ
      types = map (λ (t : RecordType). t.0) c.data.now.types

      abbrev delegated : Bool
      delegated = is_delegation origin m c.name

      -- another one of this name says the same
      same_said : (d : ChainName) → Contains names d → d.name ≡ c.name → d.data.now ≡ c.data.now
      same_said d j e =
          let other = (are.each d j).has in
          let digest = same_digest (hash c.name) d.digest c.digest (ap hash (sym e) ∙ other.digest) has.digest in
          let owner = other.owner ∙ ap (hashed_owner origin) digest ∙ sym has.owner in
          let set = same_set (set_at m c.owner NSEC3) other.set has.set (ap (λ w. set_at m w NSEC3) (sym owner) ∙ other.stands) has.stands in
          same_data (first_nsec3 has.set.records) d.data.now c.data.now (ap (λ (s : RRset). first_nsec3 s.records) (sym set) ∙ other.says) has.says

      listed_key : (t : ℕ) → (t ≡ NSEC3 → ⊥) → owns m c.name t ≡ true → IsKeyListed m delegated c.data.now.types (key c.name t)
      listed_key t ne k =
          by
          (key_right c.name t
          (authoritative_from origin m NSEC3 c.name (is_at_or_above_complete origin c.name (are.each c i).inside) (besides_from m NSEC3 c.name t (other_than_hashed t ne) k) (chain_uncut c i)) ne k)
        where
          by : IsNsec3Key origin m hash p.opt_out names (key c.name t) → IsKeyListed m delegated c.data.now.types (key c.name t)
          by (inl (d, j, e, l)) = subst (λ (a : Nsec3Data). IsKeyListed m delegated a.types (key c.name t)) (same_said d j e) l
          by (inr (left, none)) = absurd (not_both (set_at m c.owner NSEC3) has.set (ap (λ w. set_at m w NSEC3) has.owner ∙ none c.digest has.digest) has.stands)

      stands : (t : ℕ) → is_stated_at delegated t ≡ true → (t ≡ RRSIG → ⊥) → (t ≡ NSEC → ⊥) → Contains types t → owns m c.name t ≡ true
      stands t told other named l = by (((are.each c i).may t l).stands told)
        where
          by : (t ≡ RRSIG) ⊎ ((owns m c.name t ≡ true) ⊎ ((t ≡ NSEC) × (owns all c.name NSEC ≡ true))) → owns m c.name t ≡ true
          by (inl q) = absurd (other q)
          by (inr (inl k)) = k
          by (inr (inr k)) = absurd (named k.0)

      listed : (t : ℕ) → is_stated_at delegated t ≡ true → (t ≡ NSEC3 → ⊥) → owns m c.name t ≡ true → Contains types t
      listed t told ne k = (listed_key t ne k).own told

      told_apart : (t u : ℕ) → is_stated_at_delegation t ≡ true → is_stated_at_delegation u ≡ false → t ≡ u → ⊥
      told_apart t u told untold q = true≢false (sym told ∙ ap is_stated_at_delegation q ∙ untold)

      tells_elsewhere : (t : ℕ) → delegated ≡ false → is_stated_at delegated t ≡ true
      tells_elsewhere t d = ap (λ b. not b || is_stated_at_delegation t) d

      signed : delegated ≡ false → has_signature m c.name ≡ true → Contains types RRSIG
      signed d h =
          let n : Name = c.name in
          let test = λ (w : RrKey × RRset). name_eq n w.0.name && (not (w.0.record_type.0 == NSEC3) && ((w.0.record_type.0 == RRSIG) || not (length w.1.signatures == 0))) in
          let r = In-from_any test m h in
          let w = r.0 in
          let same : n ≡ w.0.name = (name_eq-Decides n w.0.name).0 (and_left (name_eq n w.0.name) _ r.2) in
          let at : w.0 ≡ key n w.0.record_type.0 = λ j. key (sym same j) w.0.record_type.0 in
          let k = entry_owned m n w.0.record_type.0 w r.1 at in
          let found : set_at m n w.0.record_type.0 ≡ Some w.1 =
          ap (λ o. set_at m o w.0.record_type.0) same ∙ found_entry m (Ascends-from_sorted key_cmp (keys_of m) (is_zone chain all zone).ordered) w.0 w.1 r.1 in
          let other : not (w.0.record_type.0 == NSEC3) ≡ true = and_left (not (w.0.record_type.0 == NSEC3)) _ (and_right (name_eq n w.0.name) _ r.2) in
          let is : (w.0.record_type.0 == RRSIG) || not (length w.1.signatures == 0) ≡ true =
          and_right (not (w.0.record_type.0 == NSEC3)) _ (and_right (name_eq n w.0.name) _ r.2) in
          (listed_key w.0.record_type.0 (not_hashed w.0.record_type.0 other) k).signed d
          (ap (λ o. option_map_or (λ (x : RRset). (w.0.record_type.0 == RRSIG) || not (length x.signatures == 0)) o false) found ∙ is)

      right_list : IsRightList origin m c.name types
      right_list = record {
        at_delegation = λ d t told.
            let is_stated : is_stated_at delegated t ≡ true = or_right (not delegated) (is_stated_at_delegation t) told in
            (stands t is_stated (told_apart t RRSIG told refl) (told_apart t NSEC told refl), listed t is_stated (told_apart t NSEC3 told refl));
        exact = λ d t a b x. (stands t (tells_elsewhere t d) a b, listed t (tells_elsewhere t d) x);
        signed = signed;
      }

      nothing : owns_besides m NSEC3 c.name ≡ false → types ≡ []
      nothing none = by (are.each c i).own
        where
          owner : IsKeyName origin ks c.name → owns_besides m NSEC3 c.name ≡ true
          owner (inl e) = ap (owns_besides m NSEC3) e ∙ origin_owns
          owner (inr (k, j, e)) =
              let r = circle_key_from origin m NSEC3 k (subst (In k) keys_are (Contains-In k ks j)) in
              ap (owns_besides m NSEC3) e ∙ besides_from m NSEC3 k.name k.record_type.0 (and_left (not (k.record_type.0 == NSEC3)) _ r.1) (key_owned m k r.0)

          by : (c.data.now.types ≡ []) ⊎ IsKeyName origin ks c.name → types ≡ []
          by (inl e) = ap (map (λ (t : RecordType). t.0)) e
          by (inr k) = absurd (true≢false (sym (owner k) ∙ none))

      abbrev has_them : Nsec3Data → Bool
      has_them a = (a.algorithm == p.algorithm) && (same_octets a.salt p.salt && (a.iterations == p.iterations))

      parameters : has_them c.data.now ≡ true
      parameters = sym (ap (λ o. option_map_or has_them o false) has.says) ∙ ((sets_are chain all zone c.owner NSEC3 has.set).0 has.stands).1

      says : c.data.now ≡ nsec3_data p (next_digest (digests hash ns) c.digest) types
      says =
          let a = c.data.now in
          let rest = and_right (a.algorithm == p.algorithm) (same_octets a.salt p.salt && (a.iterations == p.iterations)) parameters in
          let algorithm = eqb-true a.algorithm p.algorithm (and_left (a.algorithm == p.algorithm) _ parameters) in
          let salt = same_salt a.salt p.salt (and_left (same_octets a.salt p.salt) (a.iterations == p.iterations) rest) in
          let iterations = eqb-true a.iterations p.iterations (and_right (same_octets a.salt p.salt) (a.iterations == p.iterations) rest) in
          let next = linked c i ∙ ap (λ ds. next_digest ds c.digest) (sym digests_are) in
          λ j. record { algorithm = algorithm j; opt_out = has.flag j; iterations = iterations j; salt = salt j; next_hashed_owner_name = next j; types = numbers a.types j }

      -- no NSEC set stays
      nsec : delegated ≡ false → (owns m c.name NSEC ≡ true → Contains types NSEC) × (Contains types NSEC → (owns m c.name NSEC ≡ true) ⊎ (owns all c.name NSEC ≡ true))
      nsec d = (listed NSEC (tells_elsewhere NSEC d) (λ e. omega (arith, e)), λ l. by (((are.each c i).may NSEC l).stands (tells_elsewhere NSEC d)))
        where
          by : (NSEC ≡ RRSIG) ⊎ ((owns m c.name NSEC ≡ true) ⊎ ((NSEC ≡ NSEC) × (owns all c.name NSEC ≡ true))) → (owns m c.name NSEC ≡ true) ⊎ (owns all c.name NSEC ≡ true)
          by (inl q) = absurd (omega (arith, q))
          by (inr (inl k)) = inl k
          by (inr (inr k)) = inr k.1

      in_chain : IsInNsec3Chain origin all m hash p ns c.name c.digest has.set
      in_chain = record {
        single = has.single;
        types = types;
        says = has.says ∙ ap Some says;
        right = right_list;
        nsec = nsec;
        no_hashed = λ l. ((are.each c i).may NSEC3 l).other refl;
        empty = nothing;
      }

    pub is_nsec3_chain : IsNsec3Chain origin all m hash p ns
    is_nsec3_chain = record {
      zone = is_zone chain all zone;
      begins = named_in origin are.begins;
      between = λ n a j u v. let r = in_named n j in named_in a (are.between r.0 a r.1 u (subst (IsAtOrAbove a) (sym r.2) v));
      authoritative = authoritative;
      complete = complete;
      one_for_each = λ n d j e.
          let r = in_named n j in
          let h = has r.0 r.1 in
          let digest = same_digest (hash n) r.0.digest d (ap hash (sym r.2) ∙ h.digest) e in (
            h.set,
            ap (λ w. set_at m w NSEC3) (ap (hashed_owner origin) (sym digest) ∙ sym h.owner) ∙ h.stands,
            subst (λ w. IsInNsec3Chain origin all m hash p ns w d h.set) r.2 (subst (λ x. IsInNsec3Chain origin all m hash p ns r.0.name x h.set) digest (in_chain r.0 r.1)),
          );
      no_other = λ o k.
          let r = owned o k in
          let h = has r.0 r.1 in
          (r.0.name, r.0.digest, named_in r.0.name (r.0, r.1, refl), h.digest, sym r.2 ∙ h.owner);
      announced = announced;
    }

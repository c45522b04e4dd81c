-- NSEC sets that the program found right are a chain
use Rattle.std.proofs.Common.{◌≡◌, ℕ, Bool, true, false, cond, not, ◌&&◌, ◌||◌, List, [], ◌∷◌, map, refl, sym, ap, ◌∙◌, subst, true≢false, ◌⊎◌, inl, inr, eqb-true}
use Rattle.std.specs.Prelude.{Option, Some, None, is_some, unwrap_or, filter, length, ◌==◌, IfSome}
use Rattle.std.specs.List.{Contains, cons_option}
use Rattle.std.specs.Map.{keys_of}
use Rattle.std.specs.Option.{option_map_or}
use Rattle.zone_proto.specs.declared.nx_proof_kind.NxProofKind.TheVariants as kind
use Rattle.zone_proto.specs.declared.record_type.RecordType.{RecordType}
use Rattle.zone_proto.specs.declared.rr_key.RrKey.{RrKey}
use Rattle.zone_proto.specs.Keys.{key, key_cmp}
use Rattle.zone_proto.specs.Names.{Name, name_cmp, name_eq, is_at_or_above}
use Rattle.zone_proto.specs.Order.{is_before, least}
use Rattle.zone_proto.specs.Sets.{RRset}
use Rattle.zone_proto.specs.Types.{RRSIG, NSEC, NSEC3}
use Rattle.zone_proto.proofs.Members.{In, In-Contains, Contains-In, In-from_any, and_left, and_right, not_true, or_right}
use Rattle.zone_proto.proofs.Names.NameTree.{name_eq-Decides}
use Rattle.zone_map.specs.Zones.{Sets, IsZone, set_at, owns, owners}
use Rattle.zone_map.proofs.Owned.{set_of, entry_owned}
use Rattle.zone_denial.specs.Authority.{is_authoritative, is_below_cut, owns_besides}
use Rattle.zone_denial.specs.AuthoritativeKeys.{authoritative_keys}
use Rattle.zone_denial.specs.Chains.{chain_sets, stays, is_delegation, is_below_dname, is_stated_at_delegation, has_signature, IsRightList, IsInNsecChain, IsNsecChain, next_owner}
use Rattle.zone_denial.specs.NsecCircle.{next_of, types_of}
use Rattle.zone_denial.proofs.Ascending.{Ascends-from_sorted}
use Rattle.zone_denial.proofs.Chains.ChainSets.{sets_are, is_zone, one_kind, found_entry}
use Rattle.zone_denial.proofs.Names.AuthoritativeNames.{authoritative_from, besides_from, from_besides}
use Rattle.zone_denial.proofs.Sets.CircleKeys.{circle_key_from, circle_key_in}
use Rattle.zone_verify.specs.Lists.{IsListed, IsKeyListed, is_stated_at}
use Rattle.zone_verify.specs.NsecNames.{HasNsec, IsDenied, IsNsecKey}

-- all NSEC sets belong to the chain
pub owners_same : (m : Sets) → owners (chain_sets (Some kind.Nsec) m) NSEC ≡ owners m NSEC
owners_same [] = refl
owners_same (e ∷ m) = by (owners_same m) (stays (Some kind.Nsec) e.0.record_type.0 e.1) (NSEC == e.0.record_type.0) refl refl
  where
    rest : Sets
    rest = chain_sets (Some kind.Nsec) m

    goes : (b : Bool) → stays (Some kind.Nsec) e.0.record_type.0 e.1 ≡ false → (NSEC == e.0.record_type.0) ≡ b → b ≡ false
    goes false q p = refl
    goes true q p = absurd (true≢false (ap (λ (t : ℕ). stays (Some kind.Nsec) t e.1) (eqb-true NSEC e.0.record_type.0 p) ∙ q))

    by : owners rest NSEC ≡ owners m NSEC → (a b : Bool) → stays (Some kind.Nsec) e.0.record_type.0 e.1 ≡ a → (NSEC == e.0.record_type.0) ≡ b
        → owners (cond a (e ∷ rest) rest) NSEC ≡ cons_option (cond b (Some e.0.name) None) (owners m NSEC)
    by same true b q p = ap (λ c. cons_option (cond c (Some e.0.name) None) (owners rest NSEC)) p ∙ ap (cons_option (cond b (Some e.0.name) None)) same
    by same false b q p = same ∙ ap (λ c. cons_option (cond c (Some e.0.name) None) (owners m NSEC)) (sym (goes b q p))

module _ (origin : Name) (all : Sets) (zone : IsZone all) (begins : owns (chain_sets (Some kind.Nsec) all) origin NSEC ≡ true)
    (ks : List RrKey) (keys_are : ks ≡ authoritative_keys origin (chain_sets (Some kind.Nsec) all) NSEC3)
    (right : (k : RrKey) → Contains ks k → IsNsecKey origin all (chain_sets (Some kind.Nsec) all) k)
    (owned : (n : Name) → owns all n NSEC ≡ true → Contains ks (key n NSEC))
    (linked : (n : Name) (s : RRset) → set_at all n NSEC ≡ Some s → next_of s ≡ Some (next_owner origin all n)) where
  abbrev m : Sets
  m = chain_sets (Some kind.Nsec) all

  abbrev delegated : Name → Bool
  delegated n = is_delegation origin m n

  stands_there : (n : Name) (s : RRset) → set_at m n NSEC ≡ Some s → set_at all n NSEC ≡ Some s
  stands_there n s e = ((sets_are (Some kind.Nsec) all zone n NSEC s).0 e).0

  none_hashed : (n : Name) → owns m n NSEC3 ≡ false
  none_hashed n = (one_kind all zone).nsec n

  -- the names of the keys
  inside : (k : RrKey) → In k ks → is_authoritative origin m NSEC3 k.name ≡ true
  inside k i = and_right (not (k.record_type.0 == NSEC3)) (is_authoritative origin m NSEC3 k.name) (circle_key_from origin m NSEC3 k (subst (In k) keys_are i)).1

  not_hashed : (n : Name) (t : ℕ) → owns m n t ≡ true → not (t == NSEC3) ≡ true
  not_hashed n t k = by (t == NSEC3) refl
    where
      by : (b : Bool) → (t == NSEC3) ≡ b → not b ≡ true
      by false e = refl
      by true e = absurd (true≢false (sym k ∙ ap (owns m n) (eqb-true t NSEC3 e) ∙ none_hashed n))

  key_right : (n : Name) (t : ℕ) → is_authoritative origin m NSEC3 n ≡ true → owns m n t ≡ true → IsNsecKey origin all m (key n t)
  key_right n t on k = right (key n t) (In-Contains (key n t) ks (subst (In (key n t)) (sym keys_are) (circle_key_in origin m NSEC3 n t k (not_hashed n t k) on)))

  on_keys : (n : Name) (s : RRset) → set_at m n NSEC ≡ Some s → is_authoritative origin m NSEC3 n ≡ true
  on_keys n s e = inside (key n NSEC) (Contains-In (key n NSEC) ks (owned n (ap is_some (stands_there n s e))))

  same_set : (p : Option RRset) (s r : RRset) → p ≡ Some s → p ≡ Some r → s ≡ r
  same_set p s r e f = cc

  not_both : (p : Option RRset) (s : RRset) → p ≡ None → p ≡ Some s → ⊥
  not_both p s e f = cc

  -- a key of a name that has an NSEC set is listed in that
  record Listed (n : Name) (s : RRset) (k : RrKey) : Type 0 where
    pub types : List RecordType
    pub has : HasNsec all m n (delegated n) types
    pub same : has.set ≡ s
    pub listed : IsKeyListed m (delegated n) types k

  listed_in : (n : Name) (s : RRset) → set_at m n NSEC ≡ Some s → (t : ℕ) → owns m n t ≡ true → Listed n s (key n t)
  listed_in n s e t k = let r = key_right n t (on_keys n s e) k in by r.types r.denied r.listed
    where
      by : (o : Option (List RecordType)) → IsDenied origin all m n o → IfSome o (λ types. IsKeyListed m (delegated n) types (key n t)) → Listed n s (key n t)
      by None d l = absurd (not_both (set_at m n NSEC) s d.1 e)
      by (Some types) d l = record { types = types; has = d; same = same_set (set_at m n NSEC) d.set s d.stands e; listed = l }

  authoritative : (n : Name) → owns m n NSEC ≡ true → is_authoritative origin m NSEC n ≡ true
  authoritative n k =
      let found = set_of m n NSEC k in
      let on = on_keys n found.0 found.1 in
      let l = listed_in n found.0 found.1 NSEC k in
      let rest = and_right (is_at_or_above origin n) (owns_besides m NSEC3 n && not (is_below_cut origin m n)) on in
      authoritative_from origin m NSEC n (and_left (is_at_or_above origin n) (owns_besides m NSEC3 n && not (is_below_cut origin m n)) on) l.has.right.others
      (not_true (is_below_cut origin m n) (and_right (owns_besides m NSEC3 n) (not (is_below_cut origin m n)) rest))

  complete : (n : Name) → is_authoritative origin m NSEC n ≡ true → (owns m n NSEC ≡ true) ⊎ (is_below_dname m n ≡ true)
  complete n a =
      let rest = and_right (is_at_or_above origin n) (owns_besides m NSEC n && not (is_below_cut origin m n)) a in
      let some = from_besides m NSEC n (and_left (owns_besides m NSEC n) (not (is_below_cut origin m n)) rest) in
      let on = authoritative_from origin m NSEC3 n (and_left (is_at_or_above origin n) (owns_besides m NSEC n && not (is_below_cut origin m n)) a)
      (besides_from m NSEC3 n some.0 (not_hashed n some.0 some.2) some.2)
      (not_true (is_below_cut origin m n) (and_right (owns_besides m NSEC n) (not (is_below_cut origin m n)) rest)) in
      let r = key_right n some.0 on some.2 in
      by r.types r.denied
    where
      by : (o : Option (List RecordType)) → IsDenied origin all m n o → (owns m n NSEC ≡ true) ⊎ (is_below_dname m n ≡ true)
      by None d = inr d.0
      by (Some types) d = inl (ap is_some d.stands)

  -- ---- the list of a name

  module _ (n : Name) (s : RRset) (e : set_at m n NSEC ≡ Some s) where
    own : Listed n s (key n NSEC)
    own = listed_in n s e NSEC (ap is_some e)

    abbrev types : List ℕ
    types = map (λ t. t.0) own.types

    listed_there : types_of s ≡ Some types
    listed_there = ap types_of (sym own.same) ∙ own.has.listed

    same_list : (o : Option (List ℕ)) (xs ys : List ℕ) → o ≡ Some xs → o ≡ Some ys → xs ≡ ys
    same_list o xs ys p q = cc

    moved : (t u : ℕ) (l : Listed n s (key n t)) → IsListed l.types u → Contains types u
    moved t u l c = subst (λ xs. Contains xs u) (same_list (types_of s) (map (λ t. t.0) l.types) types (ap types_of (sym l.same) ∙ l.has.listed) listed_there) c

    -- what is listed is there, and what is there is listed
    stands : (t : ℕ) → is_stated_at (delegated n) t ≡ true → (t ≡ RRSIG → ⊥) → Contains types t → owns m n t ≡ true
    stands t told other c = by ((own.has.right.may t c).stands told)
      where
        by : (t ≡ RRSIG) ⊎ ((owns m n t ≡ true) ⊎ ((t ≡ NSEC) × (owns all n NSEC ≡ true))) → owns m n t ≡ true
        by (inl q) = absurd (other q)
        by (inr (inl k)) = k
        by (inr (inr k)) = ap (owns m n) k.0 ∙ ap is_some e

    listed : (t : ℕ) → is_stated_at (delegated n) t ≡ true → owns m n t ≡ true → Contains types t
    listed t told k = let l = listed_in n s e t k in moved t t l (l.listed.own told)

    told_not_signature : (t : ℕ) → is_stated_at_delegation t ≡ true → t ≡ RRSIG → ⊥
    told_not_signature t told q = true≢false (sym told ∙ ap is_stated_at_delegation q)

    tells_elsewhere : (t : ℕ) → delegated n ≡ false → is_stated_at (delegated n) t ≡ true
    tells_elsewhere t d = ap (λ b. not b || is_stated_at_delegation t) d

    signed : delegated n ≡ false → has_signature m n ≡ true → Contains types RRSIG
    signed d h =
        let test = λ (w : RrKey × RRset). name_eq n w.0.name && (not (w.0.record_type.0 == NSEC3) && ((w.0.record_type.0 == RRSIG) || not (length w.1.signatures == 0))) in
        let r = In-from_any test m h in
        let w = r.0 in
        let same : n ≡ w.0.name = (name_eq-Decides n w.0.name).0 (and_left (name_eq n w.0.name) _ r.2) in
        let at : w.0 ≡ key n w.0.record_type.0 = λ i. key (sym same i) w.0.record_type.0 in
        let k = entry_owned m n w.0.record_type.0 w r.1 at in
        let found : set_at m n w.0.record_type.0 ≡ Some w.1 =
        ap (λ o. set_at m o w.0.record_type.0) same ∙ found_entry m (Ascends-from_sorted key_cmp (keys_of m) (is_zone (Some kind.Nsec) all zone).ordered) w.0 w.1 r.1 in
        let has : (w.0.record_type.0 == RRSIG) || not (length w.1.signatures == 0) ≡ true =
        and_right (not (w.0.record_type.0 == NSEC3)) _ (and_right (name_eq n w.0.name) _ r.2) in
        let l = listed_in n s e w.0.record_type.0 k in
        moved w.0.record_type.0 RRSIG l
        (l.listed.signed d (ap (λ o. option_map_or (λ (x : RRset). (w.0.record_type.0 == RRSIG) || not (length x.signatures == 0)) o false) found ∙ has))

    right_list : IsRightList origin m n types
    right_list = record {
      at_delegation = λ d t told.
          let is_stated : is_stated_at (delegated n) t ≡ true = or_right (not (delegated n)) (is_stated_at_delegation t) told in
          (stands t is_stated (told_not_signature t told), listed t is_stated);
      exact = λ d t a b x. (stands t (tells_elsewhere t d) a, listed t (tells_elsewhere t d));
      signed = signed;
    }

    in_chain : IsInNsecChain origin m n s
    in_chain = record {
      single = ap (λ (x : RRset). length x.records) (sym own.same) ∙ own.has.single;
      next = linked n s (stands_there n s e) ∙ ap (λ ns. Some (unwrap_or (least name_cmp (filter (is_before name_cmp n) ns)) origin)) (sym (owners_same all));
      types = types;
      listed = listed_there;
      right = right_list;
      own = own.has.right.own;
      hashed = (λ c. absurd ((own.has.right.may NSEC3 c).other refl), λ k. absurd (true≢false (sym k ∙ none_hashed n)));
    }

  pub is_chain : IsNsecChain origin m
  is_chain = record {
    zone = is_zone (Some kind.Nsec) all zone;
    begins = begins;
    authoritative = authoritative;
    complete = complete;
    each = in_chain;
  }

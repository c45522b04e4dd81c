-- What all keys of one name say of its NSEC3 set
use Rattle.std.proofs.Common.{◌≡◌, ℕ, ◌==◌, ◌&&◌, ◌||◌, not, Bool, true, false, cond, List, [], ◌∷◌, refl, sym, ap, ◌∙◌, subst, true≢false, inl}
use Rattle.std.specs.Prelude.{filter}
use Rattle.std.specs.Borrow.{Bor}
use Rattle.std.specs.List.{list_any, list_all}
use Rattle.std.specs.List.Sorted.{IsStrictlySortedBy}
use Rattle.std.specs.Map.{keys_of}
use Rattle.std.specs.Ordering.{nat_cmp}
use Rattle.std.proofs.lemmas.List.Kept.{IsStrictlySortedBy-filter}
use Rattle.zone_proto.specs.declared.rr_key.RrKey.{RrKey}
use Rattle.zone_proto.specs.Keys.{key, key_cmp}
use Rattle.zone_proto.specs.Names.{Name, name_eq}
use Rattle.zone_proto.specs.Types.{NS, RRSIG, NSEC3, NSEC3PARAM}
use Rattle.zone_proto.proofs.Members.{In, In-map, In-from_map, In-filter, In-from_filter, any_from_In, and_left}
use Rattle.zone_proto.proofs.Ordering.Orders.{number_order}
use Rattle.zone_proto.proofs.Names.Tree.{name_eq_itself}
use Rattle.zone_map.specs.Zones.{Sets, types_at, owns}
use Rattle.zone_map.proofs.Lists.{types_ascend as stored_types_ascend}
use Rattle.zone_map.proofs.Owned.{type_in, type_owned}
use Rattle.zone_denial.specs.Authority.{is_authoritative, owns_besides}
use Rattle.zone_denial.specs.AuthoritativeKeys.{is_circle_key, authoritative_keys}
use Rattle.zone_denial.specs.Nsec3Circle.{nsec3_types, with_rrsig}
use Rattle.zone_denial.specs.Nsec3Names.{is_unsigned_delegation}
use Rattle.zone_denial.specs.TypeLists.{joined, in_order}
use Rattle.zone_denial.proofs.Ascending.{Ascends, sorted_from_Ascends}
use Rattle.zone_denial.proofs.Names.AuthoritativeNames.{besides_from}
use Rattle.zone_denial.proofs.Sets.CircleKeys.{key_owned, circle_key_from, circle_key_in}
use Rattle.zone_denial.proofs.InOrder.{ascending_same, in_order_itself}
use Rattle.zone_denial.proofs.Sets.KeyRuns.{lent_keys}
use Rattle.zone_denial.proofs.Sets.Linking.{types_of_keys, types_ascend}

-- the types that a name owns, NSEC3 aside
abbrev pub own_types : Sets → Name → List ℕ
own_types m n = filter (λ t. not (t == NSEC3)) (types_at m n)

-- these are all keys of a name, in order
pub record AreOwn (ks : List RrKey) (n : Name) (own : List RrKey) : Type 0 where
  pub ascend : Ascends key_cmp own
  pub of_name : (k : RrKey) → In k own → k.name ≡ n
  pub listed : (k : RrKey) → In k own → In k ks
  pub all : (k : RrKey) → In k ks → k.name ≡ n → In k own

-- types with RRSIG if there is one
with_rrsig_is : (t : ℕ) (ts : List ℕ) → In t ts → with_rrsig ts ≡ joined nat_cmp RRSIG (in_order nat_cmp ts)
with_rrsig_is t [] i = absurd i
with_rrsig_is t (u ∷ us) i = refl

none_left : (p : ℕ → Bool) (ts : List ℕ) → list_any p ts ≡ false → filter p ts ≡ []
none_left p ts e = by (filter p ts) refl
  where
    by : (us : List ℕ) → filter p ts ≡ us → us ≡ []
    by [] s = refl
    by (u ∷ us) s =
        let r = In-from_filter p u ts (subst (λ (vs : List ℕ). In u vs) (sym s) (inl refl)) in
        absurd (true≢false (sym (any_from_In p u ts r.0 r.1) ∙ e))

-- a name that owns nothing but NSEC3, and isn't the origin, has no types to list
pub types_of_empty : (origin : Name) (m : Sets) (n : Name) → name_eq n origin ≡ false → owns_besides m NSEC3 n ≡ false → nsec3_types origin m n ≡ []
types_of_empty origin m n other none =
    ap (λ b. cond b (in_order nat_cmp (NSEC3PARAM ∷ RRSIG ∷ own_types m n)) (with_rrsig (own_types m n))) other
    ∙ ap with_rrsig (none_left (λ t. not (t == NSEC3)) (types_at m n) none)

-- ---- all are of NS

all_of_types : (bs : List (Bor RrKey)) → list_all (λ b. b.now.record_type.0 == NS) bs ≡ list_all (λ t. t == NS) (types_of_keys (lent_keys bs))
all_of_types [] = refl
all_of_types (b ∷ bs) = ap (λ c. (b.now.record_type.0 == NS) && c) (all_of_types bs)

all_besides : (ts : List ℕ) → list_all (λ t. t == NS) (filter (λ t. not (t == NSEC3)) ts) ≡ list_all (λ t. (t == NS) || (t == NSEC3)) ts
all_besides [] = refl
all_besides (t ∷ ts) = by (t == NS) (t == NSEC3) refl (all_besides ts)
  where
    by : (a b : Bool) → (t == NSEC3) ≡ b → list_all (λ t. t == NS) (filter (λ t. not (t == NSEC3)) ts) ≡ list_all (λ t. (t == NS) || (t == NSEC3)) ts
        → list_all (λ t. t == NS) (cond (not (t == NSEC3)) (t ∷ filter (λ t. not (t == NSEC3)) ts) (filter (λ t. not (t == NSEC3)) ts)) ≡ ((t == NS) || (t == NSEC3)) && list_all (λ t. (t == NS) || (t == NSEC3)) ts
    by a true e ih =
        ap (λ b. list_all (λ t. t == NS) (cond (not b) (t ∷ filter (λ t. not (t == NSEC3)) ts) (filter (λ t. not (t == NSEC3)) ts))) e
        ∙ ih ∙ ap (λ b. b && list_all (λ t. (t == NS) || (t == NSEC3)) ts) (sym (ap (λ b. (t == NS) || b) e ∙ or_true (t == NS)))
      where
        or_true : (b : Bool) → b || true ≡ true
        or_true true = refl
        or_true false = refl
    by a false e ih =
        ap (λ b. list_all (λ t. t == NS) (cond (not b) (t ∷ filter (λ t. not (t == NSEC3)) ts) (filter (λ t. not (t == NSEC3)) ts))) e
        ∙ ap (λ b. (t == NS) && b) ih ∙ ap (λ b. b && list_all (λ t. (t == NS) || (t == NSEC3)) ts) (sym (ap (λ b. (t == NS) || b) e ∙ or_false (t == NS)))
      where
        or_false : (b : Bool) → b || false ≡ b
        or_false true = refl
        or_false false = refl

module _ (origin : Name) (m : Sets) (sorted : IsStrictlySortedBy key_cmp (keys_of m)) (ks : List RrKey) (are : ks ≡ authoritative_keys origin m NSEC3) where
  pub key_from : (k : RrKey) → In k ks → In k (keys_of m) × (is_circle_key origin m NSEC3 k ≡ true)
  key_from k i = circle_key_from origin m NSEC3 k (subst (λ qs. In k qs) are i)

  pub key_in : (n : Name) (t : ℕ) → owns m n t ≡ true → not (t == NSEC3) ≡ true → is_authoritative origin m NSEC3 n ≡ true → In (key n t) ks
  key_in n t h other on = subst (λ qs. In (key n t) qs) (sym are) (circle_key_in origin m NSEC3 n t h other on)

  module _ (n : Name) (own : List RrKey) (h : AreOwn ks n own) (on : owns_besides m NSEC3 n ≡ true → is_authoritative origin m NSEC3 n ≡ true) where
    stored : (t : ℕ) → In t (types_of_keys own) → In t (own_types m n)
    stored t i =
        let r = In-from_map (λ (k : RrKey). k.record_type.0) t own i in
        let k = key_from r.0 (h.listed r.0 r.1) in
        let there = subst (λ x. In r.0.record_type.0 (types_at m x)) (h.of_name r.0 r.1) (type_in m r.0.name r.0.record_type.0 (key_owned m r.0 k.0)) in
        subst (λ u. In u (own_types m n)) r.2
        (In-filter (λ t. not (t == NSEC3)) r.0.record_type.0 (types_at m n) there (and_left (not (r.0.record_type.0 == NSEC3)) (is_authoritative origin m NSEC3 r.0.name) k.1))

    in_keys : (t : ℕ) → In t (own_types m n) → In t (types_of_keys own)
    in_keys t i =
        let r = In-from_filter (λ t. not (t == NSEC3)) t (types_at m n) i in
        let owned = type_owned m n t r.0 in
        let there = key_in n t owned r.1 (on (besides_from m NSEC3 n t r.1 owned)) in
        In-map (λ (k : RrKey). k.record_type.0) (key n t) own (h.all (key n t) there refl)

    own_types_ascend : IsStrictlySortedBy nat_cmp (own_types m n)
    own_types_ascend = IsStrictlySortedBy-filter nat_cmp (λ t. not (t == NSEC3)) (types_at m n) (stored_types_ascend m n sorted)

    types_are : types_of_keys own ≡ own_types m n
    types_are =
        ascending_same number_order (types_of_keys own) (own_types m n) (sorted_from_Ascends nat_cmp (types_of_keys own) (types_ascend n own h.ascend h.of_name)) own_types_ascend stored in_keys

    own_in_order : types_of_keys own ≡ in_order nat_cmp (own_types m n)
    own_in_order = types_are ∙ sym (in_order_itself number_order (own_types m n) own_types_ascend)

    -- the list of the origin, and that of another name
    pub types_of_origin : n ≡ origin → joined nat_cmp NSEC3PARAM (joined nat_cmp RRSIG (types_of_keys own)) ≡ nsec3_types origin m n
    types_of_origin e =
        ap (λ ts. joined nat_cmp NSEC3PARAM (joined nat_cmp RRSIG ts)) own_in_order
        ∙ sym (ap (λ b. cond b (in_order nat_cmp (NSEC3PARAM ∷ RRSIG ∷ own_types m n)) (with_rrsig (own_types m n))) (ap (λ x. name_eq x origin) e ∙ name_eq_itself origin))

    pub types_of_other : (k : RrKey) → In k own → name_eq n origin ≡ false → joined nat_cmp RRSIG (types_of_keys own) ≡ nsec3_types origin m n
    types_of_other k i e =
        let some = stored k.record_type.0 (In-map (λ (q : RrKey). q.record_type.0) k own i) in
        ap (λ ts. joined nat_cmp RRSIG ts) own_in_order
        ∙ sym (ap (λ b. cond b (in_order nat_cmp (NSEC3PARAM ∷ RRSIG ∷ own_types m n)) (with_rrsig (own_types m n))) e ∙ with_rrsig_is k.record_type.0 (own_types m n) some)

    -- all are of NS exactly if the name is an unsigned delegation
    pub unsigned_test : (bs : List (Bor RrKey)) → lent_keys bs ≡ own → list_all (λ b. b.now.record_type.0 == NS) bs ≡ is_unsigned_delegation m n
    unsigned_test bs e = all_of_types bs ∙ ap (λ qs. list_all (λ t. t == NS) (types_of_keys qs)) e ∙ ap (list_all (λ t. t == NS)) types_are ∙ all_besides (types_at m n)

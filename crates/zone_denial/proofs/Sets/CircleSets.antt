-- The sets that the keys of the circle give are the NSEC sets of the zone
use Rattle.std.proofs.Common.{◌≡◌, ℕ, ◌==◌, ◌&&◌, not, Bool, true, false, cond, List, ◌∷◌, get_or, refl, sym, ap, ◌∙◌, subst, true≢false, inl, inr, eqb-true, eq-eqb}
use Rattle.std.specs.Prelude.{Option, Some, None, filter, is_some, IfSome, unwrap_or}
use Rattle.std.specs.Cmp.{eq_by_cmp_equiv}
use Rattle.std.specs.Map.{keys_of}
use Rattle.std.specs.Ordering.{nat_cmp}
use Rattle.std.proofs.lemmas.Map.Made.{IfSome-update_all, is_some-update_all}
use Rattle.zone_proto.specs.declared.rr_key.RrKey.{RrKey}
use Rattle.zone_proto.specs.Keys.{key, key_eq}
use Rattle.zone_proto.specs.Names.{Name, IsName, lower, name_cmp, name_eq}
use Rattle.zone_proto.specs.Order.{is_before}
use Rattle.zone_proto.specs.Sets.{RRset}
use Rattle.zone_proto.specs.Types.{RRSIG, NSEC}
use Rattle.zone_proto.proofs.Ordering.KeyLaws.{key_cmp_total}
use Rattle.zone_proto.proofs.Ordering.KeyOrder.{key_same, key_itself}
use Rattle.zone_proto.proofs.Members.{In, Contains-In, In-Contains, In-map, In-from_map, In-filter, In-from_filter, In-filter_map, In-from_filter_map, any_from_In, and_left, and_right}
use Rattle.zone_proto.proofs.Names.NameTree.{name_eq-Decides}
use Rattle.zone_proto.proofs.Ordering.Orders.{number_order, greatest_same}
use Rattle.zone_proto.proofs.Names.Tree.{name_order}
use Rattle.zone_proto.proofs.SetLaws.{IsSet-alone}
use Rattle.zone_map.specs.Zones.{Sets, last_at, names_of, types_at, owns, IsStoredAt, AreStored, IsZone}
use Rattle.zone_map.proofs.Lists.{owner_lowered, owner_named}
use Rattle.zone_map.proofs.Owned.{type_in, type_owned}
use Rattle.zone_map.proofs.Upserting.{same_from_lower}
use Rattle.zone_denial.specs.Authority.{is_authoritative, authoritative_names}
use Rattle.zone_denial.specs.AuthoritativeKeys.{is_circle_key, authoritative_keys}
use Rattle.zone_denial.specs.NsecCircle.{nsec_next}
use Rattle.zone_denial.specs.NsecLinks.{key_names, key_types, next_key_name, linked_set, AreLinked}
use Rattle.zone_denial.specs.NsecSets.{nsec_data, new_set, nsec_set, nsec_set_at}
use Rattle.zone_denial.specs.TypeLists.{in_order, nsec_types}
use Rattle.zone_denial.proofs.InOrder.{flipped, in_order_same}
use Rattle.zone_denial.proofs.Names.AuthoritativeNames.{authoritative_listed, from_besides}
use Rattle.zone_denial.proofs.Sets.CircleKeys.{key_owned, circle_key_from, circle_key_in}
use Rattle.zone_denial.proofs.Sets.Linking.{linked}

module _ (origin : Name) (m : Sets) (ks : List RrKey) (are : ks ≡ authoritative_keys origin m NSEC) where
  -- ---- the keys, and the names and types that they have

  key_from : (k : RrKey) → In k ks → In k (keys_of m) × (is_circle_key origin m NSEC k ≡ true)
  key_from k i = circle_key_from origin m NSEC k (subst (λ qs. In k qs) are i)

  key_in : (n : Name) (t : ℕ) → owns m n t ≡ true → not (t == NSEC) ≡ true → is_authoritative origin m NSEC n ≡ true → In (key n t) ks
  key_in n t h other on = subst (λ qs. In (key n t) qs) (sym are) (circle_key_in origin m NSEC n t h other on)

  name_from : (n : Name) → In n (key_names ks) → is_authoritative origin m NSEC n ≡ true
  name_from n i =
      let r = In-from_map (λ (k : RrKey). k.name) n ks i in
      ap (is_authoritative origin m NSEC) (sym r.2) ∙ and_right (not (r.0.record_type.0 == NSEC)) (is_authoritative origin m NSEC r.0.name) (key_from r.0 r.1).1

  name_in : (n : Name) → is_authoritative origin m NSEC n ≡ true → In n (key_names ks)
  name_in n on =
      let t = from_besides m NSEC n (and_left _ _ (and_right _ _ on)) in
      In-map (λ (k : RrKey). k.name) (key n t.0) ks (key_in n t.0 t.2 t.1 on)

  -- the next name on the circle
  next_same : (n : Name) → next_key_name origin ks n ≡ nsec_next origin m n
  next_same n =
      let p = is_before name_cmp n in
      let on = authoritative_names origin m NSEC in
      ap (λ o. unwrap_or o origin)
      (greatest_same (flipped name_order) (filter p (key_names ks)) (filter p on)
      (λ x i. let r = In-from_filter p x (key_names ks) i in In-filter p x on (authoritative_listed origin m NSEC x (name_from x r.0)) r.1)
      (λ x i. let r = In-from_filter p x on i in In-filter p x (key_names ks) (name_in x (In-from_filter (is_authoritative origin m NSEC) x (names_of m) r.0).1) r.1))

  -- the types of a name on it
  types_same : (n : Name) → is_authoritative origin m NSEC n ≡ true → in_order nat_cmp (NSEC ∷ RRSIG ∷ key_types ks n) ≡ nsec_types m n
  types_same n on = in_order_same number_order (NSEC ∷ RRSIG ∷ key_types ks n) (NSEC ∷ RRSIG ∷ types_at m n) (λ t i. owned t i) (λ t i. kept t i)
    where
      at : (t : ℕ) (k : RrKey) (b : Bool) → name_eq n k.name ≡ b → cond b (Some k.record_type.0) None ≡ Some t → In k (keys_of m) → In t (types_at m n)
      at t k true e q i =
          let same : k.record_type.0 ≡ t = cc in
          subst (λ u. In u (types_at m n)) same (subst (λ x. In k.record_type.0 (types_at m x)) (sym ((name_eq-Decides n k.name).0 e)) (type_in m k.name k.record_type.0 (key_owned m k i)))
      at t k false e q i = absurd cc

      owned : (t : ℕ) → In t (NSEC ∷ RRSIG ∷ key_types ks n) → In t (NSEC ∷ RRSIG ∷ types_at m n)
      owned t (inl e) = inl e
      owned t (inr (inl e)) = inr (inl e)
      owned t (inr (inr i)) =
          let r = In-from_filter_map (λ (k : RrKey). cond (name_eq n k.name) (Some k.record_type.0) None) t ks i in
          inr (inr (at t r.0 (name_eq n r.0.name) refl r.2 (key_from r.0 r.1).0))

      other : (t : ℕ) (b : Bool) → (t == NSEC) ≡ b → In t (types_at m n) → In t (NSEC ∷ RRSIG ∷ key_types ks n)
      other t true e i = inl (sym (eqb-true t NSEC e))
      other t false e i =
          let there = key_in n t (type_owned m n t i) (ap not e) on in
          let passes = ap (λ b. cond b (Some t) None) ((name_eq-Decides n n).1 refl) in
          inr (inr (In-filter_map (λ (k : RrKey). cond (name_eq n k.name) (Some k.record_type.0) None) (key n t) t ks there passes))

      kept : (t : ℕ) → In t (NSEC ∷ RRSIG ∷ types_at m n) → In t (NSEC ∷ RRSIG ∷ key_types ks n)
      kept t (inl e) = inl e
      kept t (inr (inl e)) = inr (inl e)
      kept t (inr (inr i)) = other t (t == NSEC) refl i

  -- ---- the sets

  module _ (ttl serial : ℕ) where
    set_same : (n : Name) → is_authoritative origin m NSEC n ≡ true → linked_set origin ks ttl serial n ≡ nsec_set origin m ttl serial n
    set_same n on = λ i. new_set ttl serial n (nsec_data (next_same n i) (types_same n on i))

    module _ (es : Sets) (made : AreLinked origin ks ttl serial es) where
      -- each is under its key
      pub AreStored-linked : IsZone m → AreStored es
      AreStored-linked zone k d lt =
          let e = get_or es k d in
          subst (λ (x : RrKey × RRset). IsStoredAt x.0.name x.0.record_type.0 x.1) (sym (made.each k d lt)) (stored e.0.name (Contains-In e.0.name (key_names ks) (made.named k d lt)))
        where
          stored : (n : Name) → In n (key_names ks) → IsStoredAt n NSEC (linked_set origin ks ttl serial n)
          stored n i =
              let r = In-from_map (λ (k : RrKey). k.name) n ks i in
              let low : lower n ≡ n = subst (λ x. lower x ≡ x) r.2 (owner_lowered m r.0.name r.0.record_type.0 zone (key_owned m r.0 (key_from r.0 r.1).0)) in
              let named = subst IsName r.2 (owner_named m r.0.name r.0.record_type.0 zone (key_owned m r.0 (key_from r.0 r.1).0)) in
              record { named = named; owner = low; record_type = refl; filled = λ e. cc; set = IsSet-alone n NSEC _ (same_from_lower n n refl) refl }

      each_of : (e : RrKey × RRset) → In e es → e ≡ linked origin ks ttl serial e.0.name
      each_of e i = let c = In-Contains e es i in subst (λ (x : RrKey × RRset). x ≡ linked origin ks ttl serial x.0.name) c.2 (made.each c.0 e c.1)

      -- the last under a key is the zone's NSEC set there
      pub last_at-linked : (n : Name) (t : ℕ) → last_at es n t ≡ nsec_set_at origin m ttl serial n t
      last_at-linked n t = by (last_at es n t) refl
        where
          at : (e : RrKey × RRset) → e ≡ linked origin ks ttl serial e.0.name → In e.0.name (key_names ks) → key_eq e.0 (key n t) ≡ true → nsec_set_at origin m ttl serial n t ≡ Some e.1
          at e is i same =
              let own = key_same e.0 (key n t) same in
              let name : e.0.name ≡ n = ap (λ (k : RrKey). k.name) own in
              let type' : t ≡ NSEC = sym (ap (λ (k : RrKey). k.record_type.0) own) ∙ ap (λ (d : RrKey × RRset). d.0.record_type.0) is in
              let on : is_authoritative origin m NSEC n ≡ true = ap (is_authoritative origin m NSEC) (sym name) ∙ name_from e.0.name i in
              let value = ap (λ (d : RrKey × RRset). d.1) is ∙ ap (linked_set origin ks ttl serial) name ∙ set_same n on in
              let test = ap (λ b. b && is_authoritative origin m NSEC n) (eq-eqb t NSEC type') ∙ on in
              ap (λ b. cond b (Some (nsec_set origin m ttl serial n)) None) test ∙ ap Some (sym value)

          -- where an NSEC set is to be, one was made
          there : (t == NSEC) && is_authoritative origin m NSEC n ≡ true → is_some (last_at es n t) ≡ true
          there h =
              let on = and_right (t == NSEC) (is_authoritative origin m NSEC n) h in
              let type' : NSEC ≡ t = sym (eqb-true t NSEC (and_left (t == NSEC) (is_authoritative origin m NSEC n) h)) in
              let r = In-from_map (λ (e : RrKey × RRset). e.0.name) n es (Contains-In n (names_of es) (made.all n (In-Contains n (key_names ks) (name_in n on)))) in
              let own : r.0.0 ≡ key n t = ap (λ (e : RrKey × RRset). e.0) (each_of r.0 r.1) ∙ (λ i. key (r.2 i) (type' i)) in
              is_some-update_all (eq_by_cmp_equiv key_cmp_total) (key n t) (λ _. None) es
              ∙ any_from_In (key_eq (key n t)) r.0.0 (keys_of es) (In-map (λ (e : RrKey × RRset). e.0) r.0 es r.1) (ap (key_eq (key n t)) own ∙ key_itself (key n t))

          none : last_at es n t ≡ None → (b : Bool) → (t == NSEC) && is_authoritative origin m NSEC n ≡ b → None ≡ cond b (Some (nsec_set origin m ttl serial n)) None
          none e true h = absurd (true≢false (sym (there h) ∙ ap is_some e))
          none e false h = refl

          by : (o : Option RRset) → last_at es n t ≡ o → last_at es n t ≡ nsec_set_at origin m ttl serial n t
          by None e = e ∙ none e ((t == NSEC) && is_authoritative origin m NSEC n) refl
          by (Some v) e =
              let P = λ (w : RRset). nsec_set_at origin m ttl serial n t ≡ Some w in
              let all = IfSome-update_all key_eq P (key n t) (λ _. None) es tt
              (λ k d lt same. at (get_or es k d) (made.each k d lt) (Contains-In (get_or es k d).0.name (key_names ks) (made.named k d lt)) same) in
              e ∙ sym (subst (λ (o : Option RRset). IfSome o P) e all)

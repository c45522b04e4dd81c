-- The NSEC sets of some names, by their keys
use Rattle.std.proofs.Common.{◌≡◌, ℕ, ◌==◌, ◌&&◌, Bool, true, false, cond, List, [], ◌∷◌, get_or, refl, sym, ap, ◌∙◌, subst, true≢false, inl, inr, eqb-true, eq-eqb, arith}
use Rattle.std.specs.Prelude.{Option, Some, None, filter_map, is_some, IfSome, option_map, if◌then◌else◌}
use Rattle.std.specs.Cmp.{eq_by_cmp_equiv}
use Rattle.std.specs.List.{All, cons_option}
use Rattle.std.specs.Map.{keys_of}
use Rattle.std.proofs.lemmas.List.Elements.{All-cons}
use Rattle.std.proofs.lemmas.Map.Made.{IfSome-update_all, is_some-update_all}
use Rattle.zone_proto.specs.declared.rr_key.RrKey.{RrKey}
use Rattle.zone_proto.specs.Keys.{key, key_eq}
use Rattle.zone_proto.specs.Names.{Name, is_at_or_above}
use Rattle.zone_proto.specs.Sets.{RRset}
use Rattle.zone_proto.specs.Types.{NSEC}
use Rattle.zone_proto.proofs.Members.{In, In-map, In-filter_map, any_from_In, and_left, and_right}
use Rattle.zone_proto.proofs.Ordering.KeyLaws.{key_cmp_total}
use Rattle.zone_proto.proofs.Ordering.KeyOrder.{key_same, key_itself}
use Rattle.zone_proto.proofs.SetLaws.{IsSet-alone}
use Rattle.zone_map.specs.Zones.{Sets, last_at, IsStoredAt, AreStored, IsZone}
use Rattle.zone_map.proofs.Lists.{owner_lowered, owner_named}
use Rattle.zone_map.proofs.Upserting.{same_from_lower}
use Rattle.zone_denial.specs.Authority.{is_authoritative, owns_besides}
use Rattle.zone_denial.specs.NsecCircle.{nsec_next}
use Rattle.zone_denial.specs.NsecSets.{nsec_data, new_set, nsec_set, nsec_set_at}
use Rattle.zone_denial.specs.TypeLists.{nsec_types}
use Rattle.zone_denial.proofs.Names.AuthoritativeNames.{from_besides}
use Rattle.update_in_place.specs.Parts.{is_among}
use Rattle.chain_changes.specs.Renewal.{nsec_entry_of}
use Rattle.chain_changes.proofs.OthersStay.{among_in, not_among}

module _ (origin : Name) (m : Sets) (ttl serial : ℕ) where
  -- an entry is that of a name among some that the zone is authoritative for
  pub record IsMade (P : Name → Type 0) (e : RrKey × RRset) : Type 0 where
    pub own : e ≡ (key e.0.name NSEC, nsec_set origin m ttl serial e.0.name)
    pub on : is_authoritative origin m NSEC e.0.name ≡ true
    pub among : P e.0.name

  module _ (P : Name → Type 0) where
    one_made : (n : Name) (b : Bool) → is_authoritative origin m NSEC n ≡ b → P n → (e : RrKey × RRset)
        → option_map (λ (s : RRset). (key n NSEC, s)) (cond b (Some (nsec_set origin m ttl serial n)) None) ≡ Some e → IsMade P e
    one_made n true h p e q =
        let same : (key n NSEC, nsec_set origin m ttl serial n) ≡ e = cc in
        subst (IsMade P) same (record { own = refl; on = h; among = p })
    one_made n false h p e q = absurd cc

    all_made : (names : List Name) → ((x : Name) → In x names → P x) → All (IsMade P) (filter_map (nsec_entry_of origin m ttl serial) names)
    all_made [] h = λ i d l. absurd (omega arith)
    all_made (n ∷ names) h = by (nsec_entry_of origin m ttl serial n) refl (all_made names (λ x i. h x (inr i)))
      where
        by : (o : Option (RrKey × RRset)) → nsec_entry_of origin m ttl serial n ≡ o → All (IsMade P) (filter_map (nsec_entry_of origin m ttl serial) names)
            → All (IsMade P) (cons_option o (filter_map (nsec_entry_of origin m ttl serial) names))
        by None e ih = ih
        by (Some x) e ih =
            All-cons (IsMade P) x (filter_map (nsec_entry_of origin m ttl serial) names)
            (one_made n (is_authoritative origin m NSEC n) refl (h n (inl refl)) x e) ih

  -- ---- each is under its key

  stored : IsZone m → (n : Name) → is_authoritative origin m NSEC n ≡ true → IsStoredAt n NSEC (nsec_set origin m ttl serial n)
  stored zone n on =
      let besides = and_left (owns_besides m NSEC n) _ (and_right (is_at_or_above origin n) _ on) in
      let r = from_besides m NSEC n besides in
      record {
        named = owner_named m n r.0 zone r.2;
        owner = owner_lowered m n r.0 zone r.2;
        record_type = refl;
        filled = λ e. cc;
        set = IsSet-alone n NSEC _ (same_from_lower n n refl) refl;
      }

  pub AreStored-made : IsZone m → (names : List Name) → AreStored (filter_map (nsec_entry_of origin m ttl serial) names)
  AreStored-made zone names k d lt =
      let made = all_made (λ x. In x names) names (λ x i. i) k d lt in
      let e = get_or (filter_map (nsec_entry_of origin m ttl serial) names) k d in
      subst (λ (x : RrKey × RRset). IsStoredAt x.0.name x.0.record_type.0 x.1) (sym made.own) (stored zone e.0.name made.on)

  -- ---- the last under a key is the name's set

  module _ (names : List Name) (n : Name) (t : ℕ) where
    abbrev entries : Sets
    entries = filter_map (nsec_entry_of origin m ttl serial) names

    abbrev target : Option RRset
    target = if is_among names n then nsec_set_at origin m ttl serial n t else None

    among_true : (b : Bool) → In n names → is_among names n ≡ b → b ≡ true
    among_true true i e = refl
    among_true false i e = absurd (not_among names n e i)

    found : (e : RrKey × RRset) → IsMade (λ x. In x names) e → key_eq e.0 (key n t) ≡ true → target ≡ Some e.1
    found e made same =
        let own = key_same e.0 (key n t) same in
        let name : e.0.name ≡ n = ap (λ (k : RrKey). k.name) own in
        let type' : t ≡ NSEC = sym (ap (λ (k : RrKey). k.record_type.0) own) ∙ ap (λ (d : RrKey × RRset). d.0.record_type.0) made.own in
        let on : is_authoritative origin m NSEC n ≡ true = ap (is_authoritative origin m NSEC) (sym name) ∙ made.on in
        let value = ap (λ (d : RrKey × RRset). d.1) made.own ∙ ap (nsec_set origin m ttl serial) name in
        let test = ap (λ b. b && is_authoritative origin m NSEC n) (eq-eqb t NSEC type') ∙ on in
        let there : is_among names n ≡ true = among_true (is_among names n) (subst (λ x. In x names) name made.among) refl in
        ap (λ b. if b then nsec_set_at origin m ttl serial n t else None) there
        ∙ ap (λ b. cond b (Some (nsec_set origin m ttl serial n)) None) test
        ∙ ap Some (sym value)

    made_there : In n names → (t == NSEC) && is_authoritative origin m NSEC n ≡ true → is_some (last_at entries n t) ≡ true
    made_there i h =
        let on = and_right (t == NSEC) (is_authoritative origin m NSEC n) h in
        let type' : NSEC ≡ t = sym (eqb-true t NSEC (and_left (t == NSEC) (is_authoritative origin m NSEC n) h)) in
        let made : nsec_entry_of origin m ttl serial n ≡ Some (key n NSEC, nsec_set origin m ttl serial n) =
        ap (λ b. option_map (λ (s : RRset). (key n NSEC, s)) (cond b (Some (nsec_set origin m ttl serial n)) None)) on in
        let e : RrKey × RRset = (key n NSEC, nsec_set origin m ttl serial n) in
        let among : In e entries = In-filter_map (nsec_entry_of origin m ttl serial) n e names i made in
        is_some-update_all (eq_by_cmp_equiv key_cmp_total) (key n t) (λ _. None) entries
        ∙ any_from_In (key_eq (key n t)) (key n NSEC) (keys_of entries) (In-map (λ (e : RrKey × RRset). e.0) e entries among)
        (ap (key_eq (key n t)) (ap (key n) type') ∙ key_itself (key n t))

    none_due : last_at entries n t ≡ None → (b : Bool) → is_among names n ≡ b → None ≡ (if b then nsec_set_at origin m ttl serial n t else None)
    none_due e false h = refl
    none_due e true h = at ((t == NSEC) && is_authoritative origin m NSEC n) refl
      where
        at : (b : Bool) → (t == NSEC) && is_authoritative origin m NSEC n ≡ b → None ≡ cond b (Some (nsec_set origin m ttl serial n)) None
        at true g = absurd (true≢false (sym (made_there (among_in names n h) g) ∙ ap is_some e))
        at false g = refl

    pub last_at-made : last_at entries n t ≡ target
    last_at-made = by (last_at entries n t) refl
      where
        by : (o : Option RRset) → last_at entries n t ≡ o → last_at entries n t ≡ target
        by None e = e ∙ none_due e (is_among names n) refl
        by (Some v) e =
            let P = λ (w : RRset). target ≡ Some w in
            let all = IfSome-update_all key_eq P (key n t) (λ _. None) entries tt
            (λ k d lt same. found (get_or entries k d) (all_made (λ x. In x names) names (λ x i. i) k d lt) same) in
            e ∙ sym (subst (λ (o : Option RRset). IfSome o P) e all)

-- ---- the entry of one name

pub no_entry : (origin : Name) (m : Sets) (ttl serial : ℕ) (n : Name) → is_authoritative origin m NSEC n ≡ false → None ≡ nsec_entry_of origin m ttl serial n
no_entry origin m ttl serial n h = sym (ap (λ b. option_map (λ (s : RRset). (key n NSEC, s)) (cond b (Some (nsec_set origin m ttl serial n)) None)) h)

pub entry_by : (origin : Name) (m : Sets) (ttl serial : ℕ) (n next : Name) (types : List ℕ) (e : RrKey × RRset) → is_authoritative origin m NSEC n ≡ true
    → next ≡ nsec_next origin m n → types ≡ nsec_types m n → e ≡ (key n NSEC, new_set ttl serial n (nsec_data next types)) → Some e ≡ nsec_entry_of origin m ttl serial n
entry_by origin m ttl serial n next types e on p q is =
    ap Some (is ∙ (λ i. (key n NSEC, new_set ttl serial n (nsec_data (p i) (q i)))))
    ∙ sym (ap (λ b. option_map (λ (s : RRset). (key n NSEC, s)) (cond b (Some (nsec_set origin m ttl serial n)) None)) on)

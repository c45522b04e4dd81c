-- The NSEC3 sets of those that are made anew, by their keys
use Rattle.std.proofs.Common.{◌≡◌, ℕ, ◌==◌, ◌&&◌, Bool, true, false, List, [], ◌∷◌, get_or, refl, sym, ap, ◌∙◌, subst, true≢false, inl, inr, eqb-true, eq-eqb, arith}
use Rattle.std.specs.Prelude.{Option, Some, None, filter_map, is_some, IfSome, option_map, if◌then◌else◌}
use Rattle.std.specs.Cmp.{eq_by_cmp_equiv}
use Rattle.std.specs.List.{All, cons_option}
use Rattle.std.specs.Map.{keys_of}
use Rattle.std.proofs.lemmas.List.Elements.{All-cons}
use Rattle.std.proofs.lemmas.Map.Made.{IfSome-update_all, is_some-update_all}
use Rattle.zone_proto.specs.declared.rdata.denial.NSEC3PARAM.{NSEC3PARAM as Nsec3Parameters}
use Rattle.zone_proto.specs.declared.rr_key.RrKey.{RrKey}
use Rattle.zone_proto.specs.Keys.{key, key_eq}
use Rattle.zone_proto.specs.Names.{Name}
use Rattle.zone_proto.specs.Sets.{RRset}
use Rattle.zone_proto.specs.Types.{NSEC3}
use Rattle.zone_proto.proofs.Members.{In, In-map, In-from_map, In-filter_map, any_from_In, and_left, and_right}
use Rattle.zone_proto.proofs.Ordering.KeyLaws.{key_cmp_total}
use Rattle.zone_proto.proofs.Ordering.KeyOrder.{key_same, key_itself}
use Rattle.zone_map.specs.Zones.{Sets, last_at}
use Rattle.hashed_changes.specs.Among.{is_among}
use Rattle.hashed_changes.specs.declared.renewals.Renewal.{Renewal}
use Rattle.hashed_changes.specs.Renewals.{entry_of, owners_made, set_by}
use Rattle.hashed_changes.proofs.Counted.{among_from}
use Rattle.hashed_changes.proofs.Names.{among_in}

nothing : (s : RRset) → None ≡ Some s → ⊥
nothing s e = cc

module _ (change : RRset → RRset) (parameters : Nsec3Parameters) (ttl serial : ℕ) (due : Name → Option RRset) where
  -- what is said of each is what it is to have, once it is changed
  abbrev pub AreDue : List Renewal → Type 0
  AreDue made = (r : Renewal) → In r made → due r.owner ≡ option_map change (set_by parameters ttl serial r.owner r.link)

  -- an entry is that of an owner among some
  record IsMade (P : Name → Type 0) (e : RrKey × RRset) : Type 0 where
    own : e.0 ≡ key e.0.name NSEC3
    is : due e.0.name ≡ Some (change e.1)
    among : P e.0.name

  one_made : (P : Name → Type 0) (r : Renewal) → P r.owner → due r.owner ≡ option_map change (set_by parameters ttl serial r.owner r.link) → (s : Option RRset) → set_by parameters ttl serial r.owner r.link ≡ s → (e : RrKey × RRset)
      → option_map (λ (s : RRset). (key r.owner NSEC3, s)) s ≡ Some e → IsMade P e
  one_made P r p d None h e q = absurd cc
  one_made P r p d (Some s) h e q =
      let same : (key r.owner NSEC3, s) ≡ e = cc in
      subst (IsMade P) same (record { own = refl; is = d ∙ ap (option_map change) h; among = p })

  all_made : (P : Name → Type 0) (made : List Renewal) → AreDue made → ((r : Renewal) → In r made → P r.owner) → All (IsMade P) (filter_map (entry_of parameters ttl serial) made)
  all_made P [] d h = λ i x l. absurd (omega arith)
  all_made P (r ∷ made) d h = by (entry_of parameters ttl serial r) refl (all_made P made (λ x i. d x (inr i)) (λ x i. h x (inr i)))
    where
      by : (o : Option (RrKey × RRset)) → entry_of parameters ttl serial r ≡ o → All (IsMade P) (filter_map (entry_of parameters ttl serial) made) → All (IsMade P) (cons_option o (filter_map (entry_of parameters ttl serial) made))
      by None e ih = ih
      by (Some x) e ih =
          All-cons (IsMade P) x (filter_map (entry_of parameters ttl serial) made)
          (one_made P r (h r (inl refl)) (d r (inl refl)) (set_by parameters ttl serial r.owner r.link) refl x e) ih

  module _ (made : List Renewal) (dues : AreDue made) (o : Name) (t : ℕ) where
    abbrev entries : Sets
    entries = filter_map (entry_of parameters ttl serial) made

    abbrev target : Option RRset
    target = if (t == NSEC3) && is_among (owners_made made) o then due o else None

    abbrev IsOwner : Name → Type 0
    IsOwner n = In n (owners_made made)

    found : (e : RrKey × RRset) → IsMade IsOwner e → key_eq e.0 (key o t) ≡ true → target ≡ Some (change e.1)
    found e is same =
        let own = key_same e.0 (key o t) same in
        let name : e.0.name ≡ o = ap (λ (k : RrKey). k.name) own in
        let type' : t ≡ NSEC3 = sym (ap (λ (k : RrKey). k.record_type.0) own) ∙ ap (λ (k : RrKey). k.record_type.0) is.own in
        let there : is_among (owners_made made) o ≡ true = among_from (owners_made made) o (subst (λ x. In x (owners_made made)) name is.among) in
        (λ i. if eq-eqb t NSEC3 type' i && there i then due o else None) ∙ ap due (sym name) ∙ is.is

    made_there : (s : RRset) → due o ≡ Some s → (t == NSEC3) && is_among (owners_made made) o ≡ true → is_some (last_at entries o t) ≡ true
    made_there s d h = by (set_by parameters ttl serial r.0.owner r.0.link) refl
      where
        type' : NSEC3 ≡ t
        type' = sym (eqb-true t NSEC3 (and_left (t == NSEC3) (is_among (owners_made made) o) h))

        r : (x : Renewal) × In x made × (x.owner ≡ o)
        r = In-from_map (λ (x : Renewal). x.owner) o made (among_in (owners_made made) o (and_right (t == NSEC3) (is_among (owners_made made) o) h))

        by : (p : Option RRset) → set_by parameters ttl serial r.0.owner r.0.link ≡ p → is_some (last_at entries o t) ≡ true
        by None e = absurd (nothing s (sym (dues r.0 r.1 ∙ ap (option_map change) e) ∙ ap due r.2 ∙ d))
        by (Some v) says =
            let e : RrKey × RRset = (key r.0.owner NSEC3, v) in
            let made_e : entry_of parameters ttl serial r.0 ≡ Some e = ap (option_map (λ (s : RRset). (key r.0.owner NSEC3, s))) says in
            let among : In e entries = In-filter_map (entry_of parameters ttl serial) r.0 e made r.1 made_e in
            is_some-update_all (eq_by_cmp_equiv key_cmp_total) (key o t) (λ _. None) entries
            ∙ any_from_In (key_eq (key o t)) (key r.0.owner NSEC3) (keys_of entries) (In-map (λ (e : RrKey × RRset). e.0) e entries among)
            ((λ i. key_eq (key o t) (key (r.2 i) (type' i))) ∙ key_itself (key o t))

    none_due : last_at entries o t ≡ None → (b : Bool) → (t == NSEC3) && is_among (owners_made made) o ≡ b → (d : Option RRset) → due o ≡ d → None ≡ (if b then due o else None)
    none_due e false h d f = refl
    none_due e true h None f = sym f
    none_due e true h (Some s) f = absurd (true≢false (sym (made_there s f h) ∙ ap is_some e))

    pub last_at-made : option_map change (last_at entries o t) ≡ target
    last_at-made = by (last_at entries o t) refl
      where
        by : (p : Option RRset) → last_at entries o t ≡ p → option_map change (last_at entries o t) ≡ target
        by None e = ap (option_map change) e ∙ none_due e ((t == NSEC3) && is_among (owners_made made) o) refl (due o) refl
        by (Some v) e =
            let P = λ (w : RRset). target ≡ Some (change w) in
            let all = IfSome-update_all key_eq P (key o t) (λ _. None) entries tt
            (λ k d lt same. found (get_or entries k d) (all_made IsOwner made dues (λ r i. In-map (λ (x : Renewal). x.owner) r made i) k d lt) same) in
            ap (option_map change) e ∙ sym (subst (λ (p : Option RRset). IfSome p P) e all)

-- ---- an entry is that of one of their owners

record IsOwned (P : Name → Type 0) (e : RrKey × RRset) : Type 0 where
  own : e.0 ≡ key e.0.name NSEC3
  among : P e.0.name

module _ (parameters : Nsec3Parameters) (ttl serial : ℕ) where
  one_owned : (P : Name → Type 0) (r : Renewal) → P r.owner → (s : Option RRset) (e : RrKey × RRset) → option_map (λ (s : RRset). (key r.owner NSEC3, s)) s ≡ Some e → IsOwned P e
  one_owned P r p None e q = absurd cc
  one_owned P r p (Some s) e q =
      let same : (key r.owner NSEC3, s) ≡ e = cc in
      subst (IsOwned P) same (record { own = refl; among = p })

  all_owned : (P : Name → Type 0) (made : List Renewal) → ((r : Renewal) → In r made → P r.owner) → All (IsOwned P) (filter_map (entry_of parameters ttl serial) made)
  all_owned P [] h = λ i x l. absurd (omega arith)
  all_owned P (r ∷ made) h = by (entry_of parameters ttl serial r) refl (all_owned P made (λ x i. h x (inr i)))
    where
      by : (o : Option (RrKey × RRset)) → entry_of parameters ttl serial r ≡ o → All (IsOwned P) (filter_map (entry_of parameters ttl serial) made) → All (IsOwned P) (cons_option o (filter_map (entry_of parameters ttl serial) made))
      by None e ih = ih
      by (Some x) e ih =
          All-cons (IsOwned P) x (filter_map (entry_of parameters ttl serial) made) (one_owned P r (h r (inl refl)) (set_by parameters ttl serial r.owner r.link) x e) ih

  module _ (made : List Renewal) (o : Name) (t : ℕ) where
    abbrev target_owned : Bool
    target_owned = (t == NSEC3) && is_among (owners_made made) o

    found_owned : (e : RrKey × RRset) → IsOwned (λ n. In n (owners_made made)) e → key_eq e.0 (key o t) ≡ true → target_owned ≡ true
    found_owned e is same =
        let own = key_same e.0 (key o t) same in
        let name : e.0.name ≡ o = ap (λ (k : RrKey). k.name) own in
        let type' : t ≡ NSEC3 = sym (ap (λ (k : RrKey). k.record_type.0) own) ∙ ap (λ (k : RrKey). k.record_type.0) is.own in
        let there : is_among (owners_made made) o ≡ true = among_from (owners_made made) o (subst (λ x. In x (owners_made made)) name is.among) in
        λ i. eq-eqb t NSEC3 type' i && there i

    -- so none is found for another owner or type
    pub none_made : target_owned ≡ false → last_at (filter_map (entry_of parameters ttl serial) made) o t ≡ None
    none_made f = by (last_at (filter_map (entry_of parameters ttl serial) made) o t) refl
      where
        by : (p : Option RRset) → last_at (filter_map (entry_of parameters ttl serial) made) o t ≡ p → last_at (filter_map (entry_of parameters ttl serial) made) o t ≡ None
        by None e = e
        by (Some v) e =
            let P = λ (w : RRset). target_owned ≡ true in
            let all = IfSome-update_all key_eq P (key o t) (λ _. None) (filter_map (entry_of parameters ttl serial) made) tt
            (λ k d lt same. found_owned (get_or (filter_map (entry_of parameters ttl serial) made) k d)
            (all_owned (λ n. In n (owners_made made)) made (λ r i. In-map (λ (x : Renewal). x.owner) r made i) k d lt) same) in
            let there : target_owned ≡ true = subst (λ (p : Option RRset). IfSome p P) e all in
            absurd (true≢false (sym there ∙ f))

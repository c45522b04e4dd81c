-- NSEC sets put in place of those of some names, and those that are renewed so
use Rattle.std.proofs.Common.{◌≡◌, ℕ, ◌==◌, ◌&&◌, ◌||◌, Bool, true, false, cond, List, [], ◌∷◌, map, refl, sym, ap, ◌∙◌, eqb-true, eq-eqb}
use Rattle.std.specs.Prelude.{Option, Some, None, if◌then◌else◌, is_some, option_map}
use Rattle.std.specs.Cmp.{both_ways}
use Rattle.std.specs.List.{list_any}
use Rattle.std.specs.Option.{option_or}
use Rattle.zone_proto.specs.declared.rr_key.RrKey.{RrKey}
use Rattle.zone_proto.specs.Keys.{key, key_eq}
use Rattle.zone_proto.specs.Names.{Name, name_eq}
use Rattle.zone_proto.specs.Sets.{RRset}
use Rattle.zone_proto.specs.Types.{NSEC}
use Rattle.zone_proto.proofs.Members.{and_left, and_right}
use Rattle.zone_proto.proofs.Names.NameTree.{name_eq-Decides}
use Rattle.zone_proto.proofs.Ordering.KeyOrder.{key_itself, key_same}
use Rattle.zone_map.specs.Zones.{Sets, set_at}
use Rattle.zone_denial.specs.NsecSets.{nsec_set, nsec_set_at}
use Rattle.zone_denial.specs.Authority.{is_authoritative}
use Rattle.zone_trimming.specs.Trimming.{trimmed_at, trimmed_set}
use Rattle.update_in_place.specs.Parts.{is_among}
use Rattle.chain_changes.specs.Renewal.{is_renewed, IsRenewed}
use Rattle.signed_changes.specs.Renewing.{with_renewed}

-- ---- keys of sets that go

and_none : (a : Bool) → false ≡ a && false
and_none true = refl
and_none false = refl

-- the key of a name and a type
key_by : (n a : Name) (t u : ℕ) → key_eq (key n t) (key a u) ≡ (name_eq n a && (t == u))
key_by n a t u = both_ways (key_eq (key n t) (key a u)) (name_eq n a && (t == u)) to from
  where
    to : key_eq (key n t) (key a u) ≡ true → (name_eq n a && (t == u)) ≡ true
    to h =
        let same = key_same (key n t) (key a u) h in
        let name = (name_eq-Decides n a).1 (ap (λ (k : RrKey). k.name) same) in
        let type' = eq-eqb t u (ap (λ (k : RrKey). k.record_type.0) same) in
        λ i. name i && type' i

    from : (name_eq n a && (t == u)) ≡ true → key_eq (key n t) (key a u) ≡ true
    from h =
        let name : n ≡ a = (name_eq-Decides n a).0 (and_left (name_eq n a) (t == u) h) in
        let type' : t ≡ u = eqb-true t u (and_right (name_eq n a) (t == u) h) in
        (λ i. key_eq (key (name i) (type' i)) (key a u)) ∙ key_itself (key a u)

-- the keys of the NSEC sets of some names
pub nsec_among : (n : Name) (t : ℕ) (names : List Name) → list_any (key_eq (key n t)) (map (λ (a : Name). key a NSEC) names) ≡ ((t == NSEC) && is_among names n)
nsec_among n t [] = and_none (t == NSEC)
nsec_among n t (a ∷ names) =
    ap (λ b. b || list_any (key_eq (key n t)) (map (λ (x : Name). key x NSEC) names)) (key_by n a t NSEC)
    ∙ ap (λ b. (name_eq n a && (t == NSEC)) || b) (nsec_among n t names)
    ∙ spread (name_eq n a) (t == NSEC) (is_among names n)
  where
    spread : (a b c : Bool) → ((a && b) || (b && c)) ≡ (b && (a || c))
    spread true true c = refl
    spread true false c = refl
    spread false true c = refl
    spread false false c = refl

-- ---- these are the sets that are renewed

module _ (origin : Name) (keys : List RrKey) (names : List Name) (after put : Sets) (ttl serial : ℕ) (sets : Sets)
    (are : (n : Name) → is_among names n ≡ is_renewed origin after keys n)
    (made : (n : Name) (t : ℕ) → set_at sets n t ≡ (if is_among names n then nsec_set_at origin after ttl serial n t else None))
    (stands : (n : Name) (t : ℕ) → set_at put n t ≡ with_renewed names (trimmed_at (set_at sets)) (set_at after) n t) where
  -- none is of another type
  none_other : (n : Name) (t : ℕ) → (t == NSEC) ≡ false → set_at sets n t ≡ None
  none_other n t h =
      made n t ∙ by (is_among names n) (nsec_set_at origin after ttl serial n t) (ap (λ b. cond (b && is_authoritative origin after NSEC n) (Some (nsec_set origin after ttl serial n)) None) h)
    where
      by : (b : Bool) (o : Option RRset) → o ≡ None → (if b then o else None) ≡ None
      by true o e = e
      by false o e = refl

  pub others_put : (n : Name) (t : ℕ) → (t == NSEC) ≡ false → set_at put n t ≡ set_at after n t
  others_put n t h =
      stands n t
      ∙ ap (λ o. option_or (option_map trimmed_set o) (if (t == NSEC) && is_among names n then None else set_at after n t)) (none_other n t h)
      ∙ ap (λ b. if b && is_among names n then None else set_at after n t) h

  pub kept_put : (n : Name) → is_among names n ≡ false → set_at put n NSEC ≡ set_at after n NSEC
  kept_put n h =
      stands n NSEC
      ∙ ap (λ o. option_or (option_map trimmed_set o) (if is_among names n then None else set_at after n NSEC)) (made n NSEC ∙ ap (λ b. if b then nsec_set_at origin after ttl serial n NSEC else None) h)
      ∙ ap (λ b. if b then None else set_at after n NSEC) h

  anew_put : (n : Name) → is_among names n ≡ true → set_at put n NSEC ≡ trimmed_at (nsec_set_at origin after ttl serial) n NSEC
  anew_put n h =
      stands n NSEC
      ∙ ap (λ b. option_or (trimmed_at (set_at sets) n NSEC) (if b then None else set_at after n NSEC)) h
      ∙ none_left (trimmed_at (set_at sets) n NSEC)
      ∙ ap (option_map trimmed_set) (made n NSEC ∙ ap (λ b. if b then nsec_set_at origin after ttl serial n NSEC else None) h)
    where
      none_left : (o : Option RRset) → option_or o None ≡ o
      none_left None = refl
      none_left (Some s) = refl

  pub is_renewed_put : IsRenewed origin keys after (trimmed_at (nsec_set_at origin after ttl serial)) put
  is_renewed_put = record {
    others = λ n t h. ap is_some (others_put n t h);
    anew = λ n h. ap (option_map (λ (s : RRset). s.records)) (anew_put n (are n ∙ h));
    kept = λ n h. ap (option_map (λ (s : RRset). s.records)) (kept_put n (are n ∙ h));
  }

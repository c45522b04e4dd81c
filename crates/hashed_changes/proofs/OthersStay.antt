-- The NSEC3 set of each owner that isn't renewed stays
use Rattle.std.proofs.Common.{◌≡◌, ℕ, Bool, true, false, not, cond, List, [], ◌∷◌, map, refl, sym, ap, ◌∙◌, subst, true≢false, ◌⊎◌, inl, inr, is_le}
use Rattle.std.specs.Prelude.{Option, Some, None, is_some, filter, filter_map, option_map, option_to_list}
use Rattle.std.specs.List.{cons_option}
use Rattle.std.specs.List.Sorted.{IsStrictlySortedBy}
use Rattle.zone_proto.specs.declared.rdata.RData.TheVariants as V
use Rattle.zone_proto.specs.declared.rdata.denial.NSEC3PARAM.{NSEC3PARAM as Nsec3Parameters}
use Rattle.zone_proto.specs.declared.record.Record.{Record}
use Rattle.zone_proto.specs.declared.rr_key.RrKey.{RrKey}
use Rattle.zone_proto.specs.HashedOwners.{hashed_owner}
use Rattle.zone_proto.specs.Names.{Name, name_cmp, name_eq, octets_cmp}
use Rattle.zone_proto.specs.Types.{NSEC3}
use Rattle.zone_proto.proofs.Members.{In, In-Contains, Contains-In, In-filter, In-from_filter, In-filter_map, In-from_filter_map, In-flat_map, not_true}
use Rattle.zone_proto.proofs.Names.NameTree.{name_eq-Decides}
use Rattle.zone_proto.proofs.Names.Tree.{name_order, name_eq_itself}
use Rattle.zone_map.specs.Zones.{Sets, owns, owners}
use Rattle.zone_map.proofs.Owned.{owner_in, owner_owned}
use Rattle.zone_denial.specs.Nsec3Circle.{digests, next_digest, nsec3_data}
use Rattle.zone_denial.specs.Nsec3Names.{nsec3_names}
use Rattle.zone_denial.specs.Nsec3Sets.{HashedName, hashed_cmp, hashed_names, made_record, nsec3_record, nsec3_set_at, set_of}
use Rattle.zone_denial.specs.Nsec3Zones.{IsCircleName, HasDistinctDigests}
use Rattle.zone_denial.proofs.Ascending.{Ascends-filter, Ascends-from_sorted, sorted_from_Ascends}
use Rattle.zone_denial.proofs.InOrder.{ascending_same}
use Rattle.zone_denial.proofs.Hashed.HashedCircle.{hashed_order, hashed_ascends, hashed, hashed_in, name_of_hashed, next_has_next_digest}
use Rattle.zone_denial.proofs.Hashed.Nsec3Owners.{octets_order, sort_as_digests, digest_among, name_of_among}
use Rattle.hashed_changes.specs.Among.{is_among}
use Rattle.hashed_changes.specs.Affected.{is_affected}
use Rattle.hashed_changes.specs.Around.{nearest_around}
use Rattle.hashed_changes.specs.Renewal.{hashed_owners, owners_besides, with_nearest, renewed, IsOfEither, IsChange}
use Rattle.hashed_changes.specs.RenewalLaws.{OthersStay}
use Rattle.hashed_changes.proofs.Circle.{Between, inside, above, below, same_next, nearest_between}
use Rattle.hashed_changes.proofs.Local.{same_types}
use Rattle.hashed_changes.proofs.Names.{among_in, not_among, not_among_from, owns_same, same_named}

-- ---- lists

map_same : {A B : Type 0} (f g : A → B) (xs : List A) → ((x : A) → In x xs → f x ≡ g x) → map f xs ≡ map g xs
map_same f g [] h = refl
map_same f g (x ∷ xs) h = λ i. h x (inl refl) i ∷ map_same f g xs (λ y j. h y (inr j)) i

-- what is made of the elements that pass a test
pub taken_is : {A B : Type 0} (p : A → Bool) (f : A → B) (xs : List A) → filter_map (λ x. cond (p x) (Some (f x)) None) xs ≡ map f (filter p xs)
taken_is p f [] = refl
taken_is p f (x ∷ xs) = by (p x) (taken_is p f xs)
  where
    by : (b : Bool) → filter_map (λ x. cond (p x) (Some (f x)) None) xs ≡ map f (filter p xs) → cons_option (cond b (Some (f x)) None) (filter_map (λ x. cond (p x) (Some (f x)) None) xs) ≡ map f (cond b (x ∷ filter p xs) (filter p xs))
    by true e = ap (λ ys. f x ∷ ys) e
    by false e = e

-- a set is made of any records
set_made : (o : Name) (serial : ℕ) (r : Record) (rs : List Record) → In r rs → is_some (set_of o NSEC3 serial rs) ≡ true
set_made o serial r [] i = absurd i
set_made o serial r (s ∷ rs) i = refl

pub record_there : (o : Name) (serial : ℕ) (rs : List Record) → is_some (set_of o NSEC3 serial rs) ≡ true → (r : Record) × In r rs
record_there o serial [] e = absurd (true≢false (sym e))
record_there o serial (r ∷ rs) e = (r, inl refl)

pub passed : {A : Type 0} (b : Bool) (x y : A) → cond b (Some x) None ≡ Some y → b ≡ true
passed true x y e = refl
passed false x y e = absurd cc

module _ (origin : Name) (m after : Sets) (keys : List RrKey) (names : List Name) (hash : Name → Option (List ℕ)) (parameters : Nsec3Parameters) (ttl serial : ℕ) (change : IsChange origin m after keys names hash parameters.opt_out)
    (held : (o : Name) → owns after o NSEC3 ≡ is_some (nsec3_set_at origin m hash parameters ttl serial o)) where
  abbrev named : Sets → List Name
  named zone = nsec3_names origin zone parameters.opt_out

  abbrev all : Sets → List HashedName
  all zone = hashed_names origin zone hash parameters.opt_out

  abbrev digest : Name → List ℕ
  digest n = change.apart.digest n

  abbrev owner : Name → Name
  owner n = hashed_owner origin (digest n)

  -- the hash tells the names of either zone apart
  abbrev pub apart_before : HasDistinctDigests (IsCircleName origin m parameters.opt_out) hash
  apart_before = record {
    digest = change.apart.digest;
    answers = λ n h. change.apart.answers n (inl h);
    apart = λ n k h j. change.apart.apart n k (inl h) (inl j);
    alike = λ n k h j. change.apart.alike n k (inl h) (inl j);
    octets = λ n h. change.apart.octets n (inl h);
  }

  abbrev pub apart_after : HasDistinctDigests (IsCircleName origin after parameters.opt_out) hash
  apart_after = record {
    digest = change.apart.digest;
    answers = λ n h. change.apart.answers n (inr h);
    apart = λ n k h j. change.apart.apart n k (inr h) (inr j);
    alike = λ n k h j. change.apart.alike n k (inr h) (inr j);
    octets = λ n h. change.apart.octets n (inr h);
  }

  was_named : (n : Name) → In n (named m) → IsOfEither origin m after parameters.opt_out n
  was_named n i = inl (In-Contains n (named m) i)

  is_named : (n : Name) → In n (named after) → IsOfEither origin m after parameters.opt_out n
  is_named n i = inr (In-Contains n (named after) i)

  -- ---- the owners of affected names

  abbrev moved : List Name
  moved = hashed_owners hash origin names

  owner_moved : (n : Name) → IsOfEither origin m after parameters.opt_out n → In n names → In (owner n) moved
  owner_moved n h i = In-filter_map (λ n. option_map (hashed_owner origin) (hash n)) n (owner n) names i (ap (option_map (hashed_owner origin)) (change.apart.answers n h))

  -- a name of either zone whose owner is none of these is of both
  pub unaffected : (n : Name) → IsOfEither origin m after parameters.opt_out n → (In (owner n) moved → ⊥) → is_affected origin after keys n ≡ false
  unaffected n h out = by (is_affected origin after keys n) refl
    where
      by : (b : Bool) → is_affected origin after keys n ≡ b → b ≡ false
      by true e = absurd (out (owner_moved n h (among_in names n (change.named n e))))
      by false e = refl

  pub on : (n : Name) → In n (named m) → (In (owner n) moved → ⊥) → In n (named after)
  on n i out = Contains-In n (named after) ((same_named origin m after keys change.told parameters.opt_out n (unaffected n (was_named n i) out)).1 (In-Contains n (named m) i))

  pub back : (n : Name) → In n (named after) → (In (owner n) moved → ⊥) → In n (named m)
  back n i out = Contains-In n (named m) ((same_named origin m after keys change.told parameters.opt_out n (unaffected n (is_named n i) out)).0 (In-Contains n (named after) i))

  -- ---- an owner of NSEC3 is that of a name of the zone before

  abbrev record_at : Sets → Name → HashedName → Option Record
  record_at zone o h = cond (name_eq o (hashed_owner origin h.digest)) (Some (nsec3_record origin zone hash parameters ttl serial h)) None

  pub name_of_owner : (o : Name) → owns after o NSEC3 ≡ true → (n : Name) × In n (named m) × (o ≡ owner n)
  name_of_owner o k =
      let r = record_there o serial (filter_map (record_at m o) (all m)) (sym (held o) ∙ k) in
      let c = In-from_filter_map (record_at m o) r.0 (all m) r.1 in
      let w = name_of_hashed origin m hash parameters.opt_out apart_before c.0 c.1 in
      let test = passed (name_eq o (hashed_owner origin c.0.digest)) (nsec3_record origin m hash parameters ttl serial c.0) r.0 c.2 in
      (w.0, w.1, (name_eq-Decides o (hashed_owner origin c.0.digest)).0 test ∙ ap (λ (h : HashedName). hashed_owner origin h.digest) w.2)

  pub owner_owns : (n : Name) → In n (named m) → owns after (owner n) NSEC3 ≡ true
  owner_owns n i =
      let h = hashed origin m hash parameters.opt_out apart_before n in
      let there = hashed_in origin m hash parameters.opt_out apart_before n i in
      let made = nsec3_record origin m hash parameters ttl serial h in
      let at : record_at m (owner n) h ≡ Some made = ap (λ b. cond b (Some made) None) (name_eq_itself (owner n)) in
      held (owner n) ∙ set_made (owner n) serial made (filter_map (record_at m (owner n)) (all m)) (In-filter_map (record_at m (owner n)) h made (all m) there at)

  -- ---- an owner that isn't renewed

  module _ (o : Name) (off : In o (renewed hash origin after names) → ⊥) where
    abbrev is_owner : HashedName → Bool
    is_owner h = name_eq o (hashed_owner origin h.digest)

    not_moved : In o moved → ⊥
    not_moved i = off (In-flat_map (with_nearest after moved) o o moved i (inl refl))

    not_nearest : (x : Name) → In x moved → nearest_around name_cmp (owners_besides after moved) x ≡ Some o → ⊥
    not_nearest x i e = off (In-flat_map (with_nearest after moved) x o moved i (inr (subst (λ p. In o (option_to_list p)) (sym e) (inl refl))))

    out : (n : Name) → o ≡ owner n → In (owner n) moved → ⊥
    out n e i = not_moved (subst (λ w. In w moved) (sym e) i)

    -- the names of this owner are the same
    abbrev own : Sets → List HashedName
    own zone = filter is_owner (all zone)

    own_name : (zone : Sets) (apart_there : HasDistinctDigests (IsCircleName origin zone parameters.opt_out) hash) (h : HashedName) → In h (own zone)
        → (n : Name) × In n (named zone) × (h ≡ hashed origin zone hash parameters.opt_out apart_there n) × (o ≡ hashed_owner origin (apart_there.digest n))
    own_name zone apart_there h i =
        let r = In-from_filter is_owner h (all zone) i in
        let w = name_of_hashed origin zone hash parameters.opt_out apart_there h r.0 in
        (w.0, w.1, w.2, (name_eq-Decides o (hashed_owner origin h.digest)).0 r.1 ∙ ap (λ (k : HashedName). hashed_owner origin k.digest) w.2)

    own_in : (zone : Sets) (apart_there : HasDistinctDigests (IsCircleName origin zone parameters.opt_out) hash) (n : Name) → In n (named zone) → o ≡ hashed_owner origin (apart_there.digest n)
        → In (hashed origin zone hash parameters.opt_out apart_there n) (own zone)
    own_in zone apart_there n i e =
        In-filter is_owner (hashed origin zone hash parameters.opt_out apart_there n) (all zone) (hashed_in origin zone hash parameters.opt_out apart_there n i)
        ((name_eq-Decides o (hashed_owner origin (apart_there.digest n))).1 e)

    same_own : own after ≡ own m
    same_own = ascending_same hashed_order (own after) (own m) (ascends after) (ascends m) to from
      where
        ascends : (zone : Sets) → IsStrictlySortedBy hashed_cmp (own zone)
        ascends zone = sorted_from_Ascends hashed_cmp (own zone) (Ascends-filter hashed_cmp is_owner (all zone) (Ascends-from_sorted hashed_cmp (all zone) (hashed_ascends origin zone hash parameters.opt_out)))

        to : (h : HashedName) → In h (own after) → In h (own m)
        to h i = let r = own_name after apart_after h i in subst (λ k. In k (own m)) (sym r.2) (own_in m apart_before r.0 (back r.0 r.1 (out r.0 r.3)) r.3)

        from : (h : HashedName) → In h (own m) → In h (own after)
        from h i = let r = own_name m apart_before h i in subst (λ k. In k (own after)) (sym r.2) (own_in after apart_after r.0 (on r.0 r.1 (out r.0 r.3)) r.3)

    -- ---- the next digest after that of such a name is the same

    module _ (n : Name) (i : In n (named m)) (e : o ≡ owner n) where
      -- a digest of both zones
      record Stays (d : List ℕ) : Type 0 where
        name : Name
        before : In name (named m)
        after' : In name (named after)
        is : d ≡ digest name

      abbrev were : List (List ℕ)
      were = digests hash (named m)

      abbrev are : List (List ℕ)
      are = digests hash (named after)

      in_both : (d : List ℕ) → Stays d → In d were × In d are
      in_both d s = (
        subst (λ x. In x were) (sym s.is) (digest_among change.apart (named m) was_named s.name s.before),
        subst (λ x. In x are) (sym s.is) (digest_among change.apart (named after) is_named s.name s.after'),
      )

      itself : Stays (digest n)
      itself = record { name = n; before = i; after' = on n i (out n e); is = refl }

      own_besides : In o (owners_besides after moved)
      own_besides =
          In-filter (λ w. not (is_among moved w)) o (owners after NSEC3) (owner_in after o NSEC3 (ap (λ w. owns after w NSEC3) e ∙ owner_owns n i))
          (ap not (not_among_from moved o not_moved))

      -- between this name and one whose owner is moved another stays
      by_digests : (k y : Name) → IsOfEither origin m after parameters.opt_out k → In y (named m) → Between name_order o (owner k) (owner y) → Between octets_order (digest n) (digest k) (digest y)
      by_digests k y h j b = turned b
        where
          agree : (x z : Name) → IsOfEither origin m after parameters.opt_out x → IsOfEither origin m after parameters.opt_out z → name_cmp (owner x) (owner z) ≡ octets_cmp (digest x) (digest z)
          agree x z f g = sort_as_digests change.apart origin x z f g

          from_own : (z : Name) → IsOfEither origin m after parameters.opt_out z → name_cmp o (owner z) ≡ octets_cmp (digest n) (digest z)
          from_own z g = ap (λ w. name_cmp w (owner z)) e ∙ agree n z (was_named n i) g

          to_own : (z : Name) → IsOfEither origin m after parameters.opt_out z → name_cmp (owner z) o ≡ octets_cmp (digest z) (digest n)
          to_own z g = ap (name_cmp (owner z)) e ∙ agree z n g (was_named n i)

          turned : Between name_order o (owner k) (owner y) → Between octets_order (digest n) (digest k) (digest y)
          turned (inside l f) = inside (sym (from_own y (was_named y j)) ∙ l) (sym (agree y k (was_named y j) h) ∙ f)
          turned (above u l) = above (ap is_le (sym (to_own k h)) ∙ u) (sym (from_own y (was_named y j)) ∙ l)
          turned (below u f) = below (ap is_le (sym (to_own k h)) ∙ u) (sym (agree y k (was_named y j) h) ∙ f)

      stays_between : (k : Name) → IsOfEither origin m after parameters.opt_out k → In (owner k) moved → (y : List ℕ) × Stays y × Between octets_order (digest n) (digest k) y
      stays_between k h j =
          let near = nearest_between name_order (owners_besides after moved) o (owner k) own_besides (not_nearest (owner k) j) in
          let r = In-from_filter (λ w. not (is_among moved w)) near.0 (owners after NSEC3) near.1 in
          let w = name_of_owner near.0 (owner_owned after near.0 NSEC3 r.0) in
          let apart_from = λ (q : In (owner w.0) moved). not_among moved near.0 (not_true (is_among moved near.0) r.1) (subst (λ x. In x moved) (sym w.2) q) in (
            digest w.0,
            record { name = w.0; before = w.1; after' = on w.0 w.1 apart_from; is = refl },
            by_digests k w.0 h w.1 (subst (Between name_order o (owner k)) w.2 near.2),
          )

      found : (k : Name) → IsOfEither origin m after parameters.opt_out k → ((In (owner k) moved → ⊥) → Stays (digest k)) → Stays (digest k) ⊎ ((y : List ℕ) × Stays y × Between octets_order (digest n) (digest k) y)
      found k h stays = by (is_among moved (owner k)) refl
        where
          by : (b : Bool) → is_among moved (owner k) ≡ b → Stays (digest k) ⊎ ((y : List ℕ) × Stays y × Between octets_order (digest n) (digest k) y)
          by true q = inr (stays_between k h (among_in moved (owner k) q))
          by false q = inl (stays (not_among moved (owner k) q))

      each : (d : List ℕ) → In d were ⊎ In d are → Stays d ⊎ ((y : List ℕ) × Stays y × Between octets_order (digest n) d y)
      each d (inl j) =
          let r = name_of_among change.apart (named m) was_named d j in
          subst (λ x. Stays x ⊎ ((y : List ℕ) × Stays y × Between octets_order (digest n) x y)) (sym r.2)
          (found r.0 (was_named r.0 r.1) (λ q. record { name = r.0; before = r.1; after' = on r.0 r.1 q; is = refl }))
      each d (inr j) =
          let r = name_of_among change.apart (named after) is_named d j in
          subst (λ x. Stays x ⊎ ((y : List ℕ) × Stays y × Between octets_order (digest n) x y)) (sym r.2)
          (found r.0 (is_named r.0 r.1) (λ q. record { name = r.0; before = back r.0 r.1 q; after' = r.1; is = refl }))

      same_digest : next_digest are (digest n) ≡ next_digest were (digest n)
      same_digest = same_next octets_order were are (digest n) Stays in_both each itself

      -- ---- so its record is the same

      same_record : nsec3_record origin after hash parameters ttl serial (hashed origin m hash parameters.opt_out apart_before n) ≡ nsec3_record origin m hash parameters ttl serial (hashed origin m hash parameters.opt_out apart_before n)
      same_record =
          let next =
          next_has_next_digest origin after hash parameters.opt_out apart_after n (on n i (out n e))
          ∙ same_digest
          ∙ sym (next_has_next_digest origin m hash parameters.opt_out apart_before n i) in
          let types = same_types m after n (owns_same origin m after keys change.told n (unaffected n (was_named n i) (out n e))) origin in
          λ j. made_record origin m hash parameters ttl serial (owner n) (V.NSEC3 (nsec3_data parameters (next j) (types j)))

    same_records : filter_map (record_at after o) (all after) ≡ filter_map (record_at m o) (all m)
    same_records =
        taken_is is_owner (nsec3_record origin after hash parameters ttl serial) (all after)
        ∙ ap (map (nsec3_record origin after hash parameters ttl serial)) same_own
        ∙ map_same (nsec3_record origin after hash parameters ttl serial) (nsec3_record origin m hash parameters ttl serial) (own m) same
        ∙ sym (taken_is is_owner (nsec3_record origin m hash parameters ttl serial) (all m))
      where
        same : (h : HashedName) → In h (own m) → nsec3_record origin after hash parameters ttl serial h ≡ nsec3_record origin m hash parameters ttl serial h
        same h i =
            let r = own_name m apart_before h i in
            subst (λ k. nsec3_record origin after hash parameters ttl serial k ≡ nsec3_record origin m hash parameters ttl serial k) (sym r.2) (same_record r.0 r.1 r.3)

    same_set : nsec3_set_at origin after hash parameters ttl serial o ≡ nsec3_set_at origin m hash parameters ttl serial o
    same_set = ap (set_of o NSEC3 serial) same_records

pub others_stay : OthersStay
others_stay origin m after keys names hash parameters ttl serial change held o e =
    same_set origin m after keys names hash parameters ttl serial change held o (not_among (renewed hash origin after names) o e)

-- What is said of an affected name and of the nearest owner before one is right
use Rattle.std.proofs.Common.{◌≡◌, ℕ, Bool, true, false, not, cond, List, [], ◌∷◌, map, refl, sym, ap, ◌∙◌, subst, true≢false, inl, inr, is_le}
use Rattle.std.specs.Prelude.{Option, Some, None, is_some, filter_map, option_map, option_to_list}
use Rattle.zone_proto.specs.declared.rdata.RData.TheVariants as V
use Rattle.zone_proto.specs.declared.rdata.denial.NSEC3.{NSEC3 as Nsec3Data}
use Rattle.zone_proto.specs.declared.rdata.denial.NSEC3PARAM.{NSEC3PARAM as Nsec3Parameters}
use Rattle.zone_proto.specs.declared.record_type.RecordType.{RecordType}
use Rattle.zone_proto.specs.declared.rr_key.RrKey.{RrKey}
use Rattle.zone_proto.specs.HashedOwners.{hashed_owner}
use Rattle.zone_proto.specs.Names.{Name, name_cmp, name_eq, octets_cmp}
use Rattle.zone_proto.specs.Sets.{RRset}
use Rattle.zone_proto.specs.Types.{IN, NSEC3}
use Rattle.zone_proto.proofs.Members.{In, In-Contains, Contains-In, In-filter, In-from_filter, In-filter_map, In-from_filter_map, In-append_right, not_true}
use Rattle.zone_proto.proofs.Names.NameTree.{name_eq-Decides}
use Rattle.zone_proto.proofs.Names.Tree.{name_order}
use Rattle.zone_map.specs.Zones.{Sets, owners}
use Rattle.zone_map.proofs.Owned.{owner_in, owner_owned}
use Rattle.zone_denial.specs.Covering.{covers}
use Rattle.zone_denial.specs.Nsec3Circle.{digests, next_digest, nsec3_data, nsec3_types}
use Rattle.zone_denial.specs.Nsec3Names.{nsec3_names}
use Rattle.zone_denial.specs.Nsec3Sets.{HashedName, hashed_names, nsec3_record, nsec3_set_at, set_of}
use Rattle.zone_denial.proofs.Hashed.HashedCircle.{name_of_hashed, next_has_next_digest}
use Rattle.zone_denial.proofs.Hashed.Nsec3Owners.{octets_order, same_by_owner, same_value, sort_as_digests}
use Rattle.zone_trimming.specs.Trimming.{trimmed_set, trimmed_types}
use Rattle.hashed_changes.specs.Among.{is_among}
use Rattle.hashed_changes.specs.declared.places.Place.{Place}
use Rattle.hashed_changes.specs.declared.places.Affected.{Affected}
use Rattle.hashed_changes.specs.declared.renewals.Link.{Link}
use Rattle.hashed_changes.specs.AffectedPlaces.{IsAffected, AreAffected}
use Rattle.hashed_changes.specs.Around.{nearest_around}
use Rattle.hashed_changes.specs.Places.{fresh_places, owners_of, places_of, IsNextPlace}
use Rattle.hashed_changes.specs.Renewal.{hashed_owners, owners_besides}
use Rattle.hashed_changes.specs.Renewals.{set_by, LinksAffected, LinksTypes, LinksSaid, LinksNearest}
use Rattle.hashed_changes.specs.Standing.{said, IsFollowed, by_it, past, IsHashedWith, IsStanding}
use Rattle.hashed_changes.proofs.AffectedPlaces.{same_owners as owners_are_same}
use Rattle.hashed_changes.proofs.Betweens.{IsNearest, nearest_is, nearest_none}
use Rattle.hashed_changes.proofs.Circle.{Between, inside, above, below}
use Rattle.hashed_changes.proofs.Local.{same_types}
use Rattle.hashed_changes.proofs.Names.{among_in, not_among, not_among_from, owns_same}
use Rattle.hashed_changes.proofs.Counted.{among_from}
use Rattle.hashed_changes.proofs.NextPlaces.{covers_from}
use Rattle.hashed_changes.proofs.OthersStay.{name_of_owner, owner_owns, record_there, passed, unaffected}
use Rattle.hashed_changes.proofs.Renewing.{set_of_name, change_of, held_of, apart_is, Kept, kept_from, said_of, IsFirstKept, followed, ComesFrom, chosen_alone, chosen_before, trimmed_nsec3}
use Rattle.hashed_changes.proofs.TrimmedTwice.{typed, typed_back, trimmed_again}

-- what is followed is so where the same owners are passed over
followed_by_same : (origin : Name) (m : Sets) (some others : List Name) → ((o : Name) → is_among some o ≡ is_among others o) → (o : Name) (d : List ℕ) → IsFollowed origin m some o d → IsFollowed origin m others o d
followed_by_same origin m some others same _ _ (by_it o d s off) = by_it o d s (sym (same (hashed_owner origin d)) ∙ off)
followed_by_same origin m some others same _ _ (past o e d s among rest) = past o e d s (sym (same (hashed_owner origin e)) ∙ among) (followed_by_same origin m some others same (hashed_owner origin e) d rest)

numbers_back : (ts : List ℕ) → map (λ (t : RecordType). t.0) (map (λ t. record { 0 = t }) ts) ≡ ts
numbers_back [] = refl
numbers_back (t ∷ ts) = ap (λ us. t ∷ us) (numbers_back ts)

module _ (origin : Name) (m after : Sets) (keys : List RrKey) (names : List Name) (hash : Name → Option (List ℕ)) (parameters : Nsec3Parameters) (ttl serial : ℕ)
    (st : IsStanding origin m after keys names hash parameters ttl serial) (affected : List Affected) (are : AreAffected origin after hash parameters.opt_out names affected) where
  abbrev named : Sets → List Name
  named zone = nsec3_names origin zone parameters.opt_out

  abbrev digest : Name → List ℕ
  digest n = st.apart.digest n

  abbrev owner : Name → Name
  owner n = hashed_owner origin (digest n)

  abbrev Hashed : Name → Type 0
  Hashed n = IsHashedWith origin m after parameters.opt_out names n

  abbrev moved : List Name
  moved = hashed_owners hash origin names

  abbrev KeptName : Name → Type 0
  KeptName n = Kept origin m after keys names hash parameters ttl serial st n

  pub was : (n : Name) → In n (named m) → Hashed n
  was n i = inl (inl (In-Contains n (named m) i))

  is : (n : Name) → In n (named after) → Hashed n
  is n i = inl (inr (In-Contains n (named after) i))

  touched : (n : Name) → In n names → Hashed n
  touched n i = inr (In-Contains n names i)

  pub same_owners : (o : Name) → is_among (owners_of affected) o ≡ is_among moved o
  same_owners = owners_are_same origin after hash parameters.opt_out names affected are

  name_of_place : (a : Affected) → In a affected → (n : Name) × In n names × IsAffected origin after hash parameters.opt_out n a
  name_of_place a i = let r = are.no_other a (In-Contains a affected i) in (r.0, Contains-In r.0 names r.1, r.2)

  place_of_name : (n : Name) → In n names → (a : Affected) × In a affected × IsAffected origin after hash parameters.opt_out n a
  place_of_name n i = let r = are.each n (In-Contains n names i) in (r.0, Contains-In r.0 affected r.1, r.2)

  -- ---- places by their names

  digest_of : (n : Name) (a : Affected) → In n names → IsAffected origin after hash parameters.opt_out n a → a.place.digest ≡ digest n
  digest_of n a i k = same_value a.place.digest (digest n) (sym k.digest ∙ st.apart.answers n (touched n i))

  owner_of : (n : Name) (a : Affected) → In n names → IsAffected origin after hash parameters.opt_out n a → a.place.owner ≡ owner n
  owner_of n a i k = k.owner ∙ ap (hashed_owner origin) (digest_of n a i k)

  -- a name whose owner is moved is affected
  name_moved : (w : Name) → Hashed w → In (owner w) moved → In w names
  name_moved w h i =
      let r = In-from_filter_map (λ n. option_map (hashed_owner origin) (hash n)) (owner w) names i in
      let same : owner r.0 ≡ owner w = same_name_value (owner r.0) (owner w) (sym (ap (option_map (hashed_owner origin)) (st.apart.answers r.0 (touched r.0 r.1))) ∙ r.2) in
      subst (λ x. In x names) (same_by_owner st.apart origin r.0 w (touched r.0 r.1) h same) r.1
    where
      same_name_value : (a b : Name) → Some a ≡ Some b → a ≡ b
      same_name_value a b e = cc

  owner_moved : (n : Name) → In n names → In (owner n) moved
  owner_moved n i = In-filter_map (λ n. option_map (hashed_owner origin) (hash n)) n (owner n) names i (ap (option_map (hashed_owner origin)) (st.apart.answers n (touched n i)))

  -- whether a name gets a set is told by its types
  types_there : (n : Name) (a : Affected) → IsAffected origin after hash parameters.opt_out n a → is_some a.types ≡ true → In n (named after)
  types_there n a k e = by (is_among (named after) n) refl
    where
      none : (p : Option (List RecordType)) → option_map (λ (ts : List RecordType). map (λ (t : RecordType). t.0) ts) p ≡ None → is_some p ≡ true → ⊥
      none None h g = true≢false (sym g)
      none (Some ts) h g = absurd cc

      by : (b : Bool) → is_among (named after) n ≡ b → In n (named after)
      by true h = among_in (named after) n h
      by false h = absurd (none a.types (k.types ∙ ap (λ b. cond b (Some (nsec3_types origin after n)) None) h) e)

  there_types : (n : Name) (a : Affected) → IsAffected origin after hash parameters.opt_out n a → In n (named after) → is_some a.types ≡ true
  there_types n a k i = by a.types (k.types ∙ ap (λ b. cond b (Some (nsec3_types origin after n)) None) (among_from (named after) n i))
    where
      by : (p : Option (List RecordType)) → option_map (λ (ts : List RecordType). map (λ (t : RecordType). t.0) ts) p ≡ Some (nsec3_types origin after n) → is_some p ≡ true
      by None h = absurd cc
      by (Some ts) h = refl

  fresh_in : (w : Name) → In w names → In w (named after) → (p : Place) × In p (fresh_places affected) × (p.owner ≡ owner w)
  fresh_in w i j =
      let r = place_of_name w i in
      (r.0.place, In-filter_map (λ (a : Affected). cond (is_some a.types) (Some a.place) None) r.0 r.0.place affected r.1 (ap (λ b. cond b (Some r.0.place) None) (there_types w r.0 r.2 j)), owner_of w r.0 i r.2)

  fresh_name : (p : Place) → In p (fresh_places affected) → (n : Name) × In n (named after) × (p.digest ≡ digest n)
  fresh_name p i =
      let r = In-from_filter_map (λ (a : Affected). cond (is_some a.types) (Some a.place) None) p affected i in
      let k = name_of_place r.0 r.1 in
      let some = passed (is_some r.0.types) r.0.place p r.2 in
      (k.0, types_there k.0 r.0 k.2 some, sym (ap (λ (q : Place). q.digest) (given (is_some r.0.types) r.0.place p r.2)) ∙ digest_of k.0 r.0 k.1 k.2)
    where
      given : (b : Bool) (x y : Place) → cond b (Some x) None ≡ Some y → x ≡ y
      given true x y e = cc
      given false x y e = absurd cc

  -- ---- between owners and between digests

  agree : (x z : Name) → Hashed x → Hashed z → name_cmp (owner x) (owner z) ≡ octets_cmp (digest x) (digest z)
  agree x z f g = sort_as_digests st.apart origin x z f g

  pub to_owners : (n z w : Name) → Hashed n → Hashed z → Hashed w → Between octets_order (digest n) (digest z) (digest w) → Between name_order (owner n) (owner z) (owner w)
  to_owners n z w f g h (inside l k) = inside (agree n w f h ∙ l) (agree w z h g ∙ k)
  to_owners n z w f g h (above u l) = above (ap is_le (agree z n g f) ∙ u) (agree n w f h ∙ l)
  to_owners n z w f g h (below u k) = below (ap is_le (agree z n g f) ∙ u) (agree w z h g ∙ k)

  -- ---- kept names

  kept_owner : (n : Name) → KeptName n → In (owner n) (owners_besides after (owners_of affected))
  kept_owner n k =
      In-filter (λ o. not (is_among (owners_of affected) o)) (owner n) (owners after NSEC3)
      (owner_in after (owner n) NSEC3 (owner_owns origin m after keys names hash parameters ttl serial (change_of origin m after keys names hash parameters ttl serial st) (held_of origin m after keys names hash parameters ttl serial st) n k.before'))
      (ap not (same_owners (owner n) ∙ not_among_from moved (owner n) k.unmoved))

  pub owner_kept : (o : Name) → In o (owners_besides after (owners_of affected)) → (n : Name) × KeptName n × (o ≡ owner n)
  owner_kept o i =
      let r = In-from_filter (λ w. not (is_among (owners_of affected) w)) o (owners after NSEC3) i in
      let w = name_of_owner origin m after keys names hash parameters ttl serial (change_of origin m after keys names hash parameters ttl serial st) (held_of origin m after keys names hash parameters ttl serial st) o (owner_owned after o NSEC3 r.0) in
      let off = sym (same_owners o) ∙ not_true (is_among (owners_of affected) o) r.1 in
      (w.0, kept_from origin m after keys names hash parameters ttl serial st w.0 w.1 (λ j. not_among moved o off (subst (λ x. In x moved) (sym w.2) j)), w.2)

  -- ---- the next digest

  abbrev Next : Name → Place → Type 0
  Next n z = z.digest ≡ next_digest (digests hash (named after)) (digest n)

  -- a place of which none is between n's and it
  module _ (n : Name) (kept : Option Place) (z : Place) (i : In n (named after)) (next : IsNextPlace (owner n) (places_of kept (fresh_places affected)) (Some z)) where
    not_between : (p : Place) (w k : Name) → Hashed w → Hashed k → In p (places_of kept (fresh_places affected)) → p.owner ≡ owner w → z.owner ≡ owner k → Between octets_order (digest n) (digest k) (digest w) → ⊥
    not_between p w k h g j e f b =
        true≢false
        (sym (covers_from (owner n) (owner k) (owner w) (to_owners n k w (is n i) g h b))
        ∙ (λ l. covers name_cmp (owner n) (sym f l) (sym e l))
        ∙ next.1 p (In-Contains p (places_of kept (fresh_places affected)) j))

    none_fresh : (k : Name) → Hashed k → z.owner ≡ owner k → (w : Name) → In w (named after) → In (owner w) moved → Between octets_order (digest n) (digest k) (digest w) → ⊥
    none_fresh k g f w j mv b =
        let r = fresh_in w (name_moved w (is w j) mv) j in
        not_between r.0 w k (is w j) g (In-append_right r.0 (option_to_list kept) (fresh_places affected) r.1) r.2 f b

  -- with no kept name
  next_alone : (n : Name) (z : Place) → In n (named after) → ((w : Name) → KeptName w → ⊥) → IsNextPlace (owner n) (places_of None (fresh_places affected)) (Some z) → z.owner ≡ hashed_owner origin z.digest → Next n z
  next_alone n z i none next e =
      let k = fresh_name z (Contains-In z (fresh_places affected) next.0) in
      k.2 ∙ chosen_alone origin m after keys names hash parameters ttl serial st n k.0 i k.1 (none_fresh n None z i next k.0 (is k.0 k.1) (e ∙ ap (hashed_owner origin) k.2)) none

  next_before : (n p q : Name) (kept z : Place) → In n (named after) → IsFirstKept origin m after keys names hash parameters ttl serial st p q → kept.digest ≡ digest q → kept.owner ≡ owner q
      → ComesFrom origin m after keys names hash parameters ttl serial st p n → IsNextPlace (owner n) (places_of (Some kept) (fresh_places affected)) (Some z) → z.owner ≡ hashed_owner origin z.digest → Next n z
  next_before n p q kept z i first is_kept its_owner from next e = by (Contains-In z (places_of (Some kept) (fresh_places affected)) next.0)
    where
      of : (k : Name) → In k (named after) → z.digest ≡ digest k → Next n z
      of k j f =
          let own = e ∙ ap (hashed_owner origin) f in
          f
          ∙ chosen_before origin m after keys names hash parameters ttl serial st n k i j (none_fresh n (Some kept) z i next k (is k j) own) p q first from
          (λ b. not_between n (Some kept) z i next kept q k (was q first.kept.before') (is k j) (inl refl) its_owner own b)

      by : In z (kept ∷ fresh_places affected) → Next n z
      by (inl g) = of q first.kept.after' (ap (λ (x : Place). x.digest) (sym g) ∙ is_kept)
      by (inr j) = let k = fresh_name z j in of k.0 k.1 k.2

  -- ---- sets

  -- the owner of a name that gets no set has none
  none_made : (n : Name) → Hashed n → (In n (named after) → ⊥) → nsec3_set_at origin after hash parameters ttl serial (owner n) ≡ None
  none_made n h out = by (nsec3_set_at origin after hash parameters ttl serial (owner n)) refl
    where
      found : (s : RRset) → nsec3_set_at origin after hash parameters ttl serial (owner n) ≡ Some s → ⊥
      found s e =
          let all = hashed_names origin after hash parameters.opt_out in
          let taken = λ (k : HashedName). cond (name_eq (owner n) (hashed_owner origin k.digest)) (Some (nsec3_record origin after hash parameters ttl serial k)) None in
          let r = record_there (owner n) serial (filter_map taken all) (ap is_some e) in
          let c = In-from_filter_map taken r.0 all r.1 in
          let w = name_of_hashed origin after hash parameters.opt_out (apart_is origin m after keys names hash parameters ttl serial st) c.0 c.1 in
          let test = passed (name_eq (owner n) (hashed_owner origin c.0.digest)) (nsec3_record origin after hash parameters ttl serial c.0) r.0 c.2 in
          let same = (name_eq-Decides (owner n) (hashed_owner origin c.0.digest)).0 test ∙ ap (λ (k : HashedName). hashed_owner origin k.digest) w.2 in
          out (subst (λ x. In x (named after)) (sym (same_by_owner st.apart origin n w.0 h (is w.0 w.1) same)) w.1)

      by : (p : Option RRset) → nsec3_set_at origin after hash parameters ttl serial (owner n) ≡ p → p ≡ None
      by None e = refl
      by (Some s) e = absurd (found s e)

  -- that of a name that gets one
  one_made : (n : Name) (o : Name) (link : Link) → In n (named after) → o ≡ owner n → link.next ≡ next_digest (digests hash (named after)) (digest n) → map (λ (t : RecordType). t.0) link.types ≡ nsec3_types origin after n
      → nsec3_set_at origin after hash parameters ttl serial o ≡ set_by parameters ttl serial o (Some link)
  one_made n o link i e next types =
      ap (nsec3_set_at origin after hash parameters ttl serial) e
      ∙ set_of_name origin after hash parameters ttl serial (apart_is origin m after keys names hash parameters ttl serial st) n i
      ∙ (λ l.
      set_of (sym e l) NSEC3 serial
      (record {
        name = sym e l;
        dns_class = record { 0 = IN };
        ttl = ttl;
        rdata = V.NSEC3 (nsec3_data parameters ((next_has_next_digest origin after hash parameters.opt_out (apart_is origin m after keys names hash parameters ttl serial st) n i ∙ sym next) l) (sym types l));
      }
      ∷ []))

  -- with a trimmed list
  abbrev with_types : Name → List ℕ → List RecordType → Option RRset
  with_types o next types =
      set_of o NSEC3 serial
      (record { name = o; dns_class = record { 0 = IN }; ttl = ttl; rdata = V.NSEC3 (record (nsec3_data parameters next []) { types = types }) }
      ∷ [])

  made_with : (o : Name) (link : Link) → option_map trimmed_set (set_by parameters ttl serial o (Some link)) ≡ with_types o link.next (trimmed_types (typed (map (λ (t : RecordType). t.0) link.types)))
  made_with o link = refl

  one_trimmed : (n : Name) (o : Name) (link : Link) → In n (named after) → o ≡ owner n → link.next ≡ next_digest (digests hash (named after)) (digest n) → link.types ≡ trimmed_types (typed (nsec3_types origin after n))
      → option_map trimmed_set (nsec3_set_at origin after hash parameters ttl serial o) ≡ option_map trimmed_set (set_by parameters ttl serial o (Some link))
  one_trimmed n o link i e next types =
      let us = nsec3_types origin after n in
      let whole : Link = record { next = link.next; types = typed us } in
      ap (option_map trimmed_set) (one_made n o whole i e next (numbers_back us))
      ∙ made_with o whole
      ∙ ap (with_types o link.next)
      (ap (λ (ts : List ℕ). trimmed_types (typed ts)) (numbers_back us) ∙ sym (trimmed_again (typed us)) ∙ ap trimmed_types (sym types) ∙ ap trimmed_types (sym (typed_back link.types)))
      ∙ sym (made_with o link)

  -- ---- what is said is right

  -- no kept name at all, or a nearest one and what follows it
  abbrev pub IsKeptFor : Option Name → Option Place → Type 0
  IsKeptFor None None = Unit {0}
  IsKeptFor None (Some q) = ⊥
  IsKeptFor (Some p) None = ⊥
  IsKeptFor (Some p) (Some q) = IsFollowed origin after (owners_of affected) p q.digest × (q.owner ≡ hashed_owner origin q.digest)

  fresh_fits : (z : Place) → In z (fresh_places affected) → z.owner ≡ hashed_owner origin z.digest
  fresh_fits z i =
      let r = In-from_filter_map (λ (a : Affected). cond (is_some a.types) (Some a.place) None) z affected i in
      let n = name_of_place r.0 r.1 in
      by (is_some r.0.types) r.0.place z r.2 n.2.owner
    where
      by : (b : Bool) (x y : Place) → cond b (Some x) None ≡ Some y → x.owner ≡ hashed_owner origin x.digest → y.owner ≡ hashed_owner origin y.digest
      by true x y e h = let same : x ≡ y = cc in subst (λ (q : Place). q.owner ≡ hashed_owner origin q.digest) same h
      by false x y e h = absurd cc

  all_fit : (kept : Option Place) (p : Option Name) → IsKeptFor p kept → (z : Place) → In z (places_of kept (fresh_places affected)) → z.owner ≡ hashed_owner origin z.digest
  all_fit None p k z i = fresh_fits z i
  all_fit (Some q) None k z i = absurd k
  all_fit (Some q) (Some p) k z (inl e) = subst (λ (x : Place). x.owner ≡ hashed_owner origin x.digest) e k.1
  all_fit (Some q) (Some p) k z (inr i) = fresh_fits z i

  first_after : (p : Name) (q : Place) → IsFollowed origin after (owners_of affected) p q.digest → (n : Name) → KeptName n → p ≡ owner n → (k : Name) × (q.digest ≡ digest k) × IsFirstKept origin m after keys names hash parameters ttl serial st n k
  first_after p q f n k e =
      followed origin m after keys names hash parameters ttl serial st p q.digest (followed_by_same origin after (owners_of affected) moved same_owners p q.digest f) n k.before' e

  next_for : (n : Name) → In n names → In n (named after) → (p : Option Name) (kept : Option Place) → nearest_around name_cmp (owners_besides after (owners_of affected)) (owner n) ≡ p → IsKeptFor p kept
      → (z : Place) → IsNextPlace (owner n) (places_of kept (fresh_places affected)) (Some z) → Next n z
  next_for n j i None None e k z next =
      next_alone n z i (λ w kw. nearest_none name_order (owners_besides after (owners_of affected)) (owner n) e (owner w) (kept_owner w kw)) next (all_fit None None tt z (Contains-In z (places_of None (fresh_places affected)) next.0))
  next_for n j i None (Some q) e k z next = absurd k
  next_for n j i (Some p) None e k z next = absurd k
  next_for n j i (Some p) (Some q) e k z next =
      let near = nearest_is name_order (owners_besides after (owners_of affected)) (owner n) p e in
      let pn = owner_kept p near.among in
      let qn = first_after p q k.0 pn.0 pn.1 pn.2 in
      let none = λ (w : Name) (kw : KeptName w) (b : Between octets_order (digest pn.0) (digest n) (digest w)).
      near.none_between (owner w) (kept_owner w kw) (subst (λ x. Between name_order x (owner n) (owner w)) (sym pn.2) (to_owners pn.0 n w (was pn.0 pn.1.before') (is n i) (was w kw.before') b)) in
      next_before n pn.0 qn.0 q z i qn.2 qn.1 (k.1 ∙ ap (hashed_owner origin) qn.1) (inr (owner_moved n j, none)) next (all_fit (Some q) (Some p) k z (Contains-In z (places_of (Some q) (fresh_places affected)) next.0))

  pub right_of : (a : Affected) → In a affected → (p : Option Name) (kept : Option Place) → nearest_around name_cmp (owners_besides after (owners_of affected)) a.place.owner ≡ p → IsKeptFor p kept
      → (link : Option Link) → LinksAffected kept (fresh_places affected) a link → nsec3_set_at origin after hash parameters ttl serial a.place.owner ≡ set_by parameters ttl serial a.place.owner link
  right_of a i p kept e k link h = by a.types refl link h
    where
      n : (n : Name) × In n names × IsAffected origin after hash parameters.opt_out n a
      n = name_of_place a i

      own : a.place.owner ≡ owner n.0
      own = owner_of n.0 a n.1 n.2

      types_of : (ts : List RecordType) → a.types ≡ Some ts → In n.0 (named after) → map (λ (t : RecordType). t.0) ts ≡ nsec3_types origin after n.0
      types_of ts f j =
          same_value (map (λ (t : RecordType). t.0) ts) (nsec3_types origin after n.0)
          (sym (ap (option_map (λ (us : List RecordType). map (λ (t : RecordType). t.0) us)) f) ∙ n.2.types ∙ ap (λ b. cond b (Some (nsec3_types origin after n.0)) None) (among_from (named after) n.0 j))

      by : (ts : Option (List RecordType)) → a.types ≡ ts → (link : Option Link) → LinksTypes kept (fresh_places affected) a.place.owner ts link → nsec3_set_at origin after hash parameters ttl serial a.place.owner ≡ set_by parameters ttl serial a.place.owner link
      by None f link l =
          ap (nsec3_set_at origin after hash parameters ttl serial) own
          ∙ none_made n.0 (touched n.0 n.1) (λ j. true≢false (sym (there_types n.0 a n.2 j) ∙ ap is_some f))
          ∙ ap (set_by parameters ttl serial a.place.owner) (sym l)
      by (Some ts) f None l = absurd l
      by (Some ts) f (Some link) l =
          let j = types_there n.0 a n.2 (ap is_some f) in
          let next = next_for n.0 n.1 j p kept (ap (nearest_around name_cmp (owners_besides after (owners_of affected))) (sym own) ∙ e) k l.place (subst (λ (o : Name). IsNextPlace o (places_of kept (fresh_places affected)) (Some l.place)) own l.is_next) in
          one_made n.0 a.place.owner link j own (l.next ∙ next) (ap (map (λ (t : RecordType). t.0)) l.listed ∙ types_of ts f j)

  pub right_before : (x p : Name) (q : Place) → nearest_around name_cmp (owners_besides after (owners_of affected)) x ≡ Some p → IsFollowed origin after (owners_of affected) p q.digest → q.owner ≡ hashed_owner origin q.digest
      → (link : Option Link) → LinksNearest after (Some q) (fresh_places affected) p link → option_map trimmed_set (nsec3_set_at origin after hash parameters ttl serial p) ≡ option_map trimmed_set (set_by parameters ttl serial p link)
  right_before x p q e f g link h = by (said after p) refl link h
    where
      near : IsNearest name_order (owners_besides after (owners_of affected)) x p
      near = nearest_is name_order (owners_besides after (owners_of affected)) x p e

      pn : (n : Name) × KeptName n × (p ≡ owner n)
      pn = owner_kept p near.among

      says : said after p ≡ Some (trimmed_nsec3 (nsec3_data parameters (next_digest (digests hash (named m)) (digest pn.0)) (nsec3_types origin m pn.0)))
      says = ap (said after) pn.2 ∙ said_of origin m after keys names hash parameters ttl serial st pn.0 pn.1.before'

      types_of : (d : Nsec3Data) → said after p ≡ Some d → d.types ≡ trimmed_types (typed (nsec3_types origin after pn.0))
      types_of d s =
          ap (λ (x : Nsec3Data). x.types) (same_data d (trimmed_nsec3 (nsec3_data parameters (next_digest (digests hash (named m)) (digest pn.0)) (nsec3_types origin m pn.0))) (sym s ∙ says))
          ∙ ap (λ (ts : List ℕ). trimmed_types (typed ts)) (sym (same_types m after pn.0 (owns_same origin m after keys st.told pn.0 (unaffected origin m after keys names hash parameters ttl serial (change_of origin m after keys names hash parameters ttl serial st) (held_of origin m after keys names hash parameters ttl serial st) pn.0 (inl (In-Contains pn.0 (named m) pn.1.before')) pn.1.unmoved)) origin))
        where
          same_data : (a b : Nsec3Data) → Some a ≡ Some b → a ≡ b
          same_data a b e = cc

      by : (d : Option Nsec3Data) → said after p ≡ d → (link : Option Link) → LinksSaid (Some q) (fresh_places affected) p d link
          → option_map trimmed_set (nsec3_set_at origin after hash parameters ttl serial p) ≡ option_map trimmed_set (set_by parameters ttl serial p link)
      by None s link l = absurd l
      by (Some d) s None l = absurd l
      by (Some d) s (Some link) l =
          let qn = first_after p q f pn.0 pn.1 pn.2 in
          let next = next_before pn.0 pn.0 qn.0 q l.place pn.1.after' qn.2 qn.1 (g ∙ ap (hashed_owner origin) qn.1) (inl refl)
          (subst (λ (o : Name). IsNextPlace o (places_of (Some q) (fresh_places affected)) (Some l.place)) pn.2 l.is_next) (all_fit (Some q) (Some p) (f, g) l.place (Contains-In l.place (places_of (Some q) (fresh_places affected)) l.is_next.0)) in
          one_trimmed pn.0 p link pn.1.after' pn.2 (l.next ∙ next) (l.listed ∙ types_of d s)

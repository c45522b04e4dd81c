-- Which digest comes next in a zone whose NSEC3 sets stand as they were before a change of it, and which set an owner is to have
use Rattle.std.proofs.Common.{◌≡◌, ℕ, Bool, true, false, List, [], ◌∷◌, map, refl, sym, ap, ◌∙◌, subst, ◌⊎◌, inl, inr, Ordering}
use Rattle.std.specs.Prelude.{Option, Some, None, is_some, filter, option_map}
use Rattle.zone_proto.specs.declared.rdata.denial.NSEC3.{NSEC3 as Nsec3Data}
use Rattle.zone_proto.specs.declared.rdata.denial.NSEC3PARAM.{NSEC3PARAM as Nsec3Parameters}
use Rattle.zone_proto.specs.declared.rr_key.RrKey.{RrKey}
use Rattle.zone_proto.specs.HashedOwners.{hashed_owner}
use Rattle.zone_proto.specs.Names.{Name, name_eq}
use Rattle.zone_proto.specs.Sets.{RRset}
use Rattle.zone_proto.specs.Types.{NSEC3}
use Rattle.zone_proto.proofs.Members.{In, In-Contains, In-filter, In-from_filter}
use Rattle.zone_proto.proofs.Names.NameTree.{name_eq-Decides}
use Rattle.zone_proto.proofs.Ordering.Orders.{IsOrder, irrefl}
use Rattle.zone_map.specs.Zones.{Sets, set_at, owns}
use Rattle.zone_denial.specs.Nsec3Circle.{digests, next_digest, nsec3_data, nsec3_types}
use Rattle.zone_denial.specs.Nsec3Names.{nsec3_names}
use Rattle.zone_denial.specs.Nsec3Sets.{HashedName, hashed_cmp, hashed_names, nsec3_record, nsec3_set_at, set_of}
use Rattle.zone_denial.specs.Nsec3Zones.{IsCircleName, HasDistinctDigests}
use Rattle.zone_denial.proofs.Ascending.{Ascends, Ascends-filter, Ascends-from_sorted}
use Rattle.zone_denial.proofs.Hashed.HashedCircle.{hashed_order, hashed_ascends, hashed, hashed_in, name_of_hashed, next_has_next_digest}
use Rattle.zone_denial.proofs.Hashed.Nsec3Owners.{octets_order, same_by_owner, same_value, digest_among, name_of_among}
use Rattle.zone_trimming.specs.Trimming.{trimmed_set, trimmed_types}
use Rattle.hashed_changes.specs.Among.{is_among}
use Rattle.hashed_changes.specs.Renewal.{hashed_owners, IsChange}
use Rattle.hashed_changes.specs.Standing.{said, said_by, said_next, IsFollowed, by_it, past, IsStanding, StandingIsChange}
use Rattle.hashed_changes.proofs.Betweens.{split, from_later, further, one_first}
use Rattle.hashed_changes.proofs.Circle.{Between, IsNext, next_is, only_next}
use Rattle.hashed_changes.proofs.Names.{among_in, not_among}
use Rattle.hashed_changes.proofs.OthersStay.{on, back, taken_is}

-- an ascending list whose elements are all one
only_one : {A : Type 0} {R : A → A → Ordering} (o : IsOrder R) (x : A) (xs : List A) → Ascends R xs → In x xs → ((y : A) → In y xs → y ≡ x) → xs ≡ x ∷ []
only_one o x [] a i same = absurd i
only_one o x (y ∷ []) a i same = λ j. same y (inl refl) j ∷ []
only_one {A} {R} o x (y ∷ z ∷ ys) a i same =
    absurd (irrefl o x (ap (λ v. R v x) (sym (same y (inl refl))) ∙ ap (R y) (sym (same z (inr (inl refl)))) ∙ a.0 z (inl refl)))

some_mapped : {X Y : Type 0} (f : X → Y) (p : Option X) → is_some (option_map f p) ≡ is_some p
some_mapped f None = refl
some_mapped f (Some x) = refl

-- what a set with a trimmed list says
abbrev pub trimmed_nsec3 : Nsec3Data → Nsec3Data
trimmed_nsec3 d = record d { types = trimmed_types d.types }

-- ---- the set of a name is of one record

module _ (origin : Name) (zone : Sets) (hash : Name → Option (List ℕ)) (parameters : Nsec3Parameters) (ttl serial : ℕ) (apart : HasDistinctDigests (IsCircleName origin zone parameters.opt_out) hash) where
  abbrev all : List HashedName
  all = hashed_names origin zone hash parameters.opt_out

  abbrev entry : Name → HashedName
  entry n = hashed origin zone hash parameters.opt_out apart n

  module _ (n : Name) (i : In n (nsec3_names origin zone parameters.opt_out)) where
    abbrev own_owner : Name
    own_owner = hashed_owner origin (apart.digest n)

    abbrev is_owner : HashedName → Bool
    is_owner h = name_eq own_owner (hashed_owner origin h.digest)

    own : filter is_owner all ≡ entry n ∷ []
    own =
        only_one hashed_order (entry n) (filter is_owner all)
        (Ascends-filter hashed_cmp is_owner all (Ascends-from_sorted hashed_cmp all (hashed_ascends origin zone hash parameters.opt_out)))
        (In-filter is_owner (entry n) all (hashed_in origin zone hash parameters.opt_out apart n i) ((name_eq-Decides own_owner own_owner).1 refl))
        same
      where
        named : (k : Name) → In k (nsec3_names origin zone parameters.opt_out) → IsCircleName origin zone parameters.opt_out k
        named k j = In-Contains k (nsec3_names origin zone parameters.opt_out) j

        same : (h : HashedName) → In h (filter is_owner all) → h ≡ entry n
        same h j =
            let r = In-from_filter is_owner h all j in
            let w = name_of_hashed origin zone hash parameters.opt_out apart h r.0 in
            let owners = (name_eq-Decides own_owner (hashed_owner origin h.digest)).0 r.1 ∙ ap (λ (k : HashedName). hashed_owner origin k.digest) w.2 in
            w.2 ∙ ap entry (sym (same_by_owner apart origin n w.0 (named n i) (named w.0 w.1) owners))

    pub set_of_name : nsec3_set_at origin zone hash parameters ttl serial own_owner ≡ set_of own_owner NSEC3 serial (nsec3_record origin zone hash parameters ttl serial (entry n) ∷ [])
    set_of_name =
        ap (set_of own_owner NSEC3 serial)
        (taken_is is_owner (nsec3_record origin zone hash parameters ttl serial) all ∙ ap (map (nsec3_record origin zone hash parameters ttl serial)) own)

module _ (origin : Name) (m after : Sets) (keys : List RrKey) (names : List Name) (hash : Name → Option (List ℕ)) (parameters : Nsec3Parameters) (ttl serial : ℕ) (st : IsStanding origin m after keys names hash parameters ttl serial) where
  abbrev pub change_of : IsChange origin m after keys names hash parameters.opt_out
  change_of = record {
    told = st.told;
    named = st.named;
    apart = record {
      digest = st.apart.digest;
      answers = λ n h. st.apart.answers n (inl h);
      apart = λ n k h j. st.apart.apart n k (inl h) (inl j);
      alike = λ n k h j. st.apart.alike n k (inl h) (inl j);
      octets = λ n h. st.apart.octets n (inl h);
    };
  }

  pub held_of : (x : Name) → owns after x NSEC3 ≡ is_some (nsec3_set_at origin m hash parameters ttl serial x)
  held_of x =
      sym (some_mapped (λ (s : RRset). s.records) (set_at after x NSEC3)) ∙ ap is_some (st.stood x) ∙ some_mapped (λ (s : RRset). s.records) (option_map trimmed_set (nsec3_set_at origin m hash parameters ttl serial x))
      ∙ some_mapped trimmed_set (nsec3_set_at origin m hash parameters ttl serial x)

  abbrev pub apart_was : HasDistinctDigests (IsCircleName origin m parameters.opt_out) hash
  apart_was = record {
    digest = st.apart.digest;
    answers = λ n h. st.apart.answers n (inl (inl h));
    apart = λ n k h j. st.apart.apart n k (inl (inl h)) (inl (inl j));
    alike = λ n k h j. st.apart.alike n k (inl (inl h)) (inl (inl j));
    octets = λ n h. st.apart.octets n (inl (inl h));
  }

  abbrev pub apart_is : HasDistinctDigests (IsCircleName origin after parameters.opt_out) hash
  apart_is = record {
    digest = st.apart.digest;
    answers = λ n h. st.apart.answers n (inl (inr h));
    apart = λ n k h j. st.apart.apart n k (inl (inr h)) (inl (inr j));
    alike = λ n k h j. st.apart.alike n k (inl (inr h)) (inl (inr j));
    octets = λ n h. st.apart.octets n (inl (inr h));
  }

  abbrev named : Sets → List Name
  named zone = nsec3_names origin zone parameters.opt_out

  abbrev digest : Name → List ℕ
  digest n = st.apart.digest n

  abbrev owner : Name → Name
  owner n = hashed_owner origin (digest n)

  abbrev moved : List Name
  moved = hashed_owners hash origin names

  abbrev were : List (List ℕ)
  were = digests hash (named m)

  abbrev are : List (List ℕ)
  are = digests hash (named after)

  was_named : (n : Name) → In n (named m) → IsCircleName origin m parameters.opt_out n
  was_named n i = In-Contains n (named m) i

  is_named : (n : Name) → In n (named after) → IsCircleName origin after parameters.opt_out n
  is_named n i = In-Contains n (named after) i

  -- a name of both zones whose owner no affected name has
  pub record Kept (n : Name) : Type 0 where
    pub before' : In n (named m)
    pub after' : In n (named after)
    pub unmoved : In (owner n) moved → ⊥

  pub kept_from : (n : Name) → In n (named m) → (In (owner n) moved → ⊥) → Kept n
  kept_from n i out = record { before' = i; after' = on origin m after keys names hash parameters ttl serial change_of held_of n i out; unmoved = out }

  pub kept_back : (n : Name) → In n (named after) → (In (owner n) moved → ⊥) → Kept n
  kept_back n i out = record { before' = back origin m after keys names hash parameters ttl serial change_of held_of n i out; after' = i; unmoved = out }

  -- ---- what the set of a name says that stands

  pub said_of : (n : Name) → In n (named m) → said after (owner n) ≡ Some (trimmed_nsec3 (nsec3_data parameters (next_digest were (digest n)) (nsec3_types origin m n)))
  said_of n i =
      ap said_by (st.stood (owner n) ∙ ap (λ (p : Option RRset). option_map (λ (s : RRset). s.records) (option_map trimmed_set p)) (set_of_name origin m hash parameters ttl serial apart_was n i))
      ∙ ap (λ (d : List ℕ). Some (trimmed_nsec3 (nsec3_data parameters d (nsec3_types origin m n)))) (next_has_next_digest origin m hash parameters.opt_out apart_was n i)

  pub next_name : (n : Name) → In n (named m) → (d : List ℕ) → said_next after (owner n) ≡ Some d → (k : Name) × In k (named m) × (d ≡ digest k) × ((w : Name) → In w (named m) → Between octets_order (digest n) (digest k) (digest w) → ⊥)
  next_name n i d s =
      (r.0, r.1, is ∙ r.2, λ w j b. next.none_between (digest w) (digest_among apart_was (named m) was_named w j) (subst (λ x. Between octets_order (digest n) x (digest w)) (sym r.2) b))
    where
      is : d ≡ next_digest were (digest n)
      is = same_value d (next_digest were (digest n)) (sym s ∙ ap (option_map (λ (a : Nsec3Data). a.next_hashed_owner_name)) (said_of n i))

      next : IsNext octets_order were (digest n) (next_digest were (digest n))
      next = next_is octets_order were (digest n) (digest_among apart_was (named m) was_named n i)

      r : (k : Name) × In k (named m) × (next_digest were (digest n) ≡ digest k)
      r = name_of_among apart_was (named m) was_named (next_digest were (digest n)) next.among

  -- ---- the first kept name after one

  pub record IsFirstKept (n k : Name) : Type 0 where
    pub kept : Kept k
    pub none_between : (w : Name) → Kept w → Between octets_order (digest n) (digest k) (digest w) → ⊥

  pub followed : (o : Name) (d : List ℕ) → IsFollowed origin after moved o d → (n : Name) → In n (named m) → o ≡ owner n → (k : Name) × (d ≡ digest k) × IsFirstKept n k
  followed _ _ (by_it o d s off) n i e =
      let r = next_name n i d (ap (said_next after) (sym e) ∙ s) in
      let out = λ (j : In (owner r.0) moved). not_among moved (hashed_owner origin d) off (subst (λ x. In (hashed_owner origin x) moved) (sym r.2) j) in
      (r.0, r.2, record { kept = kept_from r.0 r.1 out; none_between = λ w kw b. r.3 w kw.before' b })
  followed _ _ (past o e d s among rest) n i same =
      let r = next_name n i e (ap (said_next after) (sym same) ∙ s) in
      let f = followed (hashed_owner origin e) d rest r.0 r.1 (ap (hashed_owner origin) r.2) in
      (f.0, f.1, record { kept = f.2.kept; none_between = λ w kw b. none r.0 f.0 w kw r.2 (r.3 w kw.before') (f.2.none_between w kw) (split octets_order (digest n) (digest f.0) (digest r.0) (digest w) b) })
    where
      none : (z k w : Name) → Kept w → e ≡ digest z → (Between octets_order (digest n) (digest z) (digest w) → ⊥) → (Between octets_order (digest z) (digest k) (digest w) → ⊥)
          → Between octets_order (digest n) (digest z) (digest w) ⊎ ((digest z ≡ digest w) ⊎ Between octets_order (digest z) (digest k) (digest w)) → ⊥
      none z k w kw is first rest (inl b) = first b
      none z k w kw is first rest (inr (inl q)) = kw.unmoved (subst (λ x. In (hashed_owner origin x) moved) (is ∙ q) (among_in moved (hashed_owner origin e) among))
      none z k w kw is first rest (inr (inr b)) = rest b

  -- ---- the next digest in the zone after the change

  -- where this comes from: n is a kept name, or its owner is moved and p is the nearest kept name before it
  abbrev pub ComesFrom : Name → Name → Type 0
  ComesFrom p n = (n ≡ p) ⊎ (In (owner n) moved × ((w : Name) → Kept w → Between octets_order (digest p) (digest n) (digest w) → ⊥))

  module _ (n z : Name) (i : In n (named after)) (j : In z (named after)) (none_moved : (w : Name) → In w (named after) → In (owner w) moved → Between octets_order (digest n) (digest z) (digest w) → ⊥) where
    chosen : ((w : Name) → Kept w → Between octets_order (digest n) (digest z) (digest w) → ⊥) → digest z ≡ next_digest are (digest n)
    chosen none_kept =
        only_next octets_order are (digest n) (digest z) (next_digest are (digest n))
        (record { among = digest_among apart_is (named after) is_named z j; none_between = none })
        (next_is octets_order are (digest n) (digest_among apart_is (named after) is_named n i))
      where
        of : (w : Name) → In w (named after) → (b : Bool) → is_among moved (owner w) ≡ b → Between octets_order (digest n) (digest z) (digest w) → ⊥
        of w k true e b = none_moved w k (among_in moved (owner w) e) b
        of w k false e b = none_kept w (kept_back w k (not_among moved (owner w) e)) b

        none : (d : List ℕ) → In d are → Between octets_order (digest n) (digest z) d → ⊥
        none d k b =
            let r = name_of_among apart_is (named after) is_named d k in
            of r.0 r.1 (is_among moved (owner r.0)) refl (subst (Between octets_order (digest n) (digest z)) r.2 b)

    -- with no kept name at all
    pub chosen_alone : ((w : Name) → Kept w → ⊥) → digest z ≡ next_digest are (digest n)
    chosen_alone none = chosen (λ w k b. none w k)

    pub chosen_before : (p q : Name) → IsFirstKept p q → ComesFrom p n → (Between octets_order (digest n) (digest z) (digest q) → ⊥) → digest z ≡ next_digest are (digest n)
    chosen_before p q first from none_q = chosen none
      where
        other : In (owner n) moved → digest n ≡ digest q → ⊥
        other mv e = first.kept.unmoved (subst (λ x. In (hashed_owner origin x) moved) e mv)

        later : (w : Name) → Kept w → Between octets_order (digest n) (digest q) (digest w) → ComesFrom p n → ⊥
        later w k c (inl e) = first.none_between w k (subst (λ x. Between octets_order (digest x) (digest q) (digest w)) e c)
        later w k c (inr (mv, none_p)) = by (one_first octets_order (digest p) (digest n) (digest q) (other mv))
          where
            by : Between octets_order (digest p) (digest n) (digest q) ⊎ Between octets_order (digest p) (digest q) (digest n) → ⊥
            by (inl b) = none_p q first.kept b
            by (inr b) = first.none_between w k (from_later octets_order (digest p) (digest q) (digest n) (digest w) b c)

        none : (w : Name) → Kept w → Between octets_order (digest n) (digest z) (digest w) → ⊥
        none w k b = by (further octets_order (digest n) (digest z) (digest q) (digest w) b)
          where
            by : Between octets_order (digest n) (digest z) (digest q) ⊎ Between octets_order (digest n) (digest q) (digest w) → ⊥
            by (inl c) = none_q c
            by (inr c) = later w k c from

pub standing_is_change : StandingIsChange
standing_is_change origin m after keys names hash parameters ttl serial st = change_of origin m after keys names hash parameters ttl serial st

-- The NSEC3 sets that stand as they were lead from an owner that isn't affected past affected ones, past each of these once at most
use Rattle.std.proofs.Common.{◌≡◌, ℕ, ◌+◌, ◌<◌, ◌≤◌, Bool, true, false, cond, List, [], ◌∷◌, length, refl, sym, ap, ◌∙◌, subst, arith, ◌⊎◌, inl, inr, true≢false, Result, Ok, Err}
use Rattle.std.specs.Prelude.{Option, Some, None, filter, is_some, option_map, IsSome}
use Rattle.std.specs.List.{Contains}
use Rattle.std.specs.Result.{IfErr, IsErrAnd}
use Rattle.zone_proto.specs.declared.rdata.denial.NSEC3.{NSEC3 as Nsec3Data}
use Rattle.zone_proto.specs.declared.rdata.denial.NSEC3PARAM.{NSEC3PARAM as Nsec3Parameters}
use Rattle.zone_proto.specs.declared.record_type.RecordType.{RecordType}
use Rattle.zone_proto.specs.declared.rr_key.RrKey.{RrKey}
use Rattle.zone_proto.specs.HashedOwners.{hashed_owner}
use Rattle.zone_proto.specs.Names.{Name, name_cmp}
use Rattle.zone_proto.proofs.Members.{In, In-Contains, Contains-In, In-filter_map, In-from_map}
use Rattle.zone_proto.proofs.Names.Tree.{name_order}
use Rattle.zone_proto.proofs.Ordering.Orders.{irrefl}
use Rattle.zone_map.specs.Zones.{Sets}
use Rattle.zone_denial.specs.Covering.{covers}
use Rattle.zone_denial.specs.Nsec3Names.{nsec3_names}
use Rattle.zone_denial.proofs.Hashed.Nsec3Owners.{octets_order}
use Rattle.hashed_changes.specs.Among.{is_among}
use Rattle.hashed_changes.specs.declared.around.Around.{Around}
use Rattle.hashed_changes.specs.declared.places.Affected.{Affected}
use Rattle.hashed_changes.specs.declared.places.Place.{Place}
use Rattle.hashed_changes.specs.declared.renew_fault.RenewFault.{RenewFault}
use Rattle.hashed_changes.specs.declared.renew_fault.RenewFault.TheVariants.{Unclosed}
use Rattle.hashed_changes.specs.Affected.{is_affected}
use Rattle.hashed_changes.specs.AffectedPlaces.{AreAffected}
use Rattle.hashed_changes.specs.Faults.{IsUnclosedAt, StandsForNone, WereNever}
use Rattle.hashed_changes.specs.Around.{nearest_around}
use Rattle.hashed_changes.specs.Passing.{IsAround}
use Rattle.hashed_changes.specs.Places.{fresh_places, owners_of, places_of}
use Rattle.hashed_changes.specs.Renewal.{hashed_owners, owners_besides}
use Rattle.hashed_changes.specs.Standing.{said, said_next, IsHashedWith, IsStanding}
use Rattle.hashed_changes.proofs.Betweens.{from_later, nearest_is, one_first}
use Rattle.hashed_changes.proofs.Circle.{Between, inside, above, below, not_both}
use Rattle.hashed_changes.proofs.Counted.{among_from}
use Rattle.hashed_changes.proofs.Names.{among_in}
use Rattle.hashed_changes.proofs.NextPlaces.{covers_from, from_covers, uncovered}
use Rattle.hashed_changes.proofs.Renewing.{Kept, next_name, said_of}
use Rattle.hashed_changes.proofs.RightSets.{owner_kept, same_owners, to_owners, was}

-- ---- fewer elements pass a test

module _ {X : Type 0} (p q : X → Bool) (all : (x : X) → q x ≡ true → p x ≡ true) where
  upto_if : (b c : Bool) (x : X) (us vs : List X) → (c ≡ true → b ≡ true) → length us ≤ length vs → length (cond c (x ∷ us) us) ≤ length (cond b (x ∷ vs) vs)
  upto_if true true x us vs h l = omega (arith, l)
  upto_if true false x us vs h l = omega (arith, l)
  upto_if false true x us vs h l = absurd (no (h refl))
    where
      no : false ≡ true → ⊥
      no e = cc
  upto_if false false x us vs h l = l

  no_more : (xs : List X) → length (filter q xs) ≤ length (filter p xs)
  no_more [] = omega arith
  no_more (x ∷ xs) = upto_if (p x) (q x) x (filter q xs) (filter p xs) (all x) (no_more xs)

  less_if : (b c : Bool) (x : X) (us vs : List X) → (c ≡ true → b ≡ true) → length us < length vs → length (cond c (x ∷ us) us) < length (cond b (x ∷ vs) vs)
  less_if true true x us vs h l = omega (arith, l)
  less_if true false x us vs h l = omega (arith, l)
  less_if false true x us vs h l = absurd (no (h refl))
    where
      no : false ≡ true → ⊥
      no e = cc
  less_if false false x us vs h l = l

  less_here : (b c : Bool) (x : X) (us vs : List X) → b ≡ true → c ≡ false → length us ≤ length vs → length (cond c (x ∷ us) us) < length (cond b (x ∷ vs) vs)
  less_here true false x us vs e f l = omega (arith, l)
  less_here true true x us vs e f l = absurd (no f)
    where
      no : true ≡ false → ⊥
      no g = cc
  less_here false c x us vs e f l = absurd (no e)
    where
      no : false ≡ true → ⊥
      no g = cc

  fewer : (xs : List X) (x : X) → In x xs → p x ≡ true → q x ≡ false → length (filter q xs) < length (filter p xs)
  fewer [] x i e f = absurd i
  fewer (y ∷ xs) x (inl s) e f = less_here (p y) (q y) y (filter q xs) (filter p xs) (ap p s ∙ e) (ap q s ∙ f) (no_more xs)
  fewer (y ∷ xs) x (inr i) e f = less_if (p y) (q y) y (filter q xs) (filter p xs) (all y) (fewer xs x i e f)

at_most_all : {X : Type 0} (p : X → Bool) (xs : List X) → length (filter p xs) ≤ length xs
at_most_all p [] = omega arith
at_most_all p (x ∷ xs) = by (p x) (at_most_all p xs)
  where
    by : (b : Bool) → length (filter p xs) ≤ length xs → length (cond b (x ∷ filter p xs) (filter p xs)) ≤ length (x ∷ xs)
    by true l = omega (arith, l)
    by false l = omega (arith, l)

-- ---- a step to an affected owner

module _ (origin : Name) (m after : Sets) (keys : List RrKey) (names : List Name) (hash : Name → Option (List ℕ)) (parameters : Nsec3Parameters) (ttl serial : ℕ)
    (st : IsStanding origin m after keys names hash parameters ttl serial) (affected : List Affected) (are : AreAffected origin after hash parameters.opt_out names affected) where
  abbrev named : List Name
  named = nsec3_names origin m parameters.opt_out

  abbrev digest : Name → List ℕ
  digest n = st.apart.digest n

  abbrev owner : Name → Name
  owner n = hashed_owner origin (digest n)

  abbrev moved : List Name
  moved = hashed_owners hash origin names

  abbrev KeptName : Name → Type 0
  KeptName n = Kept origin m after keys names hash parameters ttl serial st n

  -- the affected names whose owners stand between an owner and that of a kept name
  abbrev left : Name → Name → ℕ
  left z o = length (filter (λ (a : Affected). covers name_cmp o (owner z) a.place.owner) affected)

  step : (z : Name) → KeptName z → (n k : Name) → In n named → In k named → ((w : Name) → In w named → Between octets_order (digest n) (digest k) (digest w) → ⊥) → is_among (owners_of affected) (owner k) ≡ true
      → left z (owner k) < left z (owner n)
  step z kz n k i j none on =
      fewer (λ (a : Affected). covers name_cmp (owner n) (owner z) a.place.owner) (λ (a : Affected). covers name_cmp (owner k) (owner z) a.place.owner)
      (λ a e. covers_from (owner n) (owner z) a.place.owner (from_later name_order (owner n) (owner z) (owner k) a.place.owner ahead (from_covers (owner k) (owner z) a.place.owner e)))
      affected there.0 there.1
      (ap (covers name_cmp (owner n) (owner z)) there.2 ∙ covers_from (owner n) (owner z) (owner k) ahead)
      (ap (covers name_cmp (owner k) (owner z)) there.2 ∙ uncovered (owner k) (owner z) (owner k) itself)
    where
      unlike : digest k ≡ digest z → ⊥
      unlike e =
          kz.unmoved
          (subst (λ x. In (hashed_owner origin x) moved) e
          (among_in moved (owner k) (sym (same_owners origin m after keys names hash parameters ttl serial st affected are (owner k)) ∙ on)))

      ahead : Between name_order (owner n) (owner z) (owner k)
      ahead = by (one_first octets_order (digest n) (digest k) (digest z) unlike)
        where
          by : Between octets_order (digest n) (digest k) (digest z) ⊎ Between octets_order (digest n) (digest z) (digest k) → Between name_order (owner n) (owner z) (owner k)
          by (inl b) = absurd (none z kz.before' b)
          by (inr b) =
              to_owners origin m after keys names hash parameters ttl serial st affected are n z k (was origin m after keys names hash parameters ttl serial st affected are n i)
              (was origin m after keys names hash parameters ttl serial st affected are z kz.before') (was origin m after keys names hash parameters ttl serial st affected are k j) b

      there : (a : Affected) × In a affected × (a.place.owner ≡ owner k)
      there = In-from_map (λ (a : Affected). a.place.owner) (owner k) affected (among_in (owners_of affected) (owner k) on)

      itself : Between name_order (owner k) (owner z) (owner k) → ⊥
      itself (inside l h) = irrefl name_order (owner k) l
      itself (above u l) = irrefl name_order (owner k) l
      itself (below u l) = not_both name_order (owner z) (owner k) u l

  -- from the owner of a kept name the sets led to another owner in so many steps, as long as each led to an affected one
  abbrev pub Leads : Name → Name → ℕ → Type 0
  Leads o x i = (z : Name) → KeptName z → o ≡ owner z → (n : Name) × In n named × (x ≡ owner n) × (i + left z x ≤ length affected)

  pub leads_there : (o : Name) → Leads o o 0
  leads_there o z kz e =
      let most : left z o ≤ length affected = at_most_all (λ (a : Affected). covers name_cmp o (owner z) a.place.owner) affected in
      (z, kz.before', e, omega (arith, most))

  pub leads_on : (o x : Name) (i : ℕ) (d : List ℕ) → Leads o x i → said_next after x ≡ Some d → is_among (owners_of affected) (hashed_owner origin d) ≡ true → Leads o (hashed_owner origin d) (i + 1)
  leads_on o x i d h s on z kz e = (r.0, r.1, there, omega (arith, w.3, less))
    where
      w : (n : Name) × In n named × (x ≡ owner n) × (i + left z x ≤ length affected)
      w = h z kz e

      r : (k : Name) × In k named × (d ≡ digest k) × ((v : Name) → In v named → Between octets_order (digest w.0) (digest k) (digest v) → ⊥)
      r = next_name origin m after keys names hash parameters ttl serial st w.0 w.1 d (ap (said_next after) (sym w.2) ∙ s)

      there : hashed_owner origin d ≡ owner r.0
      there = ap (hashed_owner origin) r.2

      less : left z (hashed_owner origin d) < left z x
      less =
          subst (λ y. left z y < left z x) (sym there)
          (subst (λ y. left z (owner r.0) < left z y) (sym w.2) (step z kz w.0 r.0 w.1 r.1 r.3 (ap (is_among (owners_of affected)) (sym there) ∙ on)))

  pub leads_nowhere : (o x : Name) (i : ℕ) → Leads o x i → said_next after x ≡ None → (z : Name) → KeptName z → o ≡ owner z → ⊥
  leads_nowhere o x i h s z kz e = nothing (sym s ∙ ap (said_next after) w.2 ∙ ap (option_map (λ (a : Nsec3Data). a.next_hashed_owner_name)) (said_of origin m after keys names hash parameters ttl serial st w.0 w.1))
    where
      w : (n : Name) × In n named × (x ≡ owner n) × (i + left z x ≤ length affected)
      w = h z kz e

      nothing : {d : List ℕ} → None ≡ Some d → ⊥
      nothing q = cc

  pub leads_too_far : (o x : Name) (i : ℕ) → Leads o x i → length affected < i → (z : Name) → KeptName z → o ≡ owner z → ⊥
  leads_too_far o x i h far z kz e = omega (arith, (h z kz e).3, far)

  pub kept_of : (o : Name) → Contains (owners_besides after (owners_of affected)) o → (z : Name) × KeptName z × (o ≡ owner z)
  kept_of o c = owner_kept origin m after keys names hash parameters ttl serial st affected are o (Contains-In o (owners_besides after (owners_of affected)) c)

-- ---- as they are followed, whatever the zone before the change

module _ (origin : Name) (after : Sets) (affected : List Affected) (o : Name) where
  abbrev pub IsOnWay : Name → ℕ → Type 0
  IsOnWay x i = (m : Sets) (keys : List RrKey) (names : List Name) (hash : Name → Option (List ℕ)) (parameters : Nsec3Parameters) (ttl serial : ℕ)
      (st : IsStanding origin m after keys names hash parameters ttl serial) (are : AreAffected origin after hash parameters.opt_out names affected) → Leads origin m after keys names hash parameters ttl serial st affected are o x i

  pub starts : IsOnWay o 0
  starts m keys names hash parameters ttl serial st are = leads_there origin m after keys names hash parameters ttl serial st affected are o

  module _ (x : Name) (i : ℕ) (h : IsOnWay x i) where
    pub goes_on : (d : List ℕ) → said_next after x ≡ Some d → is_among (owners_of affected) (hashed_owner origin d) ≡ true → IsOnWay (hashed_owner origin d) (i + 1)
    goes_on d s on m keys names hash parameters ttl serial st are = leads_on origin m after keys names hash parameters ttl serial st affected are o x i d (h m keys names hash parameters ttl serial st are) s on

    pub ends : said_next after x ≡ None → IsUnclosedAt origin after affected o
    ends s c m keys names hash parameters ttl serial st are =
        let z = kept_of origin m after keys names hash parameters ttl serial st affected are o c in
        leads_nowhere origin m after keys names hash parameters ttl serial st affected are o x i (h m keys names hash parameters ttl serial st are) s z.0 z.1 z.2

    pub ends_late : length affected < i → IsUnclosedAt origin after affected o
    ends_late far c m keys names hash parameters ttl serial st are =
        let z = kept_of origin m after keys names hash parameters ttl serial st affected are o c in
        leads_too_far origin m after keys names hash parameters ttl serial st affected are o x i (h m keys names hash parameters ttl serial st are) far z.0 z.1 z.2

-- the nearest owner before another one isn't affected
pub unclosed_near : (origin : Name) (after : Sets) (affected : List Affected) (o x : Name) → Some x ≡ nearest_around name_cmp (owners_besides after (owners_of affected)) o → IsUnclosedAt origin after affected x → StandsForNone origin after affected
unclosed_near origin after affected o x e h = h (In-Contains x (owners_besides after (owners_of affected)) (nearest_is name_order (owners_besides after (owners_of affected)) o x (sym e)).among)

-- so it has a set that says something
pub unsaid_near : (origin : Name) (after : Sets) (affected : List Affected) (o : Name) (k : Around) → IsAround origin after (owners_of affected) o (Some k) → said after k.nearest ≡ None → StandsForNone origin after affected
unsaid_near origin after affected o k h none =
    unclosed_near origin after affected o k.nearest (sym h.0) (ends origin after affected k.nearest k.nearest 0 (starts origin after affected k.nearest) (ap (option_map (λ (a : Nsec3Data). a.next_hashed_owner_name)) none))

-- names of the same members are as good
standing_with : (origin : Name) (m after : Sets) (keys : List RrKey) (names others : List Name) (hash : Name → Option (List ℕ)) (parameters : Nsec3Parameters) (ttl serial : ℕ) → ((n : Name) → is_among names n ≡ is_among others n)
    → IsStanding origin m after keys names hash parameters ttl serial → IsStanding origin m after keys others hash parameters ttl serial
standing_with origin m after keys names others hash parameters ttl serial same st = record {
  told = st.told;
  named = λ n h. sym (same n) ∙ st.named n h;
  apart = record {
    digest = st.apart.digest;
    answers = λ n h. st.apart.answers n (back n h);
    apart = λ n k h j. st.apart.apart n k (back n h) (back k j);
    alike = λ n k h j. st.apart.alike n k (back n h) (back k j);
    octets = λ n h. st.apart.octets n (back n h);
  };
  stood = st.stood;
}
  where
    back : (n : Name) → IsHashedWith origin m after parameters.opt_out others n → IsHashedWith origin m after parameters.opt_out names n
    back n (inl h) = inl h
    back n (inr c) = inr (In-Contains n names (among_in names n (same n ∙ among_from others n (Contains-In n others c))))

pub were_never : (origin : Name) (after : Sets) (keys : List RrKey) (names : List Name) (hash : Name → Option (List ℕ)) (parameters : Nsec3Parameters) (affected : List Affected) → ((n : Name) → is_among names n ≡ is_affected origin after keys n)
    → AreAffected origin after hash parameters.opt_out names affected → StandsForNone origin after affected → WereNever origin after keys hash parameters
were_never origin after keys names hash parameters affected is are none m others ttl serial same st =
    none m keys names hash parameters ttl serial (standing_with origin m after keys others names hash parameters ttl serial (λ n. same n ∙ sym (is n)) st) are

-- an affected name that gets a set has a place that comes next, its own if no other
pub no_next : (origin : Name) (after : Sets) (affected : List Affected) (one : Affected) (kept : Option Place) (fresh : List Place) → fresh ≡ fresh_places affected → Contains affected one → IsSome one.types → places_of kept fresh ≡ []
    → StandsForNone origin after affected
no_next origin after affected one (Some p) fresh is c some none = absurd (filled none)
  where
    filled : p ∷ fresh ≡ [] → ⊥
    filled e = cc
no_next origin after affected one None fresh is c some none = by one.types refl some
  where
    by : (o : Option (List RecordType)) → one.types ≡ o → IsSome o → StandsForNone origin after affected
    by None e s = absurd (true≢false (sym s))
    by (Some ts) e s =
        absurd
        (subst (In one.place) (sym is ∙ none)
        (In-filter_map (λ (a : Affected). cond (is_some a.types) (Some a.place) None) one one.place affected (Contains-In one affected c) (ap (λ (b : Option (List RecordType)). cond (is_some b) (Some one.place) None) e)))

-- a fault that is passed on says what it says
pub passed_on : {X : Type 0} (r : Result X RenewFault) (e : RenewFault) (S : Type 0) → IsErrAnd r (λ y. y ≡ e) → (e ≡ Unclosed → S) → IfErr r (λ f. f ≡ Unclosed → S)
passed_on (Ok x) e S h p = tt
passed_on (Err y) e S h p = λ q. p (sym h ∙ q)

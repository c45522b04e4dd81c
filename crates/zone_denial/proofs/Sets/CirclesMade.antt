-- The NSEC3 sets of a circle, made as a list of entries, one for each of its names, behind the entry of the NSEC3PARAM set
use Rattle.std.proofs.Common.{◌≡◌, ℕ, zero, suc, ◌+◌, ◌-◌, ◌<◌, ◌==◌, ◌&&◌, Bool, true, false, cond, List, [], ◌∷◌, ◌++◌, map, length, take, drop, get_or, refl, sym, ap, ◌∙◌, subst, ◌⊎◌, inl, inr, eqb-true, eq-eqb, true≢false, Ordering, Less, Equal, Greater, arith}
use Rattle.std.specs.Prelude.{Option, Some, None, IfSome, option_copied, option_map, slice_get}
use Rattle.std.specs.Borrow.{Bor}
use Rattle.std.specs.List.{All, AllByRecursion, cons_option}
use Rattle.std.specs.List.Sorted.{IsStrictlySortedBy}
use Rattle.std.specs.Map.{update_all}
use Rattle.std.specs.Option.{option_map_or, IfNone}
use Rattle.std.specs.Ordering.{ordering_then}
use Rattle.std.proofs.Math.Seq.{take-suc}
use Rattle.std.proofs.lemmas.List.{map-append, append-nil, length-append, take-append-drop, get_or_default}
use Rattle.std.proofs.lemmas.List.Elements.{filter_map-append, Contains-get_or}
use Rattle.std.proofs.lemmas.List.Folds.{list_all-append}
use Rattle.std.proofs.lemmas.Map.{update_all_push}
use Rattle.std.proofs.lemmas.Map.Made.{IfSome-update_all}
use Rattle.zone_proto.specs.declared.error.ProtoError.{ProtoError}
use Rattle.zone_proto.specs.declared.rdata.denial.NSEC3PARAM.{NSEC3PARAM as Nsec3Parameters}
use Rattle.zone_proto.specs.declared.record.Record.{Record}
use Rattle.zone_proto.specs.declared.rr_key.RrKey.{RrKey}
use Rattle.zone_proto.specs.Data.{type_of}
use Rattle.zone_proto.specs.Faults.{fault_of}
use Rattle.zone_proto.specs.HashedOwners.{hashed_owner}
use Rattle.zone_proto.specs.Keys.{key, key_eq}
use Rattle.zone_proto.specs.Names.{Name, lower, name_cmp, name_eq, octets_cmp}
use Rattle.zone_proto.specs.Ranges.{IsOctet}
use Rattle.zone_proto.specs.Sets.{RRset}
use Rattle.zone_proto.specs.Types.{NSEC3, NSEC3PARAM}
use Rattle.zone_proto.proofs.Ordering.Base32Facts.{lower_text}
use Rattle.zone_proto.proofs.Ordering.KeyOrder.{key_same, key_itself}
use Rattle.zone_proto.proofs.Members.{In, In-Contains, Contains-In, In-map, In-append_left, In-append_right, In-from_append, and_left, and_right}
use Rattle.zone_proto.proofs.Names.NameTree.{name_eq-Decides}
use Rattle.zone_proto.proofs.Ordering.Orders.{irrefl}
use Rattle.zone_map.specs.Zones.{Sets, last_at, IsStoredAt, AreStored}
use Rattle.zone_denial.specs.declared.hashed_names.HashedName.{HashedName as HeldName}
use Rattle.zone_denial.specs.Covering.{next_around}
use Rattle.zone_denial.specs.HashedNames.{hashed, all_fit, linked_record, circle_record, circle_records, circle_set_at}
use Rattle.zone_denial.specs.RepeatedDigests.{RepeatsDigest, IsPutBehind}
use Rattle.zone_denial.specs.Nsec3Sets.{HashedName, hashed_cmp, set_of}
use Rattle.zone_denial.proofs.Ascending.{Ascends, Ascends-front, Ascends-apart, Ascends-from_sorted}
use Rattle.zone_denial.proofs.Hashed.Nsec3Owners.{octets_order}
use Rattle.zone_denial.proofs.Sets.TakenRecords.{set_taking, set_of-more}
use Rattle.zone_denial.proofs.Hashed.TextsApart.{owners_apart}

last_false : (b : Bool) → b && false ≡ false
last_false true = refl
last_false false = refl

pub hashed_lower : (origin : Name) (digest : List ℕ) → lower origin ≡ origin → lower (hashed_owner origin digest) ≡ hashed_owner origin digest
hashed_lower origin digest low = λ i. lower_text digest i ∷ low i

-- ---- lists with a last item

none_last : {A : Type 0} (xs : List A) (x : A) → [] ≡ xs ++ x ∷ [] → ⊥
none_last [] x e = absurd cc
none_last (y ∷ xs) x e = absurd cc

tails : {A : Type 0} (x y : A) (xs ys : List A) → x ∷ xs ≡ y ∷ ys → xs ≡ ys
tails x y xs ys e = cc

last_same : {A : Type 0} (xs ys : List A) (x y : A) → xs ++ x ∷ [] ≡ ys ++ y ∷ [] → x ≡ y
last_same [] [] x y e = cc
last_same [] (z ∷ ys) x y e = absurd (none_last ys y (tails x z [] (ys ++ y ∷ []) e))
last_same (w ∷ xs) [] x y e = absurd (none_last xs x (sym (tails w y (xs ++ x ∷ []) [] e)))
last_same (w ∷ xs) (z ∷ ys) x y e = last_same xs ys x y (tails w z (xs ++ x ∷ []) (ys ++ y ∷ []) e)

last_get : {A : Type 0} (xs : List A) (x : A) → slice_get (xs ++ x ∷ []) (length (xs ++ x ∷ []) - 1) ≡ Some x
last_get xs x =
    let long : length (xs ++ x ∷ []) ≡ length xs + 1 = length-append xs (x ∷ []) in
    let place : length (xs ++ x ∷ []) - 1 ≡ length xs = omega (arith, long) in
    ap (slice_get (xs ++ x ∷ [])) place ∙ at xs
  where
    at : (ys : List _) → slice_get (ys ++ x ∷ []) (length ys) ≡ Some x
    at [] = refl
    at (y ∷ ys) = at ys

-- the set of the last entry
abbrev last_set : Sets → Option RRset
last_set es = option_map (λ (e : RrKey × RRset). e.1) (slice_get es (length es - 1))

pub ends_is : {A : Type 0} (x : A) (xs : List A) → slice_get xs (length xs - 1) ≡ Some x → (ys : List A) × (xs ≡ ys ++ x ∷ [])
ends_is x [] e = absurd cc
ends_is x (y ∷ []) e = ([], cc)
ends_is x (y ∷ z ∷ xs) e =
    let place : length (y ∷ z ∷ xs) - 1 ≡ suc (length (z ∷ xs) - 1) = omega arith in
    let r = ends_is x (z ∷ xs) (ap (slice_get (y ∷ z ∷ xs)) (sym place) ∙ e) in
    (y ∷ r.0, ap (λ ys. y ∷ ys) r.1)

all_from_in : {A : Type 0} (P : A → Type 0) (xs : List A) → ((x : A) → In x xs → P x) → All P xs
all_from_in P xs h = λ k d lt. h (get_or xs k d) (Contains-In (get_or xs k d) xs (Contains-get_or xs k d lt))

-- ---- entries with one more

key_test : (n : Name) (t : ℕ) (o : Name) (u : ℕ) → key_eq (key o u) (key n t) ≡ (t == u) && name_eq n o
key_test n t o u = by (key_eq (key o u) (key n t)) refl
  where
    other : (c : Bool) → (t == u) && name_eq n o ≡ c → key_eq (key o u) (key n t) ≡ false → false ≡ c
    other false h e = refl
    other true h e =
        let name : n ≡ o = (name_eq-Decides n o).0 (and_right (t == u) (name_eq n o) h) in
        let type' : t ≡ u = eqb-true t u (and_left (t == u) (name_eq n o) h) in
        let tested : key_eq (key o u) (key n t) ≡ true = (λ i. key_eq (key o u) (key (name i) (type' i))) ∙ key_itself (key o u) in
        absurd (true≢false (sym tested ∙ e))

    by : (b : Bool) → key_eq (key o u) (key n t) ≡ b → b ≡ (t == u) && name_eq n o
    by true e =
        let same = key_same (key o u) (key n t) e in
        let name : n ≡ o = sym (ap (λ (k : RrKey). k.name) same) in
        let type' : t ≡ u = sym (ap (λ (k : RrKey). k.record_type.0) same) in
        sym (λ i. eq-eqb t u type' i && (name_eq-Decides n o).1 name i)
    by false e = other ((t == u) && name_eq n o) refl e

last_at-more : (es : Sets) (o : Name) (u : ℕ) (s : RRset) (n : Name) (t : ℕ) → last_at (es ++ (key o u, s) ∷ []) n t ≡ cond ((t == u) && name_eq n o) (Some s) (last_at es n t)
last_at-more es o u s n t =
    sym (update_all_push key_eq (λ _. None) (λ q. update_all key_eq (λ _. None) es q) es (key o u, s) (key n t) refl)
    ∙ ap (λ b. cond b (Some s) (last_at es n t)) (key_test n t o u)

-- what is found under a name and a type may be there
last_stored : (es : Sets) → AreStored es → (n : Name) (t : ℕ) (s : RRset) → last_at es n t ≡ Some s → IsStoredAt n t s
last_stored es stored n t s e =
    let P = λ (w : RRset). IsStoredAt n t w in
    let found = IfSome-update_all key_eq P (key n t) (λ _. None) es tt
    (λ k d lt same. subst (λ (x : RrKey). IsStoredAt x.name x.record_type.0 (get_or es k d).1) (key_same (get_or es k d).0 (key n t) same) (stored k d lt)) in
    subst (λ (o : Option RRset). IfSome o P) e found

-- a set that is the one found may be there
found_stored : (es : Sets) → AreStored es → (o : Name) (t : ℕ) (b : Option (Bor RRset)) → option_copied b ≡ last_at es o t → IfSome b (λ s. IsStoredAt o t s.now)
found_stored es stored o t (Some s) is = last_stored es stored o t s.now (sym is)
found_stored es stored o t None is = tt

-- ---- the sets made so far

abbrev nothing : Option RRset
nothing = None

module _ (origin : Name) (parameters : Nsec3Parameters) (ttl serial : ℕ) (all : List HeldName) (announced : Option RRset) where
  abbrev pub owner_of : HeldName → Name
  owner_of h = hashed_owner origin h.digest

  -- the set beside those of the circle, if there is one
  abbrev pub beside : Name → ℕ → Option RRset
  beside n t = cond ((t == NSEC3PARAM) && name_eq n origin) announced None

  pub record CircleSoFar (front : List HeldName) (es : Sets) : Type 0 where
    pub sets : (n : Name) (t : ℕ) → last_at es n t ≡ cond (t == NSEC3) (circle_set_at origin parameters ttl all serial front n) (beside n t)
    pub stored : AreStored es
    pub fit : all_fit origin (map hashed front) ≡ true
    pub octets : (h : HeldName) → In h front → AllByRecursion IsOctet h.digest
    pub last : (before : List HeldName) (k : HeldName) → front ≡ before ++ k ∷ [] → (s : RRset) × (others : Sets) × (es ≡ others ++ (key (owner_of k) NSEC3, s) ∷ [])

  pub CircleSoFar-none : (s : RRset) → announced ≡ Some s → (e : RrKey × RRset) → e ≡ (key origin NSEC3PARAM, s) → IsStoredAt e.0.name e.0.record_type.0 e.1 → CircleSoFar [] (e ∷ [])
  CircleSoFar-none s told e is there =
      record {
        sets = λ n t. ap (λ (x : RrKey × RRset). last_at (x ∷ []) n t) is ∙ last_at-more [] origin NSEC3PARAM s n t ∙ ap (λ o. cond ((t == NSEC3PARAM) && name_eq n origin) o None) (sym told) ∙ by n t (t == NSEC3) refl;
        stored = all_from_in (λ (x : RrKey × RRset). IsStoredAt x.0.name x.0.record_type.0 x.1) (e ∷ []) alone;
        fit = refl;
        octets = λ h i. absurd i;
        last = λ before k q. absurd (none_last before k q);
      }
    where
      by : (n : Name) (t : ℕ) (b : Bool) → (t == NSEC3) ≡ b → beside n t ≡ cond b None (beside n t)
      by n t true q = ap (beside n) (eqb-true t NSEC3 q)
      by n t false q = refl

      alone : (x : RrKey × RRset) → In x (e ∷ []) → IsStoredAt x.0.name x.0.record_type.0 x.1
      alone x (inl q) = subst (λ (y : RrKey × RRset). IsStoredAt y.0.name y.0.record_type.0 y.1) q there
      alone x (inr i) = absurd i

  pub CircleSoFar-empty : announced ≡ None → CircleSoFar [] []
  CircleSoFar-empty none =
      record {
        sets = λ n t. by (t == NSEC3) ((t == NSEC3PARAM) && name_eq n origin) ∙ ap (λ (o : Option RRset). cond (t == NSEC3) None (cond ((t == NSEC3PARAM) && name_eq n origin) o None)) (sym none);
        stored = λ k d lt. absurd (omega (arith, lt));
        fit = refl;
        octets = λ h i. absurd i;
        last = λ before k q. absurd (none_last before k q);
      }
    where
      by : (b c : Bool) → nothing ≡ cond b nothing (cond c nothing nothing)
      by true c = refl
      by false true = refl
      by false false = refl

  -- the set of the last entry is that of the owner, where the last name has the same digest
  taken_over : (front before : List HeldName) (k h : HeldName) (es : Sets) (s : RRset) → CircleSoFar front es → front ≡ before ++ k ∷ [] → k.digest ≡ h.digest
      → last_set es ≡ Some s → Some s ≡ last_at es (owner_of h) NSEC3
  taken_over front before k h es s so_far is same ends =
      let l = so_far.last before k is in
      let o = owner_of h in
      let own : key (owner_of k) NSEC3 ≡ key o NSEC3 = ap (λ (d : List ℕ). key (hashed_owner origin d) NSEC3) same in
      let whole : last_set es ≡ Some l.0 = ap last_set l.2 ∙ ap (option_map (λ (x : RrKey × RRset). x.1)) (last_get l.1 (key (owner_of k) NSEC3, l.0)) in
      let found : last_at es o NSEC3 ≡ Some l.0 =
      ap (λ (x : Sets). last_at x o NSEC3) l.2
      ∙ (λ i. last_at (l.1 ++ (own i, l.0) ∷ []) o NSEC3)
      ∙ last_at-more l.1 o NSEC3 l.0 o NSEC3
      ∙ ap (λ b. cond b (Some l.0) (last_at l.1 o NSEC3)) ((name_eq-Decides o o).1 refl) in
      sym ends ∙ whole ∙ sym found

  -- ---- where the digest is new, there is no set under the owner

  no_records : (o : Name) (hs : List HeldName) → ((x : HeldName) → In x hs → name_eq o (owner_of x) ≡ false) → circle_records origin parameters ttl all hs o ≡ []
  no_records o [] f = refl
  no_records o (x ∷ hs) f = λ i. cons_option (cond (f x (inl refl) i) (Some (circle_record origin parameters ttl all x)) None) (no_records o hs (λ y j. f y (inr j)) i)

  upto : (a b : HashedName) → hashed_cmp a b ≡ Less → (octets_cmp a.digest b.digest ≡ Less) ⊎ (a.digest ≡ b.digest)
  upto a b h = by (octets_cmp a.digest b.digest) refl h
    where
      by : (o : Ordering) → octets_cmp a.digest b.digest ≡ o → ordering_then o (name_cmp a.name b.name) ≡ Less → (octets_cmp a.digest b.digest ≡ Less) ⊎ (a.digest ≡ b.digest)
      by Less e l = inl e
      by Equal e l = inr (octets_order.exact a.digest b.digest e)
      by Greater e l = absurd cc

  module _ (front before : List HeldName) (k h : HeldName) (es : Sets) (so_far : CircleSoFar front es) (is : front ≡ before ++ k ∷ []) (other : k.digest ≡ h.digest → ⊥)
      (rise : Ascends hashed_cmp (map hashed (front ++ h ∷ []))) (octets : AllByRecursion IsOctet h.digest) where
    ascends : Ascends hashed_cmp (map hashed front ++ hashed h ∷ [])
    ascends = subst (Ascends hashed_cmp) (map-append hashed front (h ∷ [])) rise

    last_in : In k front
    last_in = subst (λ (hs : List HeldName). In k hs) (sym is) (at before)
      where
        at : (hs : List HeldName) → In k (hs ++ k ∷ [])
        at [] = inl refl
        at (x ∷ hs) = inr (at hs)

    last_before : octets_cmp k.digest h.digest ≡ Less
    last_before = by (upto (hashed k) (hashed h) (Ascends-apart hashed_cmp (map hashed front) (hashed h ∷ []) ascends (hashed k) (hashed h) (In-map hashed k front last_in) (inl refl)))
      where
        by : (octets_cmp k.digest h.digest ≡ Less) ⊎ (k.digest ≡ h.digest) → octets_cmp k.digest h.digest ≡ Less
        by (inl l) = l
        by (inr e) = absurd (other e)

    front_ascends : Ascends hashed_cmp (map hashed before ++ hashed k ∷ [])
    front_ascends = subst (Ascends hashed_cmp) (ap (map hashed) is ∙ map-append hashed before (k ∷ [])) (Ascends-front hashed_cmp (map hashed front) (hashed h ∷ []) ascends)

    all_before : (x : HeldName) → In x before ⊎ In x (k ∷ []) → octets_cmp x.digest h.digest ≡ Less
    all_before x (inl i) = by (upto (hashed x) (hashed k) (Ascends-apart hashed_cmp (map hashed before) (hashed k ∷ []) front_ascends (hashed x) (hashed k) (In-map hashed x before i) (inl refl)))
      where
        by : (octets_cmp x.digest k.digest ≡ Less) ⊎ (x.digest ≡ k.digest) → octets_cmp x.digest h.digest ≡ Less
        by (inl l) = octets_order.total.trans x.digest k.digest h.digest l last_before
        by (inr e) = ap (λ (d : List ℕ). octets_cmp d h.digest) e ∙ last_before
    all_before x (inr (inl e)) = ap (λ (y : HeldName). octets_cmp y.digest h.digest) (sym e) ∙ last_before
    all_before x (inr (inr i)) = absurd i

    apart : (x : HeldName) → In x front → (b : Bool) → name_eq (owner_of h) (owner_of x) ≡ b → b ≡ false
    apart x i false e = refl
    apart x i true e =
        let own : owner_of h ≡ owner_of x = (name_eq-Decides (owner_of h) (owner_of x)).0 e in
        let same : h.digest ≡ x.digest = owners_apart origin h.digest x.digest octets (so_far.octets x i) own in
        let less = all_before x (In-from_append x before (k ∷ []) (subst (λ (hs : List HeldName). In x hs) is i)) in
        absurd (irrefl octets_order h.digest (ap (λ (d : List ℕ). octets_cmp d h.digest) same ∙ less))

    pub new_digest : last_at es (owner_of h) NSEC3 ≡ None
    new_digest = so_far.sets (owner_of h) NSEC3 ∙ ap (set_of (owner_of h) NSEC3 serial) (no_records (owner_of h) front (λ x i. apart x i (name_eq (owner_of h) (owner_of x)) refl))

  -- ---- the set of the entry before is that of the owner, and there is none if it isn't taken over

  pub found_before : (i : ℕ) (h : HeldName) (es : Sets) (b : Option (Bor RRset)) → CircleSoFar (take i all) es → i < length all → h ≡ get_or all i h → Ascends hashed_cmp (map hashed all)
      → AllByRecursion IsOctet h.digest → IfSome b (λ s. last_set es ≡ Some s.now) → IfSome b (λ s. RepeatsDigest all i) → IfNone b ((es ≡ []) ⊎ ¬ RepeatsDigest all i)
      → option_copied b ≡ last_at es (owner_of h) NSEC3
  found_before zero h es (Some s) so_far lt is a octets ends same none = absurd (omega (arith, same.0))
  found_before (suc j) h es (Some s) so_far lt is a octets ends same none =
      let before : suc j - 1 ≡ j = omega arith in
      let k = get_or all j h in
      taken_over (take (suc j) all) (take j all) k h es s.now so_far (take-suc all j h (omega (arith, lt))) (ap (λ (n : ℕ). (get_or all n h).digest) (sym before) ∙ same.1 h ∙ ap (λ (x : HeldName). x.digest) (sym is)) ends
  found_before i h es None so_far lt is a octets ends same (inl e) = sym (ap (λ (x : Sets). last_at x (owner_of h) NSEC3) e)
  found_before zero h es None so_far lt is a octets ends same (inr n) = sym (so_far.sets (owner_of h) NSEC3)
  found_before (suc j) h es None so_far lt is a octets ends same (inr n) =
      let k = get_or all j h in
      let front : take (suc j) all ≡ take j all ++ k ∷ [] = take-suc all j h (omega (arith, lt)) in
      let whole : take (suc (suc j)) all ≡ take (suc j) all ++ h ∷ [] = take-suc all (suc j) h lt ∙ ap (λ (x : HeldName). take (suc j) all ++ x ∷ []) (sym is) in
      let parted = ap (map hashed) (sym (take-append-drop (suc (suc j)) all)) ∙ map-append hashed (take (suc (suc j)) all) (drop (suc (suc j)) all) in
      let rise = Ascends-front hashed_cmp (map hashed (take (suc (suc j)) all)) (map hashed (drop (suc (suc j)) all)) (subst (Ascends hashed_cmp) parted a) in
      sym (new_digest (take (suc j) all) (take j all) k h es so_far front (λ e. n (repeated j h lt is e)) (subst (λ (hs : List HeldName). Ascends hashed_cmp (map hashed hs)) whole rise) octets)
    where
      repeated : (j : ℕ) (h : HeldName) → suc j < length all → h ≡ get_or all (suc j) h → (get_or all j h).digest ≡ h.digest → RepeatsDigest all (suc j)
      repeated j h lt is e = (
        omega arith,
        λ d.
            let before : suc j - 1 ≡ j = omega arith in
            ap (λ (n : ℕ). (get_or all n d).digest) before ∙ ap (λ (x : HeldName). x.digest) (get_or_default all j d h (omega (arith, lt))) ∙ e
            ∙ ap (λ (x : HeldName). x.digest) (is ∙ get_or_default all (suc j) h d lt),
      )

  -- the same of two reads of one name, and of a list that is the entries
  same_read : (i : ℕ) (h g : HeldName) → i < length all → h ≡ get_or all i h → g ≡ get_or all i g → g ≡ h
  same_read i h g lt is own = own ∙ get_or_default all i g h lt ∙ sym is

  pub found_among : (i : ℕ) (h : HeldName) (es entries : Sets) (b : Option (Bor RRset)) → entries ≡ es → CircleSoFar (take i all) es → i < length all → h ≡ get_or all i h
      → IsStrictlySortedBy hashed_cmp (map hashed all) → AllByRecursion IsOctet h.digest → IfSome b (λ s. last_set entries ≡ Some s.now) → IfSome b (λ s. RepeatsDigest all i)
      → IfNone b ((entries ≡ []) ⊎ ¬ RepeatsDigest all i) → option_copied b ≡ last_at es (owner_of h) NSEC3
  found_among i h es entries b whole so_far lt is sorted fits ends same none =
      found_before i h es b so_far lt is (Ascends-from_sorted hashed_cmp (map hashed all) sorted) fits (subst (λ (x : Sets). IfSome b (λ s. last_set x ≡ Some s.now)) whole ends) same
      (subst (λ (x : Sets). IfNone b ((x ≡ []) ⊎ ¬ RepeatsDigest all i)) whole none)

  -- ---- one more

  module _ (front : List HeldName) (h : HeldName) (es : Sets) (so_far : CircleSoFar front es) where
    abbrev owner : Name
    owner = owner_of h

    abbrev record_of : Record
    record_of = circle_record origin parameters ttl all h

    abbrev records_of : Name → List Record
    records_of n = circle_records origin parameters ttl all front n

    abbrev set_more : RRset
    set_more = set_taking serial owner NSEC3 (last_at es owner NSEC3) record_of

    abbrev entry : RrKey × RRset
    entry = (key owner NSEC3, set_more)

    one_more : (n : Name) → circle_records origin parameters ttl all (front ++ h ∷ []) n ≡ records_of n ++ cons_option (cond (name_eq n owner) (Some record_of) None) []
    one_more n = filter_map-append (λ k. cond (name_eq n (owner_of k)) (Some (circle_record origin parameters ttl all k)) None) front (h ∷ [])

    of_name : (n : Name) (b : Bool) → name_eq n owner ≡ b → cond b (Some set_more) (set_of n NSEC3 serial (records_of n))
        ≡ set_of n NSEC3 serial (records_of n ++ cons_option (cond b (Some record_of) None) [])
    of_name n true e =
        let own : n ≡ owner = (name_eq-Decides n owner).0 e in
        ap (λ s. Some (set_taking serial owner NSEC3 s record_of)) (so_far.sets owner NSEC3)
        ∙ sym (set_of-more owner NSEC3 serial (records_of owner) record_of)
        ∙ ap (λ o. set_of o NSEC3 serial (records_of o ++ record_of ∷ [])) (sym own)
    of_name n false e = ap (set_of n NSEC3 serial) (sym (append-nil (records_of n)))

    sets_more : (n : Name) (t : ℕ) → last_at (es ++ entry ∷ []) n t ≡ cond (t == NSEC3) (circle_set_at origin parameters ttl all serial (front ++ h ∷ []) n) (beside n t)
    sets_more n t =
        last_at-more es owner NSEC3 set_more n t
        ∙ ap (cond ((t == NSEC3) && name_eq n owner) (Some set_more)) (so_far.sets n t)
        ∙ by (t == NSEC3)
        ∙ ap (λ rs. cond (t == NSEC3) (set_of n NSEC3 serial rs) (beside n t)) (sym (one_more n))
      where
        by : (b : Bool) → cond (b && name_eq n owner) (Some set_more) (cond b (set_of n NSEC3 serial (records_of n)) (beside n t))
            ≡ cond b (set_of n NSEC3 serial (records_of n ++ cons_option (cond (name_eq n owner) (Some record_of) None) [])) (beside n t)
        by true = of_name n (name_eq n owner) refl
        by false = refl

    each_stored : IsStoredAt owner NSEC3 set_more → (e : RrKey × RRset) → In e es ⊎ In e (entry ∷ []) → IsStoredAt e.0.name e.0.record_type.0 e.1
    each_stored there e (inl i) = let c = In-Contains e es i in subst (λ (x : RrKey × RRset). IsStoredAt x.0.name x.0.record_type.0 x.1) c.2 (so_far.stored c.0 e c.1)
    each_stored there e (inr (inl s)) = subst (λ (x : RrKey × RRset). IsStoredAt x.0.name x.0.record_type.0 x.1) s there
    each_stored there e (inr (inr i)) = absurd i

    fit_more : fault_of owner ≡ None → all_fit origin (map hashed (front ++ h ∷ [])) ≡ true
    fit_more none =
        ap (all_fit origin) (map-append hashed front (h ∷ []))
        ∙ list_all-append (λ (k : HashedName). option_map_or (λ _. false) (fault_of (hashed_owner origin k.digest)) true) (map hashed front) (hashed h ∷ [])
        ∙ (λ i. so_far.fit i && (option_map_or (λ _. false) (none i) true && true))

    octets_more : AllByRecursion IsOctet h.digest → (k : HeldName) → In k front ⊎ In k (h ∷ []) → AllByRecursion IsOctet k.digest
    octets_more fits k (inl i) = so_far.octets k i
    octets_more fits k (inr (inl e)) = subst (λ (x : HeldName). AllByRecursion IsOctet x.digest) e fits
    octets_more fits k (inr (inr i)) = absurd i

    CircleSoFar-one : fault_of owner ≡ None → AllByRecursion IsOctet h.digest → IsStoredAt owner NSEC3 set_more → CircleSoFar (front ++ h ∷ []) (es ++ entry ∷ [])
    CircleSoFar-one none fits there =
        record {
          sets = sets_more;
          stored = all_from_in (λ (e : RrKey × RRset). IsStoredAt e.0.name e.0.record_type.0 e.1) (es ++ entry ∷ []) (λ e i. each_stored there e (In-from_append e es (entry ∷ []) i));
          fit = fit_more none;
          octets = λ k i. octets_more fits k (In-from_append k front (h ∷ []) i);
          last = λ before k e. let same : h ≡ k = last_same front before h k e in (set_more, es, λ i. es ++ (key (owner_of (same i)) NSEC3, set_more) ∷ []);
        }

  -- the record with the digest of the name that comes next
  pub linked_on : (i : ℕ) (h next : HeldName) (r : Record) → i < length all → h ≡ get_or all i h → hashed next ≡ next_around hashed_cmp (map hashed all) (hashed (get_or all i next))
      → r ≡ linked_record origin parameters ttl h next.digest → r ≡ circle_record origin parameters ttl all h
  linked_on i h next r lt is follows made =
      let own : get_or all i next ≡ h = get_or_default all i next h lt ∙ sym is in
      made ∙ ap (λ (k : HashedName). linked_record origin parameters ttl h k.digest) (follows ∙ ap (λ (k : HeldName). next_around hashed_cmp (map hashed all) (hashed k)) own)

  -- the entry that is made of the record of a name, where the set of its owner is the one found
  entry_is : (h : HeldName) (es : Sets) (e : RrKey × RRset) (r : Record) (found : Option RRset) → lower origin ≡ origin → r ≡ circle_record origin parameters ttl all h → found ≡ last_at es (owner_of h) NSEC3
      → e ≡ (key (lower r.name) (type_of r.rdata), set_taking serial r.name (type_of r.rdata) found r)
      → e ≡ (key (owner_of h) NSEC3, set_taking serial (owner_of h) NSEC3 (last_at es (owner_of h) NSEC3) (circle_record origin parameters ttl all h))
  entry_is h es e r found low made same is =
      is
      ∙ (λ i. (key (lower (made i).name) (type_of (made i).rdata), set_taking serial (made i).name (type_of (made i).rdata) (same i) (made i)))
      ∙ (λ i. (key (hashed_lower origin h.digest low i) NSEC3, set_taking serial (owner_of h) NSEC3 (last_at es (owner_of h) NSEC3) (circle_record origin parameters ttl all h)))

  pub CircleSoFar-more : (i : ℕ) (h : HeldName) (es : Sets) (e : RrKey × RRset) (r : Record) (found : Option RRset) → lower origin ≡ origin → r ≡ circle_record origin parameters ttl all h
      → found ≡ last_at es (owner_of h) NSEC3 → e ≡ (key (lower r.name) (type_of r.rdata), set_taking serial r.name (type_of r.rdata) found r) → IsStoredAt e.0.name e.0.record_type.0 e.1
      → i < length all → h ≡ get_or all i h → fault_of (hashed_owner origin h.digest) ≡ None → AllByRecursion IsOctet h.digest → CircleSoFar (take i all) es → CircleSoFar (take (suc i) all) (es ++ e ∷ [])
  CircleSoFar-more i h es e r found low made same taken there lt is none fits so_far =
      let own = entry_is h es e r found low made same taken in
      let stored = subst (λ (x : RrKey × RRset). IsStoredAt x.0.name x.0.record_type.0 x.1) own there in
      subst (λ front. CircleSoFar front (es ++ e ∷ [])) (sym (take-suc all i h lt ∙ ap (λ k. take i all ++ k ∷ []) (sym is)))
      (subst (λ (x : RrKey × RRset). CircleSoFar (take i all ++ h ∷ []) (es ++ x ∷ [])) (sym own) (CircleSoFar-one (take i all) h es so_far none fits stored))

  -- the same where the entry comes in place of the last one, which has its key
  module _ (front : List HeldName) (others : Sets) (s : RRset) (e : RrKey × RRset) (so_far : CircleSoFar front ((others ++ (e.0, s) ∷ []) ++ e ∷ [])) where
    found_once : (n : Name) (t : ℕ) → last_at ((others ++ (e.0, s) ∷ []) ++ e ∷ []) n t ≡ last_at (others ++ e ∷ []) n t
    found_once n t =
        last_at-more (others ++ (e.0, s) ∷ []) e.0.name e.0.record_type.0 e.1 n t
        ∙ ap (cond here (Some e.1)) (last_at-more others e.0.name e.0.record_type.0 s n t)
        ∙ by here
        ∙ sym (last_at-more others e.0.name e.0.record_type.0 e.1 n t)
      where
        here : Bool
        here = (t == e.0.record_type.0) && name_eq n e.0.name

        by : (b : Bool) → cond b (Some e.1) (cond b (Some s) (last_at others n t)) ≡ cond b (Some e.1) (last_at others n t)
        by true = refl
        by false = refl

    there : (x : RrKey × RRset) → In x others ⊎ In x (e ∷ []) → In x ((others ++ (e.0, s) ∷ []) ++ e ∷ [])
    there x (inl i) = In-append_left x (others ++ (e.0, s) ∷ []) (e ∷ []) (In-append_left x others ((e.0, s) ∷ []) i)
    there x (inr i) = In-append_right x (others ++ (e.0, s) ∷ []) (e ∷ []) i

    kept_stored : (x : RrKey × RRset) → In x (others ++ e ∷ []) → IsStoredAt x.0.name x.0.record_type.0 x.1
    kept_stored x i =
        let c = In-Contains x ((others ++ (e.0, s) ∷ []) ++ e ∷ []) (there x (In-from_append x others (e ∷ []) i)) in
        subst (λ (y : RrKey × RRset). IsStoredAt y.0.name y.0.record_type.0 y.1) c.2 (so_far.stored c.0 x c.1)

    in_place : CircleSoFar front (others ++ e ∷ [])
    in_place =
        record {
          sets = λ n t. sym (found_once n t) ∙ so_far.sets n t;
          stored = all_from_in (λ (x : RrKey × RRset). IsStoredAt x.0.name x.0.record_type.0 x.1) (others ++ e ∷ []) kept_stored;
          fit = so_far.fit;
          octets = so_far.octets;
          last = λ before k q.
              let l = so_far.last before k q in
              (l.0, others, ap (λ (x : RrKey × RRset). others ++ x ∷ []) (last_same (others ++ (e.0, s) ∷ []) l.1 e (key (owner_of k) NSEC3, l.0) l.2));
        }

  pub CircleSoFar-behind : (front : List HeldName) (es after : Sets) (e : RrKey × RRset) → CircleSoFar front (es ++ e ∷ []) → IsPutBehind es e after → CircleSoFar front after
  CircleSoFar-behind front es after e so_far (inl is) = subst (CircleSoFar front) (sym is) so_far
  CircleSoFar-behind front es after e so_far (inr (others, s, was, is)) = subst (CircleSoFar front) (sym is) (in_place front others s e (subst (λ (x : Sets). CircleSoFar front (x ++ e ∷ [])) was so_far))

  -- the set that was found under its owner may take the record
  pub may_take : (h : HeldName) (es : Sets) (b : Option (Bor RRset)) (r : Record) → lower origin ≡ origin → r ≡ circle_record origin parameters ttl all h → AreStored es
      → option_copied b ≡ last_at es (owner_of h) NSEC3 → IfSome b (λ s. IsStoredAt (lower r.name) (type_of r.rdata) s.now)
  may_take h es b r low made stored same =
      let named : owner_of h ≡ lower r.name = sym (ap (λ (x : Record). lower x.name) made ∙ hashed_lower origin h.digest low) in
      let typed : NSEC3 ≡ type_of r.rdata = sym (ap (λ (x : Record). type_of x.rdata) made) in
      subst (λ (k : Name × ℕ). IfSome b (λ s. IsStoredAt k.0 k.1 s.now)) (λ i. (named i, typed i)) (found_stored es stored (owner_of h) NSEC3 b same)

-- a name whose hashed owner is none
pub none_fits : (origin : Name) (hs : List HeldName) (h : HeldName) (e : ProtoError) → In h hs → fault_of (hashed_owner origin h.digest) ≡ Some e → all_fit origin (map hashed hs) ≡ false
none_fits origin [] h e i f = absurd i
none_fits origin (k ∷ hs) h e (inl s) f = ap (λ o. option_map_or (λ _. false) o true && all_fit origin (map hashed hs)) (ap (λ (x : HeldName). fault_of (hashed_owner origin x.digest)) s ∙ f)
none_fits origin (k ∷ hs) h e (inr i) f =
    ap (λ b. option_map_or (λ _. false) (fault_of (hashed_owner origin k.digest)) true && b) (none_fits origin hs h e i f)
    ∙ last_false (option_map_or (λ _. false) (fault_of (hashed_owner origin k.digest)) true)

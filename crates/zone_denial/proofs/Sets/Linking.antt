-- The NSEC sets of a list of keys, made name after name
use Rattle.std.proofs.Common.{◌≡◌, ℕ, Bool, true, false, cond, List, [], ◌∷◌, ◌++◌, map, get_or, refl, sym, ap, ◌∙◌, subst, ◌⊎◌, inl, inr, Less, is_lt}
use Rattle.std.specs.Prelude.{Option, Some, None, filter, unwrap_or}
use Rattle.std.specs.List.{Contains}
use Rattle.std.specs.Ordering.{nat_cmp, ordering_then}
use Rattle.std.proofs.lemmas.List.Elements.{Contains-get_or}
use Rattle.zone_proto.specs.declared.rr_key.RrKey.{RrKey}
use Rattle.zone_proto.specs.Keys.{key, key_cmp}
use Rattle.zone_proto.specs.Names.{Name, name_cmp, name_eq}
use Rattle.zone_proto.specs.Order.{is_before, is_upto, least}
use Rattle.zone_proto.specs.Sets.{RRset}
use Rattle.zone_proto.specs.Types.{RRSIG, NSEC}
use Rattle.zone_proto.proofs.Members.{In, In-Contains, Contains-In, In-map, In-from_map, In-filter, In-from_filter, In-filter_map, In-from_filter_map, In-from_append, In-append_left, In-append_right}
use Rattle.zone_proto.proofs.Names.NameTree.{name_eq-Decides, name_itself}
use Rattle.zone_proto.proofs.Ordering.Orders.{irrefl, asym, upto_cases, before_from_upto, less_test, greatest_is, greatest_from, number_order}
use Rattle.zone_proto.proofs.Names.Tree.{name_order}
use Rattle.zone_map.specs.Zones.{Sets, names_of}
use Rattle.zone_denial.specs.NsecSets.{nsec_data, new_set}
use Rattle.zone_denial.specs.NsecLinks.{key_names, key_types, next_key_name, first_name, linked_set, AreLinked}
use Rattle.zone_denial.specs.TypeLists.{joined, in_order}
use Rattle.zone_denial.proofs.Ascending.{Ascends, Ascends-end, Ascends-front, Ascends-apart, sorted_from_Ascends}
use Rattle.zone_denial.proofs.InOrder.{flipped, In-in_order, In-from_in_order, in_order_ascends, ascending_same}
use Rattle.zone_denial.proofs.Sets.CircleKeys.{names_upto}

-- the types of keys
abbrev pub types_of_keys : List RrKey → List ℕ
types_of_keys ks = map (λ (k : RrKey). k.record_type.0) ks

-- x is before y, and y not after z
pub before_upto : (x y z : Name) → name_cmp x y ≡ Less → is_upto name_cmp y z ≡ true → name_cmp x z ≡ Less
before_upto x y z h k = by (upto_cases name_order y z k)
  where
    by : (y ≡ z) ⊎ (name_cmp y z ≡ Less) → name_cmp x z ≡ Less
    by (inl e) = ap (name_cmp x) (sym e) ∙ h
    by (inr e) = name_order.total.trans x y z h e

least_of_none : (xs : List Name) → ((x : Name) → In x xs → ⊥) → least name_cmp xs ≡ None
least_of_none xs h = by (least name_cmp xs) refl
  where
    by : (o : Option Name) → least name_cmp xs ≡ o → o ≡ None
    by None e = refl
    by (Some x) e = absurd (h x (greatest_is (flipped name_order) xs x e).among)

-- ---- the keys of one name in front of others

module _ (n : Name) where
  pub types_ascend : (own : List RrKey) → Ascends key_cmp own → ((k : RrKey) → In k own → k.name ≡ n) → Ascends nat_cmp (types_of_keys own)
  types_ascend [] a h = tt
  types_ascend (k ∷ own) a h = (later, types_ascend own a.1 (λ q i. h q (inr i)))
    where
      later : (t : ℕ) → In t (types_of_keys own) → nat_cmp k.record_type.0 t ≡ Less
      later t i =
          let r = In-from_map (λ (q : RrKey). q.record_type.0) t own i in
          let tied = ap (name_cmp k.name) (h r.0 (inr r.1) ∙ sym (h k (inl refl))) ∙ name_itself k.name in
          ap (nat_cmp k.record_type.0) (sym r.2) ∙ sym (ap (λ o. ordering_then o (nat_cmp k.record_type.0 r.0.record_type.0)) tied) ∙ a.0 r.0 r.1

  -- what follows the keys of a name, if its first isn't of that name, comes after it
  pub others_after : (f : RrKey) (own others : List RrKey) → f.name ≡ n → In f own → Ascends key_cmp (own ++ others) → ((q : RrKey) (qs : List RrKey) → others ≡ q ∷ qs → q.name ≡ n → ⊥)
      → (q : RrKey) → In q others → name_cmp n q.name ≡ Less
  others_after f own [] e i a apart q j = absurd j
  others_after f own (h ∷ others) e i a apart q j = by j
    where
      head : name_cmp n h.name ≡ Less
      head = split (upto_cases name_order n h.name (subst (λ (x : Name). is_upto name_cmp x h.name ≡ true) e (names_upto f h (Ascends-apart key_cmp own (h ∷ others) a f h i (inl refl)))))
        where
          split : (n ≡ h.name) ⊎ (name_cmp n h.name ≡ Less) → name_cmp n h.name ≡ Less
          split (inl s) = absurd (apart h others refl (sym s))
          split (inr l) = l

      by : In q (h ∷ others) → name_cmp n q.name ≡ Less
      by (inl s) = ap (λ (k : RrKey). name_cmp n k.name) (sym s) ∙ head
      by (inr l) = before_upto n h.name q.name head (names_upto h q ((Ascends-end key_cmp own (h ∷ others) a).0 q l))

-- ---- the sets made so far, and the keys that are left

module _ (origin : Name) (ks : List RrKey) (ttl serial : ℕ) where
  -- the entry of a name
  abbrev pub linked : Name → RrKey × RRset
  linked n = (key n NSEC, linked_set origin ks ttl serial n)

  pub record Linking (entries : Sets) (left : List RrKey) : Type 0 where
    pub ascends : Ascends key_cmp left
    pub within : (k : RrKey) → In k left → In k ks
    pub passed : (k : RrKey) → In k ks → In k left ⊎ (In k.name (names_of entries) × ((q : RrKey) → In q left → name_cmp k.name q.name ≡ Less))
    pub each : (e : RrKey × RRset) → In e entries → (e ≡ linked e.0.name) × In e.0.name (key_names ks)

  pub Linking-start : Ascends key_cmp ks → Linking [] ks
  Linking-start a = record { ascends = a; within = λ k i. i; passed = λ k i. inl i; each = λ e i. absurd i }

  -- the keys of a name n come first, and others follow
  module _ (entries : Sets) (n : Name) (f : RrKey) (own others : List RrKey) (so_far : Linking entries (own ++ others)) (first : In f own) (named : (k : RrKey) → In k own → k.name ≡ n)
      (apart : (q : RrKey) (qs : List RrKey) → others ≡ q ∷ qs → q.name ≡ n → ⊥) where
    after : (q : RrKey) → In q others → name_cmp n q.name ≡ Less
    after = others_after n f own others (named f first) first so_far.ascends apart

    -- a key that isn't before n is of that name, or follows
    data Where (k : RrKey) : Type 0 where
      before : name_cmp k.name n ≡ Less → In k.name (names_of entries) → Where k
      here : In k own → Where k
      later : In k others → Where k

    place : (k : RrKey) → In k ks → Where k
    place k i = by (so_far.passed k i)
      where
        split : In k own ⊎ In k others → Where k
        split (inl j) = here j
        split (inr j) = later j

        by : In k (own ++ others) ⊎ (In k.name (names_of entries) × ((q : RrKey) → In q (own ++ others) → name_cmp k.name q.name ≡ Less)) → Where k
        by (inl j) = split (In-from_append k own others j)
        by (inr p) = before (subst (λ (x : Name). name_cmp k.name x ≡ Less) (named f first) (p.1 f (In-append_left f own others first))) p.0

    -- the names after n are those that follow
    after_names : (x : Name) → In x (filter (is_before name_cmp n) (key_names ks)) → (k : RrKey) × In k others × (k.name ≡ x)
    after_names x i =
        let r = In-from_filter (is_before name_cmp n) x (key_names ks) i in
        let s = In-from_map (λ (k : RrKey). k.name) x ks r.0 in
        let less : name_cmp n s.0.name ≡ Less = ap (name_cmp n) s.2 ∙ less_test (name_cmp n x) r.1 in
        by s.0 s.2 less (place s.0 s.1)
      where
        by : (k : RrKey) → k.name ≡ x → name_cmp n k.name ≡ Less → Where k → (q : RrKey) × In q others × (q.name ≡ x)
        by k e l (before b j) = absurd (asym name_order n k.name l b)
        by k e l (here j) = absurd (irrefl name_order n (ap (name_cmp n) (sym (named k j)) ∙ l))
        by k e l (later j) = (k, j, e)

    next_is : next_key_name origin ks n ≡ first_name origin others
    next_is = by others refl
      where
        none_less : (q : RrKey) (qs : List RrKey) → others ≡ q ∷ qs → (x : Name) → In x (filter (is_before name_cmp n) (key_names ks)) → name_cmp x q.name ≡ Less → ⊥
        none_less q qs e x i l =
            let r = after_names x i in
            at r.0 (subst (λ (rs : List RrKey). In r.0 rs) e r.1) (ap (λ y. name_cmp y q.name) r.2 ∙ l)
          where
            at : (k : RrKey) → In k (q ∷ qs) → name_cmp k.name q.name ≡ Less → ⊥
            at k (inl s) l = irrefl name_order q.name (ap (λ (j : RrKey). name_cmp j.name q.name) s ∙ l)
            at k (inr j) l =
                let rises = Ascends-end key_cmp own (q ∷ qs) (subst (λ (rs : List RrKey). Ascends key_cmp (own ++ rs)) e so_far.ascends) in
                irrefl name_order q.name (before_from_upto name_order q.name k.name q.name (names_upto q k (rises.0 k j)) l)

        by : (qs : List RrKey) → others ≡ qs → next_key_name origin ks n ≡ first_name origin qs
        by [] e = ap (λ o. unwrap_or o origin) (least_of_none (filter (is_before name_cmp n) (key_names ks)) (λ x i. let r = after_names x i in subst (λ (qs : List RrKey). In r.0 qs) e r.1))
        by (q ∷ qs) e =
            let among : In q others = subst (λ (rs : List RrKey). In q rs) (sym e) (inl refl) in
            let listed = In-map (λ (k : RrKey). k.name) q ks (so_far.within q (In-append_right q own others among)) in
            ap (λ o. unwrap_or o origin)
            (greatest_from (flipped name_order) (filter (is_before name_cmp n) (key_names ks)) q.name (record {
              among = In-filter (is_before name_cmp n) q.name (key_names ks) listed (ap is_lt (after q among));
              none_greater = λ x i l. none_less q qs e x i l;
            }))

    -- its types are those of the keys in front
    own_type : (t : ℕ) → In t (types_of_keys own) → In t (key_types ks n)
    own_type t i =
        let r = In-from_map (λ (k : RrKey). k.record_type.0) t own i in
        let same = (name_eq-Decides n r.0.name).1 (sym (named r.0 r.1)) in
        In-filter_map (λ (k : RrKey). cond (name_eq n k.name) (Some k.record_type.0) None) r.0 t ks (so_far.within r.0 (In-append_left r.0 own others r.1))
        (ap (λ b. cond b (Some r.0.record_type.0) None) same ∙ ap Some r.2)

    type_own : (t : ℕ) → In t (key_types ks n) → In t (types_of_keys own)
    type_own t i =
        let r = In-from_filter_map (λ (k : RrKey). cond (name_eq n k.name) (Some k.record_type.0) None) t ks i in
        by r.0 (name_eq n r.0.name) refl r.2 (place r.0 r.1)
      where
        at : (k : RrKey) → n ≡ k.name → Where k → In k own
        at k e (before l i) = absurd (irrefl name_order n (ap (λ x. name_cmp x n) e ∙ l))
        at k e (here i) = i
        at k e (later i) = absurd (irrefl name_order n (ap (name_cmp n) e ∙ after k i))

        by : (k : RrKey) (b : Bool) → name_eq n k.name ≡ b → cond b (Some k.record_type.0) None ≡ Some t → Where k → In t (types_of_keys own)
        by k true e q w = let s : k.record_type.0 ≡ t = cc in subst (λ u. In u (types_of_keys own)) s (In-map (λ (j : RrKey). j.record_type.0) k own (at k ((name_eq-Decides n k.name).0 e) w))
        by k false e q w = absurd cc

    types_are : in_order nat_cmp (NSEC ∷ RRSIG ∷ key_types ks n) ≡ joined nat_cmp NSEC (joined nat_cmp RRSIG (types_of_keys own))
    types_are =
        ap (λ ts. joined nat_cmp NSEC (joined nat_cmp RRSIG ts))
        (ascending_same number_order (in_order nat_cmp (key_types ks n)) (types_of_keys own) (in_order_ascends number_order (key_types ks n))
        (sorted_from_Ascends nat_cmp (types_of_keys own) (types_ascend n own (Ascends-front key_cmp own others so_far.ascends) named)) (λ t i. type_own t (In-from_in_order number_order t (key_types ks n) i))
        (λ t i. In-in_order number_order t (key_types ks n) (own_type t i)))

    -- so its entry is the one that is made of these
    abbrev made : RrKey × RRset
    made = (key n NSEC, new_set ttl serial n (nsec_data (first_name origin others) (joined nat_cmp NSEC (joined nat_cmp RRSIG (types_of_keys own)))))

    made_is : made ≡ linked n
    made_is = λ i. (key n NSEC, new_set ttl serial n (nsec_data (sym next_is i) (sym types_are i)))

    pub Linking-more : Linking (entries ++ made ∷ []) others
    Linking-more =
        record {
          ascends = Ascends-end key_cmp own others so_far.ascends;
          within = λ k i. so_far.within k (In-append_right k own others i);
          passed = λ k i. passed k (place k i) (so_far.passed k i);
          each = λ e i. each e (In-from_append e entries (made ∷ []) i);
        }
      where
        old_names : (x : Name) → In x (names_of entries) → In x (names_of (entries ++ made ∷ []))
        old_names x i =
            let r = In-from_map (λ (e : RrKey × RRset). e.0.name) x entries i in
            subst (λ y. In y (names_of (entries ++ made ∷ []))) r.2 (In-map (λ (e : RrKey × RRset). e.0.name) r.0 (entries ++ made ∷ []) (In-append_left r.0 entries (made ∷ []) r.1))

        new_name : In n (names_of (entries ++ made ∷ []))
        new_name = In-map (λ (e : RrKey × RRset). e.0.name) made (entries ++ made ∷ []) (In-append_right made entries (made ∷ []) (inl refl))

        passed : (k : RrKey) → Where k → In k (own ++ others) ⊎ (In k.name (names_of entries) × ((q : RrKey) → In q (own ++ others) → name_cmp k.name q.name ≡ Less))
            → In k others ⊎ (In k.name (names_of (entries ++ made ∷ [])) × ((q : RrKey) → In q others → name_cmp k.name q.name ≡ Less))
        passed k (before l i) o = inr (old_names k.name i, λ q j. name_order.total.trans k.name n q.name l (after q j))
        passed k (here i) o = inr (subst (λ x. In x (names_of (entries ++ made ∷ []))) (sym (named k i)) new_name, λ q j. ap (λ x. name_cmp x q.name) (named k i) ∙ after q j)
        passed k (later i) o = inl i

        each : (e : RrKey × RRset) → In e entries ⊎ In e (made ∷ []) → (e ≡ linked e.0.name) × In e.0.name (key_names ks)
        each e (inl i) = so_far.each e i
        each e (inr (inl s)) =
            let name : n ≡ e.0.name = ap (λ (d : RrKey × RRset). d.0.name) s in
            let listed = In-map (λ (k : RrKey). k.name) f ks (so_far.within f (In-append_left f own others first)) in
            (sym s ∙ made_is ∙ ap linked name, subst (λ x. In x (key_names ks)) (named f first ∙ name) listed)
        each e (inr (inr i)) = absurd i

  -- where no keys are left, all sets are made
  pub Linking-end : (entries : Sets) (left : List RrKey) → left ≡ [] → Linking entries left → AreLinked origin ks ttl serial entries
  Linking-end entries left none h =
      record {
        each = λ k d lt. (h.each (get_or entries k d) (Contains-In (get_or entries k d) entries (Contains-get_or entries k d lt))).0;
        named = λ k d lt. let e = get_or entries k d in In-Contains e.0.name (key_names ks) (h.each e (Contains-In e entries (Contains-get_or entries k d lt))).1;
        all = λ n c. let r = In-from_map (λ (k : RrKey). k.name) n ks (Contains-In n (key_names ks) c) in
            subst (λ x. Contains (names_of entries) x) r.2 (made r.0 (h.passed r.0 r.1));
      }
    where
      made : (k : RrKey) → In k left ⊎ (In k.name (names_of entries) × ((q : RrKey) → In q left → name_cmp k.name q.name ≡ Less)) → Contains (names_of entries) k.name
      made k (inl i) = absurd (subst (λ (qs : List RrKey). In k qs) none i)
      made k (inr p) = In-Contains k.name (names_of entries) p.0

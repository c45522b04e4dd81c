-- The names that get an NSEC3 set, listed name after name
use Rattle.std.proofs.Common.{◌≡◌, ℕ, ◌==◌, ◌&&◌, ◌||◌, not, Bool, true, false, List, [], ◌∷◌, ◌++◌, map, get_or, refl, sym, ap, ◌∙◌, subst, true≢false, ◌⊎◌, inl, inr, eqb-true, Less}
use Rattle.std.specs.List.{All, Contains, list_all}
use Rattle.std.specs.List.Sorted.{IsStrictlySortedBy}
use Rattle.std.specs.Map.{keys_of}
use Rattle.std.specs.Ordering.{nat_cmp}
use Rattle.std.proofs.lemmas.List.{map-append}
use Rattle.std.proofs.lemmas.List.Elements.{Contains-get_or}
use Rattle.zone_proto.specs.declared.rr_key.RrKey.{RrKey}
use Rattle.zone_proto.specs.Keys.{key, key_cmp}
use Rattle.zone_proto.specs.Names.{Name, name_cmp, name_eq, is_above, is_at_or_above, IsAbove, IsAtOrAbove}
use Rattle.zone_proto.specs.Order.{is_upto}
use Rattle.zone_proto.specs.Types.{NS, RRSIG, NSEC3, NSEC3PARAM}
use Rattle.zone_proto.proofs.Members.{In, In-Contains, Contains-In, In-map, In-from_map, In-filter, In-from_filter, In-from_append, In-append_left, In-append_right, In-from_any, any_from_In, and_left, and_right}
use Rattle.zone_proto.proofs.Names.NameTree.{name_eq-Decides, above_test, above_is_less, is_at_or_above_sound, is_at_or_above_complete}
use Rattle.zone_proto.proofs.Ordering.Orders.{Side, before, same, after, side, irrefl, asym, upto_before, upto_same, before_from_upto}
use Rattle.zone_proto.proofs.Names.Tree.{name_order, together, above_cases}
use Rattle.zone_map.specs.Zones.{Sets, owners, owns, types_at, names_of}
use Rattle.zone_map.proofs.Owned.{owner_in, type_in}
use Rattle.zone_denial.specs.Authority.{is_below_cut, is_authoritative, owns_besides, authoritative_names}
use Rattle.zone_denial.specs.AuthoritativeKeys.{authoritative_keys}
use Rattle.zone_denial.specs.Nsec3Circle.{nsec3_types}
use Rattle.zone_denial.specs.Nsec3Names.{is_unsigned_delegation, counted_names, nsec3_names, IsNsec3Name}
use Rattle.zone_denial.specs.declared.nsec3_names.Nsec3Name.{Nsec3Name}
use Rattle.zone_denial.specs.Nsec3Nodes.{name_of, types_of, node_of, new_ancestors}
use Rattle.zone_denial.specs.TypeLists.{joined}
use Rattle.zone_denial.proofs.Ascending.{Ascends, Ascends-end, Ascends-front, Ascends-joined, sorted_from_Ascends}
use Rattle.zone_denial.proofs.Names.AuthoritativeNames.{authoritative_from, authoritative_listed, from_besides, origin_uncut}
use Rattle.zone_denial.proofs.Sets.CircleKeys.{names_upto}
use Rattle.zone_denial.proofs.InOrder.{ascending_same}
use Rattle.zone_denial.proofs.Sets.Linking.{types_of_keys, others_after, before_upto}
use Rattle.zone_denial.proofs.Names.NewAncestors.{above_later, new_is, is_among_new, new_ascend, empty_nodes}
use Rattle.zone_denial.proofs.Hashed.Nsec3NameLaws.{names_are_exact, names_ascend}
use Rattle.zone_denial.proofs.Hashed.Nsec3Runs.{AreOwn, key_from, key_in, types_of_empty, types_of_origin, types_of_other}

-- the names of a list
abbrev pub listed_names : List (Name × List ℕ) → List Name
listed_names es = map (λ (e : Name × List ℕ). e.0) es

names_of_empty : (ns : List Name) → listed_names (empty_nodes ns) ≡ ns
names_of_empty [] = refl
names_of_empty (n ∷ ns) = ap (λ (ms : List Name). n ∷ ms) (names_of_empty ns)

-- nothing is above a name and at or below it
not_around : (a n : Name) → IsAbove a n → IsAtOrAbove n a → ⊥
not_around a n h k = by (above_cases n a k)
  where
    by : (n ≡ a) ⊎ IsAbove n a → ⊥
    by (inl e) = irrefl name_order n (ap (λ x. name_cmp x n) e ∙ above_is_less a n h)
    by (inr w) = asym name_order a n (above_is_less a n h) (above_is_less n a w)

not_itself : (a n : Name) → name_cmp a n ≡ Less → name_eq n a ≡ false
not_itself a n h = by (name_eq n a) refl
  where
    by : (b : Bool) → name_eq n a ≡ b → b ≡ false
    by true e = absurd (irrefl name_order n (ap (λ x. name_cmp x n) ((name_eq-Decides n a).0 e) ∙ h))
    by false e = refl

not_false : (b : Bool) → not b ≡ false → b ≡ true
not_false true e = refl
not_false false e = absurd (true≢false e)

-- of two types only one is left
one_of : (t : ℕ) → (t == NS) || (t == NSEC3) ≡ true → not (t == NSEC3) ≡ true → t ≡ NS
one_of t h other = by (t == NS) refl (t == NSEC3) h other
  where
    by : (a : Bool) → (t == NS) ≡ a → (b : Bool) → a || b ≡ true → not b ≡ true → t ≡ NS
    by true e b h other = eqb-true t NS e
    by false e true h other = absurd (true≢false (sym other))
    by false e false h other = absurd (true≢false (sym h))

all_pass : (p : ℕ → Bool) (ts : List ℕ) → list_all p ts ≡ true → (t : ℕ) → In t ts → p t ≡ true
all_pass p [] h t i = absurd i
all_pass p (u ∷ us) h t (inl e) = ap p (sym e) ∙ and_left (p u) (list_all p us) h
all_pass p (u ∷ us) h t (inr i) = all_pass p us (and_right (p u) (list_all p us) h) t i

module _ (origin : Name) (m : Sets) (opt_out : Bool) (ks : List RrKey) where
  -- a name counts, if the zone is authoritative for it
  abbrev pub is_counted : Name → Bool
  is_counted n = not (opt_out && (not (name_eq n origin) && is_unsigned_delegation m n))

  -- a name that counts is listed with its ancestors below the origin
  abbrev Done : List (Name × List ℕ) → Name → Type 0
  Done made n = is_counted n ≡ true → (x : Name) → IsAbove origin x → IsAtOrAbove x n → In x (listed_names made)

  -- a key is behind: it comes before all that are left
  abbrev Behind : List RrKey → Name → Type 0
  Behind left n = (q : RrKey) → In q left → name_cmp n q.name ≡ Less

  -- a listed name gets an NSEC3 set, and is listed with its types
  abbrev Told : Name × List ℕ → Type 0
  Told e = IsNsec3Name origin m opt_out e.0 × (e.1 ≡ nsec3_types origin m e.0)

  -- the names of the keys passed are listed, the last one that counts last
  pub record Naming (made : List (Name × List ℕ)) (last : Name) (left : List RrKey) : Type 0 where
    pub ascends : Ascends key_cmp left
    pub within : (k : RrKey) → In k left → In k ks
    pub passed : (k : RrKey) → In k ks → In k left ⊎ (Behind left k.name × Done made k.name)
    pub ordered : Ascends name_cmp (listed_names made)
    pub upto : (x : Name) → In x (listed_names made) → is_upto name_cmp x last ≡ true
    pub last_behind : Behind left last
    pub closed : (x : Name) → IsAbove origin x → IsAtOrAbove x last → In x (listed_names made)
    pub each : (e : Name × List ℕ) → In e made → Told e
    pub from_origin : In origin (listed_names made)

  module _ (sorted : IsStrictlySortedBy key_cmp (keys_of m)) (are : ks ≡ authoritative_keys origin m NSEC3) where
    authority : (k : RrKey) → In k ks → is_authoritative origin m NSEC3 k.name ≡ true
    authority k i = and_right (not (k.record_type.0 == NSEC3)) (is_authoritative origin m NSEC3 k.name) (key_from origin m sorted ks are k i).1

    in_zone : (n : Name) → is_authoritative origin m NSEC3 n ≡ true → IsAtOrAbove origin n
    in_zone n h = is_at_or_above_sound origin n (and_left (is_at_or_above origin n) (owns_besides m NSEC3 n && not (is_below_cut origin m n)) h)

    uncut : (n : Name) → is_authoritative origin m NSEC3 n ≡ true → is_below_cut origin m n ≡ true → ⊥
    uncut n h k =
        let rest = and_right (is_at_or_above origin n) (owns_besides m NSEC3 n && not (is_below_cut origin m n)) h in
        true≢false (sym (and_right (owns_besides m NSEC3 n) (not (is_below_cut origin m n)) rest) ∙ ap not k)

    -- ---- the origin comes first

    module _ (own others : List RrKey) (parts : ks ≡ own ++ others) (ascends : Ascends key_cmp ks) (of_name : (k : RrKey) → In k own → k.name ≡ origin)
        (apart : (q : RrKey) (qs : List RrKey) → others ≡ q ∷ qs → q.name ≡ origin → ⊥) where
      rising : Ascends key_cmp (own ++ others)
      rising = subst (Ascends key_cmp) parts ascends

      here : (k : RrKey) → In k others → In k ks
      here k i = subst (λ qs. In k qs) (sym parts) (In-append_right k own others i)

      origin_behind : Behind others origin
      origin_behind q i = by others refl i
        where
          below : (k : RrKey) (qs : List RrKey) → others ≡ k ∷ qs → name_cmp origin k.name ≡ Less
          below k qs e = split (above_cases origin k.name (in_zone k.name (authority k (here k (subst (λ rs. In k rs) (sym e) (inl refl))))))
            where
              split : (origin ≡ k.name) ⊎ IsAbove origin k.name → name_cmp origin k.name ≡ Less
              split (inl s) = absurd (apart k qs e (sym s))
              split (inr w) = above_is_less origin k.name w

          by : (rs : List RrKey) → others ≡ rs → In q rs → name_cmp origin q.name ≡ Less
          by [] e j = absurd j
          by (k ∷ qs) e (inl s) = ap (λ (r : RrKey). name_cmp origin r.name) (sym s) ∙ below k qs e
          by (k ∷ qs) e (inr j) =
              let rises = Ascends-end key_cmp own (k ∷ qs) (subst (λ (rs : List RrKey). Ascends key_cmp (own ++ rs)) e rising) in
              before_upto origin k.name q.name (below k qs e) (names_upto k q (rises.0 q j))

      origin_own : AreOwn ks origin own
      origin_own = record {
        ascend = Ascends-front key_cmp own others rising;
        of_name = of_name;
        listed = λ k i. subst (λ qs. In k qs) (sym parts) (In-append_left k own others i);
        all = λ k i e. at k e (In-from_append k own others (subst (λ qs. In k qs) parts i));
      }
        where
          at : (k : RrKey) → k.name ≡ origin → In k own ⊎ In k others → In k own
          at k e (inl i) = i
          at k e (inr i) = absurd (irrefl name_order origin (ap (name_cmp origin) (sym e) ∙ origin_behind k i))

      origin_types : joined nat_cmp NSEC3PARAM (joined nat_cmp RRSIG (types_of_keys own)) ≡ nsec3_types origin m origin
      origin_types =
          types_of_origin origin m sorted ks are origin own origin_own
          (λ b. authoritative_from origin m NSEC3 origin (is_at_or_above_complete origin origin ([], refl)) b (origin_uncut origin m)) refl

      pub Naming-start : Naming ((origin, joined nat_cmp NSEC3PARAM (joined nat_cmp RRSIG (types_of_keys own))) ∷ []) origin others
      Naming-start =
          record {
            ascends = Ascends-end key_cmp own others rising;
            within = here;
            passed = λ k i. passed k (In-from_append k own others (subst (λ qs. In k qs) parts i));
            ordered = ((λ y i. absurd i), tt);
            upto = upto;
            last_behind = origin_behind;
            closed = λ x a w. absurd (not_around origin x a w);
            each = each;
            from_origin = inl refl;
          }
        where
          passed : (k : RrKey) → In k own ⊎ In k others → In k others ⊎ (Behind others k.name × Done ((origin, joined nat_cmp NSEC3PARAM (joined nat_cmp RRSIG (types_of_keys own))) ∷ []) k.name)
          passed k (inr i) = inl i
          passed k (inl i) = inr (λ q j. ap (λ x. name_cmp x q.name) (of_name k i) ∙ origin_behind q j, λ c x a w. absurd (not_around origin x a (subst (IsAtOrAbove x) (of_name k i) w)))

          upto : (x : Name) → In x (origin ∷ []) → is_upto name_cmp x origin ≡ true
          upto x (inl e) = upto_same name_order x origin (sym e)
          upto x (inr i) = absurd i

          each : (e : Name × List ℕ) → In e ((origin, joined nat_cmp NSEC3PARAM (joined nat_cmp RRSIG (types_of_keys own))) ∷ []) → Told e
          each e (inl s) = subst Told s (inl refl, origin_types)
          each e (inr i) = absurd i

    -- ---- then the keys of another name n, and others after them

    module _ (made : List (Name × List ℕ)) (last : Name) (n : Name) (f : RrKey) (own others : List RrKey) (so_far : Naming made last (own ++ others)) (first : In f own)
        (of_name : (k : RrKey) → In k own → k.name ≡ n) (apart : (q : RrKey) (qs : List RrKey) → others ≡ q ∷ qs → q.name ≡ n → ⊥) where
      n_behind : Behind others n
      n_behind = others_after n f own others (of_name f first) first so_far.ascends apart

      in_ks : (k : RrKey) → In k own → In k ks
      in_ks k i = so_far.within k (In-append_left k own others i)

      pub n_authority : is_authoritative origin m NSEC3 n ≡ true
      n_authority = subst (λ x. is_authoritative origin m NSEC3 x ≡ true) (of_name f first) (authority f (in_ks f first))

      last_before : name_cmp last n ≡ Less
      last_before = ap (name_cmp last) (sym (of_name f first)) ∙ so_far.last_behind f (In-append_left f own others first)

      listed_before : (x : Name) → In x (listed_names made) → name_cmp x n ≡ Less
      listed_before x i = before_from_upto name_order x last n (so_far.upto x i) last_before

      origin_before : name_cmp origin n ≡ Less
      origin_before = listed_before origin so_far.from_origin

      not_origin : name_eq n origin ≡ false
      not_origin = not_itself origin n origin_before

      -- a key of n is one of these
      own_all : (k : RrKey) → In k ks → k.name ≡ n → In k own
      own_all k i e = by (so_far.passed k i)
        where
          split : In k own ⊎ In k others → In k own
          split (inl j) = j
          split (inr j) = absurd (irrefl name_order n (ap (name_cmp n) (sym e) ∙ n_behind k j))

          by : In k (own ++ others) ⊎ (Behind (own ++ others) k.name × Done made k.name) → In k own
          by (inl j) = split (In-from_append k own others j)
          by (inr p) = absurd (irrefl name_order n ((λ i. name_cmp (sym e i) (sym (of_name f first) i)) ∙ p.0 f (In-append_left f own others first)))

      pub n_own : AreOwn ks n own
      n_own = record { ascend = Ascends-front key_cmp own others so_far.ascends; of_name = of_name; listed = in_ks; all = own_all }

      n_types : joined nat_cmp RRSIG (types_of_keys own) ≡ nsec3_types origin m n
      n_types = types_of_other origin m sorted ks are n own n_own (λ b. n_authority) f first not_origin

      -- whether the name is passed over, as its keys tell
      pub counted_test : (b : Bool) → b ≡ is_unsigned_delegation m n → is_counted n ≡ not (opt_out && b)
      counted_test b e = λ i. not (opt_out && (not (not_origin i) && sym e i))

      -- an unsigned delegation may be passed over
      pub Naming-skip : is_counted n ≡ false → Naming made last others
      Naming-skip uncounted =
          record {
            ascends = Ascends-end key_cmp own others so_far.ascends;
            within = λ k i. so_far.within k (In-append_right k own others i);
            passed = λ k i. passed k (so_far.passed k i);
            ordered = so_far.ordered;
            upto = so_far.upto;
            last_behind = λ q i. so_far.last_behind q (In-append_right q own others i);
            closed = so_far.closed;
            each = so_far.each;
            from_origin = so_far.from_origin;
          }
        where
          split : (k : RrKey) → In k own ⊎ In k others → In k others ⊎ (Behind others k.name × Done made k.name)
          split k (inr j) = inl j
          split k (inl j) = inr (λ q i. ap (λ x. name_cmp x q.name) (of_name k j) ∙ n_behind q i, λ c. absurd (true≢false (sym c ∙ ap is_counted (of_name k j) ∙ uncounted)))

          passed : (k : RrKey) → In k (own ++ others) ⊎ (Behind (own ++ others) k.name × Done made k.name) → In k others ⊎ (Behind others k.name × Done made k.name)
          passed k (inl j) = split k (In-from_append k own others j)
          passed k (inr p) = inr (λ q i. p.0 q (In-append_right q own others i), p.1)

      -- ---- the ancestors that are new

      module _ (a : Name) (new : In a (new_ancestors last n)) where
        above_n : IsAbove a n
        above_n = (new_is last n a new).0

        upper : IsAtOrAbove a n
        upper = (above_n.0 ∷ above_n.1, above_n.2)

        -- they come after the last one
        new_after : name_cmp last a ≡ Less
        new_after = by (side name_order last a)
          where
            apart_from : IsAtOrAbove a last → ⊥
            apart_from w = true≢false (sym (is_at_or_above_complete a last w) ∙ (new_is last n a new).1)

            by : Side name_cmp last a → name_cmp last a ≡ Less
            by (before e) = e
            by (same e) = absurd (apart_from ([], e))
            by (after e) = absurd (apart_from (together a last n (upto_before name_order a last e) (upto_before name_order last n last_before) upper))

        origin_upto_last : is_upto name_cmp origin last ≡ true
        origin_upto_last = so_far.upto origin so_far.from_origin

        origin_less : name_cmp origin a ≡ Less
        origin_less = before_from_upto name_order origin last a origin_upto_last new_after

        below_origin : IsAbove origin a
        below_origin = by (above_cases origin a (together origin a n (upto_before name_order origin a origin_less) (upto_before name_order a n (above_is_less a n above_n)) (in_zone n n_authority)))
          where
            by : (origin ≡ a) ⊎ IsAbove origin a → IsAbove origin a
            by (inl e) = absurd (irrefl name_order a (ap (λ x. name_cmp x a) (sym e) ∙ origin_less))
            by (inr w) = w

        -- no cut is above one, nor is it one, since none is above n
        a_uncut : is_below_cut origin m a ≡ false
        a_uncut = by (is_below_cut origin m a) refl
          where
            by : (b : Bool) → is_below_cut origin m a ≡ b → b ≡ false
            by false e = refl
            by true e =
                let r = In-from_any (λ c. is_above origin c && is_above c a) (owners m NS) e in
                let over = (above_test r.0 a).0 (and_right (is_above origin r.0) (is_above r.0 a) r.2) in
                let more = above_later r.0 a n (over.0 ∷ over.1, over.2) upper in
                let less = name_order.total.trans r.0 a n (above_is_less r.0 a over) (above_is_less a n above_n) in
                absurd (uncut n n_authority (any_from_In (λ c. is_above origin c && is_above c n) r.0 (owners m NS) r.1
                (λ i. and_left (is_above origin r.0) (is_above r.0 a) r.2 i && strictly r.0 more less i)))
              where
                strictly : (c : Name) → IsAtOrAbove c n → name_cmp c n ≡ Less → is_above c n ≡ true
                strictly c w l = split (above_cases c n w)
                  where
                    split : (c ≡ n) ⊎ IsAbove c n → is_above c n ≡ true
                    split (inl s) = absurd (irrefl name_order n (ap (λ x. name_cmp x n) (sym s) ∙ l))
                    split (inr v) = (above_test c n).1 v

        no_cut : owns m a NS ≡ true → ⊥
        no_cut h =
            uncut n n_authority
            (any_from_In (λ c. is_above origin c && is_above c n) a (owners m NS) (owner_in m a NS h) (λ i. (above_test origin a).1 below_origin i && (above_test a n).1 above_n i))

        -- so they own nothing but NSEC3
        a_empty : owns_besides m NSEC3 a ≡ false
        a_empty = by (owns_besides m NSEC3 a) refl
          where
            by : (b : Bool) → owns_besides m NSEC3 a ≡ b → b ≡ false
            by false e = refl
            by true e =
                let t = from_besides m NSEC3 a e in
                let on = authoritative_from origin m NSEC3 a (is_at_or_above_complete origin a (below_origin.0 ∷ below_origin.1, below_origin.2)) e a_uncut in
                let there = key_in origin m sorted ks are a t.0 t.2 t.1 on in
                absurd (at t.0 t.2 t.1 (so_far.passed (key a t.0) there))
              where
                uncounted : (t : ℕ) → owns m a t ≡ true → not (t == NSEC3) ≡ true → is_counted a ≡ false → ⊥
                uncounted t h other e =
                    let dropped = not_false (opt_out && (not (name_eq a origin) && is_unsigned_delegation m a)) e in
                    let unsigned = and_right (not (name_eq a origin)) (is_unsigned_delegation m a) (and_right opt_out (not (name_eq a origin) && is_unsigned_delegation m a) dropped) in
                    let ns = one_of t (all_pass (λ t. (t == NS) || (t == NSEC3)) (types_at m a) unsigned t (type_in m a t h)) other in
                    no_cut (subst (λ u. owns m a u ≡ true) ns h)

                counted : is_counted a ≡ true → Done made a → ⊥
                counted c d = irrefl name_order a (before_from_upto name_order a last a (so_far.upto a (d c a below_origin ([], refl))) new_after)

                over : (t : ℕ) → owns m a t ≡ true → not (t == NSEC3) ≡ true → (b : Bool) → is_counted a ≡ b → Done made a → ⊥
                over t h other true c d = counted c d
                over t h other false c d = uncounted t h other c

                split : (t : ℕ) → In (key a t) own ⊎ In (key a t) others → ⊥
                split t (inl i) = irrefl name_order n (ap (λ x. name_cmp x n) (sym (of_name (key a t) i)) ∙ above_is_less a n above_n)
                split t (inr i) = asym name_order n a (n_behind (key a t) i) (above_is_less a n above_n)

                at : (t : ℕ) → owns m a t ≡ true → not (t == NSEC3) ≡ true → In (key a t) (own ++ others) ⊎ (Behind (own ++ others) a × Done made a) → ⊥
                at t h other (inl i) = split t (In-from_append (key a t) own others i)
                at t h other (inr p) = over t h other (is_counted a) refl p.1

        a_types : [] ≡ nsec3_types origin m a
        a_types = sym (types_of_empty origin m a (not_itself origin a origin_less) a_empty)

      -- ---- a name that counts is listed behind its new ancestors

      abbrev pub with_name : List (Name × List ℕ)
      with_name = (made ++ empty_nodes (new_ancestors last n)) ++ (n, joined nat_cmp RRSIG (types_of_keys own)) ∷ []

      with_names : listed_names with_name ≡ (listed_names made ++ new_ancestors last n) ++ n ∷ []
      with_names =
          map-append (λ (e : Name × List ℕ). e.0) (made ++ empty_nodes (new_ancestors last n)) ((n, joined nat_cmp RRSIG (types_of_keys own)) ∷ [])
          ∙ ap (λ (ns : List Name). ns ++ n ∷ []) (map-append (λ (e : Name × List ℕ). e.0) made (empty_nodes (new_ancestors last n)) ∙ ap (λ (ns : List Name). listed_names made ++ ns) (names_of_empty (new_ancestors last n)))

      module _ (x : Name) where
        listed_old : In x (listed_names made) → In x (listed_names with_name)
        listed_old i = subst (λ (ns : List Name). In x ns) (sym with_names) (In-append_left x (listed_names made ++ new_ancestors last n) (n ∷ []) (In-append_left x (listed_names made) (new_ancestors last n) i))

        listed_new : In x (new_ancestors last n) → In x (listed_names with_name)
        listed_new i = subst (λ (ns : List Name). In x ns) (sym with_names) (In-append_left x (listed_names made ++ new_ancestors last n) (n ∷ []) (In-append_right x (listed_names made) (new_ancestors last n) i))

        listed_last : n ≡ x → In x (listed_names with_name)
        listed_last e = subst (λ (ns : List Name). In x ns) (sym with_names) (In-append_right x (listed_names made ++ new_ancestors last n) (n ∷ []) (inl e))

        before_n : In x (listed_names made ++ new_ancestors last n) → name_cmp x n ≡ Less
        before_n i = by (In-from_append x (listed_names made) (new_ancestors last n) i)
          where
            by : In x (listed_names made) ⊎ In x (new_ancestors last n) → name_cmp x n ≡ Less
            by (inl j) = listed_before x j
            by (inr j) = above_is_less x n (above_n x j)

        upto_n : In x (listed_names with_name) → is_upto name_cmp x n ≡ true
        upto_n i = by (In-from_append x (listed_names made ++ new_ancestors last n) (n ∷ []) (subst (λ (ns : List Name). In x ns) with_names i))
          where
            by : In x (listed_names made ++ new_ancestors last n) ⊎ In x (n ∷ []) → is_upto name_cmp x n ≡ true
            by (inl j) = upto_before name_order x n (before_n j)
            by (inr (inl e)) = upto_same name_order x n (sym e)
            by (inr (inr j)) = absurd j

        -- n and its ancestors below the origin are listed
        closed_n : IsAbove origin x → IsAtOrAbove x n → In x (listed_names with_name)
        closed_n over at = by (above_cases x n at)
          where
            split : IsAbove x n → (b : Bool) → is_at_or_above x last ≡ b → In x (listed_names with_name)
            split w true e = listed_old (so_far.closed x over (is_at_or_above_sound x last e))
            split w false e = listed_new (is_among_new last n x w e)

            by : (x ≡ n) ⊎ IsAbove x n → In x (listed_names with_name)
            by (inl e) = listed_last (sym e)
            by (inr w) = split w (is_at_or_above x last) refl

      with_ascends : Ascends name_cmp (listed_names with_name)
      with_ascends =
          subst (Ascends name_cmp) (sym with_names)
          (Ascends-joined name_cmp (listed_names made ++ new_ancestors last n) (n ∷ [])
          (Ascends-joined name_cmp (listed_names made) (new_ancestors last n) so_far.ordered (new_ascend last n) (λ x y i j. before_from_upto name_order x last y (so_far.upto x i) (new_after y j)))
          ((λ y i. absurd i), tt) (λ x y i j. to_last x y i j))
        where
          to_last : (x y : Name) → In x (listed_names made ++ new_ancestors last n) → In y (n ∷ []) → name_cmp x y ≡ Less
          to_last x y i (inl e) = ap (name_cmp x) (sym e) ∙ before_n x i
          to_last x y i (inr j) = absurd j

      pub Naming-more : is_counted n ≡ true → Naming with_name n others
      Naming-more counts =
          record {
            ascends = Ascends-end key_cmp own others so_far.ascends;
            within = λ k i. so_far.within k (In-append_right k own others i);
            passed = λ k i. passed k (so_far.passed k i);
            ordered = with_ascends;
            upto = upto_n;
            last_behind = n_behind;
            closed = closed_n;
            each = λ e i. each e (In-from_append e (made ++ empty_nodes (new_ancestors last n)) ((n, joined nat_cmp RRSIG (types_of_keys own)) ∷ []) i);
            from_origin = listed_old origin so_far.from_origin;
          }
        where
          split : (k : RrKey) → In k own ⊎ In k others → In k others ⊎ (Behind others k.name × Done with_name k.name)
          split k (inr j) = inl j
          split k (inl j) = inr (λ q i. ap (λ x. name_cmp x q.name) (of_name k j) ∙ n_behind q i, λ c x over at. closed_n x over (subst (IsAtOrAbove x) (of_name k j) at))

          passed : (k : RrKey) → In k (own ++ others) ⊎ (Behind (own ++ others) k.name × Done made k.name) → In k others ⊎ (Behind others k.name × Done with_name k.name)
          passed k (inl j) = split k (In-from_append k own others j)
          passed k (inr p) = inr (λ q i. p.0 q (In-append_right q own others i), λ c x over at. listed_old x (p.1 c x over at))

          counted : Contains (counted_names origin m opt_out) n
          counted = In-Contains n (counted_names origin m opt_out) (In-filter is_counted n (authoritative_names origin m NSEC3) (authoritative_listed origin m NSEC3 n n_authority) counts)

          below : IsAbove origin n
          below = by (above_cases origin n (in_zone n n_authority))
            where
              by : (origin ≡ n) ⊎ IsAbove origin n → IsAbove origin n
              by (inl e) = absurd (irrefl name_order n (ap (λ x. name_cmp x n) (sym e) ∙ origin_before))
              by (inr w) = w

          former : (e : Name × List ℕ) → In e made ⊎ In e (empty_nodes (new_ancestors last n)) → Told e
          former e (inl i) = so_far.each e i
          former e (inr i) =
              let r = In-from_map (λ (a : Name). (a, [])) e (new_ancestors last n) i in
              subst Told r.2 (inr (below_origin r.0 r.1, (n, counted, upper r.0 r.1)), a_types r.0 r.1)

          each : (e : Name × List ℕ) → In e (made ++ empty_nodes (new_ancestors last n)) ⊎ In e ((n, joined nat_cmp RRSIG (types_of_keys own)) ∷ []) → Told e
          each e (inl i) = former e (In-from_append e made (empty_nodes (new_ancestors last n)) i)
          each e (inr (inl s)) = subst Told s (inr (below, (n, counted, ([], refl))), n_types)
          each e (inr (inr i)) = absurd i

    -- ---- where no keys are left, all names are listed

    pub Naming-end : (made : List (Name × List ℕ)) (last : Name) (left : List RrKey) → left ≡ [] → Naming made last left → listed_names made ≡ nsec3_names origin m opt_out
    Naming-end made last left none h =
        ascending_same name_order (listed_names made) (nsec3_names origin m opt_out) (sorted_from_Ascends name_cmp (listed_names made) h.ordered) (names_ascend origin m opt_out) to
        (λ x i. from x ((names_are_exact origin m opt_out x).0 (In-Contains x (nsec3_names origin m opt_out) i)))
      where
        to : (x : Name) → In x (listed_names made) → In x (nsec3_names origin m opt_out)
        to x i =
            let r = In-from_map (λ (e : Name × List ℕ). e.0) x made i in
            Contains-In x (nsec3_names origin m opt_out) ((names_are_exact origin m opt_out x).1 (subst (IsNsec3Name origin m opt_out) r.2 (h.each r.0 r.1).0))

        done : (k : RrKey) → In k left ⊎ (Behind left k.name × Done made k.name) → Done made k.name
        done k (inl i) = absurd (subst (λ (qs : List RrKey). In k qs) none i)
        done k (inr p) = p.1

        from : (x : Name) → IsNsec3Name origin m opt_out x → In x (listed_names made)
        from x (inl e) = subst (λ y. In y (listed_names made)) (sym e) h.from_origin
        from x (inr (over, (c, i, at))) =
            let r = In-from_filter is_counted c (authoritative_names origin m NSEC3) (Contains-In c (counted_names origin m opt_out) i) in
            let on = (In-from_filter (is_authoritative origin m NSEC3) c (names_of m) r.0).1 in
            let besides = and_left (owns_besides m NSEC3 c) (not (is_below_cut origin m c)) (and_right (is_at_or_above origin c) (owns_besides m NSEC3 c && not (is_below_cut origin m c)) on) in
            let t = from_besides m NSEC3 c besides in
            let there = key_in origin m sorted ks are c t.0 t.2 t.1 on in
            done (key c t.0) (h.passed (key c t.0) there) r.1 x over at

-- ---- as the program lists them

pub names_listed : (ns : List Nsec3Name) → map name_of ns ≡ listed_names (map node_of ns)
names_listed [] = refl
names_listed (n ∷ ns) = ap (λ xs. name_of n ∷ xs) (names_listed ns)

pub types_listed : (origin : Name) (m : Sets) (opt_out : Bool) (ks : List RrKey) (ns : List Nsec3Name) (last : Name) (left : List RrKey) → Naming origin m opt_out ks (map node_of ns) last left
    → All (λ n. types_of n ≡ nsec3_types origin m (name_of n)) ns
types_listed origin m opt_out ks ns last left h =
    λ k d lt. let n = get_or ns k d in (h.each (node_of n) (In-map node_of n ns (Contains-In n ns (Contains-get_or ns k d lt)))).1

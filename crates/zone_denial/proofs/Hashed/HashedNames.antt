-- Names with their digests, sorted, are the hashed names in order
use Rattle.std.proofs.Common.{◌≡◌, ℕ, suc, ◌<◌, ◌&&◌, Bool, true, false, List, [], ◌∷◌, ◌++◌, map, length, take, get_or, cond, refl, sym, ap, ◌∙◌, subst, inl, inr, Ordering, Less, Equal, Greater, IsPermutation, IsSorted}
use Rattle.std.specs.Prelude.{Option, Some, None, option_map, is_some}
use Rattle.std.specs.List.{cons_option, dedup, dedup_from, AllByRecursion, IsDistinct}
use Rattle.std.specs.List.Sorted.{IsStrictlySortedBy}
use Rattle.std.specs.Cmp.{eq_by_cmp_equiv}
use Rattle.std.specs.Ordering.{eq_by_cmp, ordering_then}
use Rattle.std.proofs.Math.Seq.{take-suc}
use Rattle.std.proofs.lemmas.List.{map-append}
use Rattle.std.proofs.lemmas.List.Elements.{filter_map-append}
use Rattle.std.proofs.lemmas.List.Folds.{list_all-append}
use Rattle.std.proofs.lemmas.List.Kept.{IsStrictlySortedBy-dedup}
use Rattle.std.proofs.lemmas.List.Sorted.{Contains-permutation, IsPermutation-sym, IsPermutation-map}
use Rattle.std.proofs.lemmas.Map.Keys.{IsDistinct-IsPermutation, IsDistinct-head, IsDistinct-tail, IsDistinct-cons}
use Rattle.std.proofs.lemmas.Map.Lookups.{exact_bytes}
use Rattle.zone_proto.specs.Names.{Name, name_cmp, octets_cmp}
use Rattle.zone_proto.proofs.Ordering.KeyOrder.{equal_of}
use Rattle.zone_proto.proofs.Members.{In, In-Contains, Contains-In, In-map, In-from_map}
use Rattle.zone_proto.proofs.Ordering.Orders.{IsOrder}
use Rattle.zone_proto.proofs.Names.Tree.{name_order}
use Rattle.zone_denial.specs.declared.hashed_names.HashedName.{HashedName as HeldName}
use Rattle.zone_denial.specs.declared.nsec3_names.Nsec3Name.{Nsec3Name}
use Rattle.zone_denial.specs.HashedNames.{hashed, with_digests, all_hashed}
use Rattle.zone_denial.specs.Nsec3Nodes.{name_of}
use Rattle.zone_denial.specs.HashedOrder.{held_cmp, held_cmp_total, hashed_cmp_total}
use Rattle.zone_denial.specs.Nsec3Sets.{HashedName, hashed_cmp}
use Rattle.zone_denial.specs.TypeLists.{in_order}
use Rattle.zone_denial.proofs.Ascending.{Ascends, Ascends-from_sorted, sorted_from_Ascends}
use Rattle.zone_denial.proofs.InOrder.{In-in_order, In-from_in_order, in_order_ascends, ascending_same}

-- ---- the order of names by their digests

both_tied : (o p : Ordering) → ordering_then o p ≡ Equal → (o ≡ Equal) × (p ≡ Equal)
both_tied Less p e = absurd cc
both_tied Equal p e = (refl, e)
both_tied Greater p e = absurd cc

pub hashed_order : IsOrder hashed_cmp
hashed_order = record { total = hashed_cmp_total; exact = λ h k e. same h k (both_tied (octets_cmp h.digest k.digest) (name_cmp h.name k.name) e) }
  where
    same : (h k : HashedName) → (octets_cmp h.digest k.digest ≡ Equal) × (name_cmp h.name k.name ≡ Equal) → h ≡ k
    same h k e = λ i. record { digest = exact_bytes h.digest k.digest e.0 i; name = name_order.exact h.name k.name e.1 i }

-- ---- names that differ, sorted with their digests, ascend strictly

differ : (h k : HashedName) → name_cmp h.name k.name ≡ Less → eq_by_cmp hashed_cmp h k ≡ false
differ h k l = by (eq_by_cmp hashed_cmp h k) refl
  where
    by : (b : Bool) → eq_by_cmp hashed_cmp h k ≡ b → b ≡ false
    by true e = let tied = (both_tied (octets_cmp h.digest k.digest) (name_cmp h.name k.name) (equal_of (hashed_cmp h k) e)).1 in absurd cc
    by false e = refl

apart : (h : HeldName) (ks : List HeldName) → ((n : Name) → In n (map (λ (k : HeldName). name_of k.name.now) ks) → name_cmp (name_of h.name.now) n ≡ Less) → AllByRecursion (λ k. eq_by_cmp held_cmp h k ≡ false) ks
apart h [] f = tt
apart h (k ∷ ks) f = (differ (hashed h) (hashed k) (f (name_of k.name.now) (inl refl)), apart h ks (λ n i. f n (inr i)))

distinct : (hs : List HeldName) → Ascends name_cmp (map (λ (h : HeldName). name_of h.name.now) hs) → IsDistinct (eq_by_cmp held_cmp) hs
unfolding IsDistinct
distinct [] a = tt
distinct (h ∷ hs) a = IsDistinct-cons (eq_by_cmp held_cmp) h hs (apart h hs a.0) (distinct hs a.1)

dedup_none : (k : HeldName) (hs : List HeldName) → IsDistinct (eq_by_cmp held_cmp) (k ∷ hs) → dedup_from (eq_by_cmp held_cmp) k hs ≡ k ∷ hs
dedup_none k [] d = refl
dedup_none k (h ∷ hs) d =
    let other : eq_by_cmp held_cmp h k ≡ false = (eq_by_cmp_equiv held_cmp_total).symm h k ∙ (IsDistinct-head (eq_by_cmp held_cmp) k (h ∷ hs) d).0 in
    ap (λ b. cond b (dedup_from (eq_by_cmp held_cmp) k hs) (k ∷ dedup_from (eq_by_cmp held_cmp) h hs)) other
    ∙ ap (λ ks. k ∷ ks) (dedup_none h hs (IsDistinct-tail (eq_by_cmp held_cmp) k (h ∷ hs) d))

strictly : (hs : List HeldName) → IsDistinct (eq_by_cmp held_cmp) hs → IsSorted held_cmp hs → IsStrictlySortedBy held_cmp hs
strictly hs d s = subst (IsStrictlySortedBy held_cmp) (undone hs d) (IsStrictlySortedBy-dedup held_cmp_total (λ x y. refl) hs s)
  where
    undone : (hs : List HeldName) → IsDistinct (eq_by_cmp held_cmp) hs → dedup (eq_by_cmp held_cmp) hs ≡ hs
    undone [] d = refl
    undone (h ∷ hs) d = dedup_none h hs d

hashed_ascend : (hs : List HeldName) → Ascends held_cmp hs → Ascends hashed_cmp (map hashed hs)
hashed_ascend [] a = tt
hashed_ascend (h ∷ hs) a = (λ k i. let r = In-from_map hashed k hs i in ap (hashed_cmp (hashed h)) (sym r.2) ∙ a.0 r.0 r.1, hashed_ascend hs a.1)

-- ---- the names hashed so far

module _ (hash : Name → Option (List ℕ)) where
  pub record HashedSoFar (front : List Nsec3Name) (held : List HeldName) : Type 0 where
    pub digests : map hashed held ≡ with_digests hash (map name_of front)
    pub names : map (λ h. h.name.now) held ≡ front
    pub all : all_hashed hash (map name_of front) ≡ true

  pub HashedSoFar-none : HashedSoFar [] []
  HashedSoFar-none = record { digests = refl; names = refl; all = refl }

  pub HashedSoFar-more : (ns : List Nsec3Name) (i : ℕ) (held : List HeldName) (h : HeldName) (n : Nsec3Name) → i < length ns → n ≡ get_or ns i n → hash (name_of n) ≡ Some h.digest → h.name.now ≡ n
      → HashedSoFar (take i ns) held → HashedSoFar (take (suc i) ns) (held ++ h ∷ [])
  HashedSoFar-more ns i held h n lt is digest own so_far =
      subst (λ front. HashedSoFar front (held ++ h ∷ [])) (sym (take-suc ns i n lt ∙ ap (λ k. take i ns ++ k ∷ []) (sym is))) (record {
        digests =
            map-append hashed held (h ∷ [])
            ∙ (λ j. so_far.digests j ++ alone j)
            ∙ sym (filter_map-append (λ n. option_map (λ d. record { digest = d; name = n }) (hash n)) (map name_of (take i ns)) (name_of n ∷ []))
            ∙ ap (with_digests hash) (sym (map-append name_of (take i ns) (n ∷ [])));
        names = map-append (λ (h : HeldName). h.name.now) held (h ∷ []) ∙ (λ j. so_far.names j ++ own j ∷ []);
        all =
            ap (all_hashed hash) (map-append name_of (take i ns) (n ∷ []))
            ∙ list_all-append (λ n. is_some (hash n)) (map name_of (take i ns)) (name_of n ∷ [])
            ∙ (λ j. so_far.all j && (is_some (digest j) && true));
      })
    where
      alone : hashed h ∷ [] ≡ with_digests hash (name_of n ∷ [])
      alone =
          (λ j. record { digest = h.digest; name = name_of (own j) } ∷ [])
          ∙ sym (ap (λ o. cons_option (option_map (λ d. record { digest = d; name = name_of n }) o) []) digest)

  -- a name without a digest
  pub none_hashed : (ns : List Nsec3Name) (n : Nsec3Name) → In n ns → hash (name_of n) ≡ None → all_hashed hash (map name_of ns) ≡ false
  none_hashed [] n i e = absurd i
  none_hashed (k ∷ ns) n (inl s) e = ap (λ o. is_some o && all_hashed hash (map name_of ns)) (ap (λ (m : Nsec3Name). hash (name_of m)) s ∙ e)
  none_hashed (k ∷ ns) n (inr i) e = ap (λ b. is_some (hash (name_of k)) && b) (none_hashed ns n i e) ∙ last_false (is_some (hash (name_of k)))
    where
      last_false : (b : Bool) → b && false ≡ false
      last_false true = refl
      last_false false = refl

  -- ---- sorted

  module _ (ns : List Nsec3Name) (before after : List HeldName) (made : HashedSoFar ns before) (moved : IsPermutation before after) where
    pub sorted_is : IsStrictlySortedBy name_cmp (map name_of ns) → IsSorted held_cmp after → map hashed after ≡ in_order hashed_cmp (with_digests hash (map name_of ns))
    sorted_is ascend sorted =
        ascending_same hashed_order (map hashed after) (in_order hashed_cmp all) rises (in_order_ascends hashed_order all) (λ h i. In-in_order hashed_order h all (subst (In h) made.digests (carried after before (IsPermutation-sym before after moved) h i)))
        (λ h i. carried before after moved h (subst (In h) (sym made.digests) (In-from_in_order hashed_order h all i)))
      where
        all : List HashedName
        all = with_digests hash (map name_of ns)

        carried : (xs ys : List HeldName) → IsPermutation xs ys → (h : HashedName) → In h (map hashed xs) → In h (map hashed ys)
        carried xs ys p h i =
            let r = In-from_map hashed h xs i in
            subst (λ k. In k (map hashed ys)) r.2 (In-map hashed r.0 ys (Contains-In r.0 ys (Contains-permutation xs ys r.0 p (In-Contains r.0 xs r.1))))

        named : (hs : List HeldName) → map name_of (map (λ (h : HeldName). h.name.now) hs) ≡ map (λ (h : HeldName). name_of h.name.now) hs
        named [] = refl
        named (h ∷ hs) = ap (λ ks. name_of h.name.now ∷ ks) (named hs)

        apart_before : IsDistinct (eq_by_cmp held_cmp) before
        apart_before = distinct before (Ascends-from_sorted name_cmp _ (subst (IsStrictlySortedBy name_cmp) (ap (map name_of) (sym made.names) ∙ named before) ascend))

        rises : IsStrictlySortedBy hashed_cmp (map hashed after)
        rises =
            let strict = strictly after (IsDistinct-IsPermutation (eq_by_cmp held_cmp) (eq_by_cmp_equiv held_cmp_total).symm before after moved apart_before) sorted in
            sorted_from_Ascends hashed_cmp (map hashed after) (hashed_ascend after (Ascends-from_sorted held_cmp after strict))

    pub names_moved : IsPermutation ns (map (λ h. h.name.now) after)
    names_moved = subst (λ ms. IsPermutation ms (map (λ (h : HeldName). h.name.now) after)) made.names (IsPermutation-map (λ (h : HeldName). h.name.now) before after moved)

-- Groups in the order of their keys
use Rattle.std.proofs.Common.{◌≡◌, ◌<◌, ◌+◌, ℕ, zero, suc, Bool, true, false, cond, not, ◌&&◌, length, List, [], ◌∷◌, refl, sym, ap, ◌∙◌, subst, true≢false, arith, ⊎_elim, Ordering, Less, Equal, Greater}
use Rattle.std.specs.Prelude.{Some, None, filter}
use Rattle.std.specs.Cmp.{IsStrictWeakOrder, eq_by_cmp_equiv}
use Rattle.std.specs.List.{All, AllByRecursion, flat_map, slice_index_or}
use Rattle.std.specs.List.Sorted.{IsPermutation, IsSortedBy, IsStableBy, IsStrictlySortedBy, IsPartitionPoint, ties}
use Rattle.std.specs.Map.{lookup}
use Rattle.std.specs.Ordering.{is_eq, is_le, is_lt, ordering_reverse}
use Rattle.std.proofs.lemmas.Bool.{cases_lt}
use Rattle.std.proofs.lemmas.List.{nil_from_length}
use Rattle.std.proofs.lemmas.List.Elements.{All-from_recursion, recursion_from_All}
use Rattle.std.proofs.lemmas.List.Sorted.{ranks_by, sorted_far, length_permutation, All-permutation}
use Rattle.zone_proto.specs.declared.rr_key.RrKey.{RrKey}
use Rattle.zone_proto.specs.Keys.{key_cmp, key_eq}
use Rattle.zone_proto.specs.Names.{IsName}
use Rattle.zone_proto.proofs.Ordering.KeyLaws.{key_cmp_total, exact_keys}
use Rattle.zone_builder.specs.declared.given.GivenRecord.{GivenRecord}
use Rattle.zone_builder.specs.declared.groups.Group.{Group}
use Rattle.zone_builder.specs.Groups.{Groups, all_under, AreFrom, AreNamed, AreOrdered, AreSorted}
use Rattle.zone_builder.proofs.KeysFound.{entries_found}

-- a group comes before another
abbrev pub is_before : RrKey × Group → RrKey × Group → Bool
is_before x y = is_lt (key_cmp x.0 y.0)

pub is_before_ranks : IsStrictWeakOrder is_before
is_before_ranks = ranks_by key_cmp_total (λ (e : RrKey × Group). e.0)

-- ---- sorted groups

upto_of : (o : Ordering) → is_lt (ordering_reverse o) ≡ false → is_le o ≡ true
upto_of Less h = refl
upto_of Equal h = refl
upto_of Greater h = absurd (true≢false h)

all_from : (e : RrKey × Group) (es : Groups) → AllByRecursion (λ x. is_before x e ≡ false) es → AreFrom es e.0
all_from e [] h = tt
all_from e (x ∷ es) h = (upto_of (key_cmp e.0 x.0) (ap is_lt (sym (key_cmp_total.antisymm x.0 e.0)) ∙ h.0), all_from e es h.1)

pub sorted_so : (es : Groups) → IsSortedBy is_before es → AreSorted es
sorted_so [] h = tt
sorted_so (e ∷ es) h = (
  all_from e es (recursion_from_All (λ x. is_before x e ≡ false) es (λ k d within. sorted_far is_before is_before_ranks (e ∷ es) h 0 (suc k) d (omega arith) (omega arith))),
  sorted_so es (λ k d low within.
      let next : suc k + 1 ≡ suc (k + 1) = omega arith in
      subst (λ n. is_before (slice_index_or (e ∷ es) n d) (slice_index_or es k d) ≡ false) next (h (suc k) d (omega arith) (omega arith))),
)

-- ---- those under one key are the same, in the same order

module _ (part : Group → List GivenRecord) where
  tied : (o : Ordering) → is_eq (ordering_reverse o) ≡ (not (is_lt o) && not (is_lt (ordering_reverse o)))
  tied Less = refl
  tied Equal = refl
  tied Greater = refl

  tied_at : (k : RrKey) (g : Group) (e : RrKey × Group) → key_eq e.0 k ≡ ties is_before (k, g) e
  tied_at k g e =
      ap is_eq (key_cmp_total.antisymm e.0 k) ∙ tied (key_cmp k e.0)
      ∙ ap (λ o. not (is_lt (key_cmp k e.0)) && not (is_lt o)) (sym (key_cmp_total.antisymm e.0 k))

  alike : (k : RrKey) (g : Group) (es : Groups) → filter (λ (e : RrKey × Group). key_eq e.0 k) es ≡ filter (ties is_before (k, g)) es
  alike k g es = ap (λ (test : RrKey × Group → Bool). filter test es) (λ i e. tied_at k g e i)

  pub under_sorted : (xs ys : Groups) → IsPermutation xs ys → IsStableBy is_before xs ys → (k : RrKey) → all_under part ys k ≡ all_under part xs k
  under_sorted [] ys same stable k = ap (λ es. all_under part es k) (nil_from_length ys (length_permutation [] ys same))
  under_sorted (x ∷ xs) ys same stable k =
      ap (flat_map (λ (e : RrKey × Group). part e.1)) (alike k x.1 ys ∙ stable (k, x.1) ∙ sym (alike k x.1 (x ∷ xs)))

-- ---- they are named

entries_named : (es : Groups) → AreNamed es → AllByRecursion (λ (e : RrKey × Group). IsName e.0.name) es
entries_named [] h = tt
entries_named (e ∷ es) h = (h.0, entries_named es h.1)

keys_named : (es : Groups) → AllByRecursion (λ (e : RrKey × Group). IsName e.0.name) es → AreNamed es
keys_named [] h = tt
keys_named (e ∷ es) h = (h.0, keys_named es h.1)

pub named_sorted : (xs ys : Groups) → IsPermutation xs ys → AreNamed xs → AreNamed ys
named_sorted xs ys same h =
    keys_named ys (recursion_from_All (λ (e : RrKey × Group). IsName e.0.name) ys
    (All-permutation (λ (e : RrKey × Group). IsName e.0.name) xs ys same (All-from_recursion (λ (e : RrKey × Group). IsName e.0.name) xs (entries_named xs h))))

-- ---- a search by key

pub searchable : (es : Groups) → AreOrdered es → IsSortedBy is_before es
unfolding IsStrictlySortedBy
searchable [] s k d low within = absurd (omega arith)
searchable (e ∷ []) s k d low within = absurd (omega arith)
searchable (e ∷ f ∷ es) s zero d low within = ap is_lt (key_cmp_total.antisymm f.0 e.0 ∙ ap ordering_reverse s.0.0)
searchable (e ∷ f ∷ es) s (suc k) d low within =
    let next : suc (k + 1) ≡ suc k + 1 = omega arith in
    subst (λ n. is_before (slice_index_or (e ∷ f ∷ es) n d) (slice_index_or (f ∷ es) k d) ≡ false) next (searchable (f ∷ es) s.1 k d (omega arith) (omega arith))

pub found_at : (es : Groups) (k : RrKey) (i : ℕ) (d : RrKey × Group) → AreOrdered es → i < length es → key_cmp (slice_index_or es i d).0 k ≡ Equal
    → Some (slice_index_or es i d).1 ≡ lookup (key_eq k) es
found_at es k i d s within h =
    sym (All-from_recursion (λ (e : RrKey × Group). lookup (key_eq e.0) es ≡ Some e.1) es (entries_found es s) i d within)
    ∙ ap (λ q. lookup (key_eq q) es) (exact_keys (slice_index_or es i d).0 k h)

pub found_nowhere : (es : Groups) (k : RrKey) → All (λ (e : RrKey × Group). key_eq k e.0 ≡ false) es → lookup (key_eq k) es ≡ None
found_nowhere es k h = by es (recursion_from_All (λ (e : RrKey × Group). key_eq k e.0 ≡ false) es h)
  where
    by : (es : Groups) → AllByRecursion (λ (e : RrKey × Group). key_eq k e.0 ≡ false) es → lookup (key_eq k) es ≡ None
    by [] h = refl
    by (e ∷ es) h = ap (λ b. cond b (Some e.1) (lookup (key_eq k) es)) h.0 ∙ by es h.1

pub found_elsewhere : (es : Groups) (k : RrKey) (i : ℕ) → IsPartitionPoint (λ (e : RrKey × Group). key_cmp e.0 k ≡ Less) (λ (e : RrKey × Group). key_cmp e.0 k ≡ Greater) es i
    → lookup (key_eq k) es ≡ None
found_elsewhere es k i parted =
    found_nowhere es k (λ j d within.
    (eq_by_cmp_equiv key_cmp_total).symm k (slice_index_or es j d).0
    ∙ ⊎_elim (λ low. ap is_eq (parted.0 j d (omega arith) low)) (λ high. ap is_eq (parted.1 j d high within)) (cases_lt j i))

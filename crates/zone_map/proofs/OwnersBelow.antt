-- Whether an owner is at or below a name: the first one that isn't before the name tells
use Rattle.std.proofs.Common.{◌≡◌, ◌↔◌, ◌&&◌, ◌||◌, Bool, true, false, cond, List, [], ◌∷◌, refl, sym, ap, ◌∙◌, true≢false, subst, ◌⊎◌, inl, inr, ℕ, Less, IsTrue}
use Rattle.std.specs.Prelude.{filter}
use Rattle.std.specs.BTreeMap.Range.{range_contains}
use Rattle.std.specs.Cmp.{both_ways}
use Rattle.std.specs.List.{list_any, AllByRecursion}
use Rattle.std.specs.List.Sorted.{IsStrictlySortedBy}
use Rattle.std.specs.declared.ops.Bound.TheVariants.{Included, Unbounded}
use Rattle.std.proofs.lemmas.Map.Keys.{sorted_head, sorted_tail}
use Rattle.zone_proto.specs.Names.{Name, name_cmp, is_at_or_above, IsAbove, IsAtOrAbove}
use Rattle.zone_proto.specs.Order.{is_upto}
use Rattle.zone_proto.proofs.Names.NameTree.{above_is_less, is_at_or_above_sound, is_at_or_above_complete}
use Rattle.zone_proto.proofs.Ordering.Orders.{upto_before, upto_same}
use Rattle.zone_proto.proofs.Names.Tree.{name_order, above_cases, together}
use Rattle.zone_map.specs.DenialOwners.{denial_owners}
use Rattle.zone_map.specs.Upserts.{is_denial_type}
use Rattle.zone_map.specs.Zones.{Sets, owners, IsZone}
use Rattle.zone_map.proofs.Lists.{owners_ascend}

-- the owners that aren't before a name
abbrev pub owners_from : Name → List Name → List Name
owners_from n names = filter (range_contains name_cmp (Included n) Unbounded) names

-- whether the first of them is at or below it
abbrev pub first_is_below : Name → List Name → Bool
first_is_below n [] = false
first_is_below n (o ∷ os) = is_at_or_above n o

-- a name that comes before n isn't below it
before_not_below : (n o : Name) → is_upto name_cmp n o ≡ false → is_at_or_above n o ≡ false
before_not_below n o h = by (is_at_or_above n o) refl
  where
    upto : (n ≡ o) ⊎ IsAbove n o → is_upto name_cmp n o ≡ true
    upto (inl e) = upto_same name_order n o e
    upto (inr r) = upto_before name_order n o (above_is_less n o r)

    by : (b : Bool) → is_at_or_above n o ≡ b → b ≡ false
    by true g = absurd (true≢false (sym (upto (above_cases n o (is_at_or_above_sound n o g))) ∙ h))
    by false g = refl

-- where an owner that isn't before n isn't below it, no later one is
none_later : (n o : Name) (os : List Name) → is_upto name_cmp n o ≡ true → is_at_or_above n o ≡ false → AllByRecursion (λ k. name_cmp o k ≡ Less) os → list_any (is_at_or_above n) os ≡ false
none_later n o [] h g a = refl
none_later n o (k ∷ ks) h g a = ap (λ b. b || list_any (is_at_or_above n) ks) (by (is_at_or_above n k) refl) ∙ none_later n o ks h g a.1
  where
    by : (b : Bool) → is_at_or_above n k ≡ b → b ≡ false
    by true i =
        let above = together n o k h (upto_before name_order o k a.0) (is_at_or_above_sound n k i) in
        absurd (true≢false (sym (is_at_or_above_complete n o above) ∙ g))
    by false i = refl

below_is_first : (n : Name) (names : List Name) → IsStrictlySortedBy name_cmp names → list_any (is_at_or_above n) names ≡ first_is_below n (owners_from n names)
below_is_first n [] s = refl
below_is_first n (o ∷ os) s = by (is_upto name_cmp n o) refl (below_is_first n os (sorted_tail name_cmp o os s))
  where
    here : is_upto name_cmp n o ≡ true → (b : Bool) → is_at_or_above n o ≡ b → b || list_any (is_at_or_above n) os ≡ b
    here h true g = refl
    here h false g = none_later n o os h g (sorted_head name_cmp o os s)

    by : (b : Bool) → is_upto name_cmp n o ≡ b → list_any (is_at_or_above n) os ≡ first_is_below n (owners_from n os)
        → is_at_or_above n o || list_any (is_at_or_above n) os ≡ first_is_below n (cond (b && true) (o ∷ owners_from n os) (owners_from n os))
    by true h ih = here h (is_at_or_above n o) refl
    by false h ih = ap (λ b. b || list_any (is_at_or_above n) os) (before_not_below n o h) ∙ ih

-- the owners of a type of denial ascend
pub listed_ascend : (m : Sets) (t : ℕ) (entries : Sets) → entries ≡ m → IsZone entries → IsStrictlySortedBy name_cmp (denial_owners m t)
unfolding IsStrictlySortedBy
listed_ascend m t entries same zone = by (is_denial_type t)
  where
    by : (b : Bool) → IsStrictlySortedBy name_cmp (cond b (owners m t) [])
    by true = owners_ascend m t (subst IsZone same zone).ordered
    by false = tt

-- what is read of the owners tells
module _ (n : Name) (keys names read : List Name) (same : keys ≡ names) (sorted : IsStrictlySortedBy name_cmp names) (is : read ≡ owners_from n keys) where
  whole : list_any (is_at_or_above n) names ≡ first_is_below n read
  whole = below_is_first n names sorted ∙ ap (λ os. first_is_below n (owners_from n os)) (sym same) ∙ ap (first_is_below n) (sym is)

  pub none_tells : read ≡ [] → false ≡ list_any (is_at_or_above n) names
  none_tells e = sym (whole ∙ ap (first_is_below n) e)

  pub first_tells : (o : Name) (rest : List Name) (b : Bool) → read ≡ o ∷ rest → IsTrue b ↔ IsAtOrAbove n o → b ≡ list_any (is_at_or_above n) names
  first_tells o rest b f both =
      both_ways b (is_at_or_above n o) (λ t. is_at_or_above_complete n o (both.0 t)) (λ t. both.1 (is_at_or_above_sound n o t)) ∙ sym (whole ∙ ap (first_is_below n) f)

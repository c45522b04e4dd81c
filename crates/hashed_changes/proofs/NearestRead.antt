-- Owners are read back, up to the nearest that is none of some
use Rattle.std.proofs.Common.{◌≡◌, Bool, true, false, not, ◌&&◌, List, [], ◌∷◌, ◌++◌, refl, sym, ap, ◌∙◌, subst, inl, inr}
use Rattle.std.specs.Prelude.{Option, Some, None, filter}
use Rattle.std.specs.Option.{option_or}
use Rattle.std.specs.List.Sorted.{IsStrictlySortedBy}
use Rattle.std.proofs.lemmas.List.{append-nil, append_assoc}
use Rattle.zone_proto.specs.Names.{Name, name_cmp}
use Rattle.zone_proto.specs.Order.{is_before, greatest}
use Rattle.zone_proto.specs.Types.{NSEC3}
use Rattle.zone_proto.proofs.Names.Tree.{name_order}
use Rattle.zone_map.specs.DenialOwners.{denial_owners, denial_owners_before}
use Rattle.zone_map.specs.Zones.{Sets, owners, IsZone}
use Rattle.zone_map.proofs.Lists.{owners_ascend}
use Rattle.zone_denial.proofs.Ascending.{Ascends, Ascends-filter, Ascends-from_sorted, sorted_from_Ascends}
use Rattle.zone_denial.proofs.ReadBack.{NonePass, filter_same, filter_twice, none_greatest, found_greatest}
use Rattle.hashed_changes.specs.Among.{is_among}
use Rattle.hashed_changes.specs.Around.{nearest_around}
use Rattle.hashed_changes.specs.Renewal.{owners_besides}

module _ (some all : List Name) where
  abbrev is_other : Name → Bool
  is_other o = not (is_among some o)

  -- some owners are left, and of the others none is another than these
  pub record AreRead (left : List Name) : Type 0 where
    pub read : List Name
    pub split : all ≡ left ++ read
    pub none : NonePass name_order is_other read

  pub none_read : AreRead all
  none_read = record { read = []; split = sym (append-nil all); none = λ y i. absurd i }

  module _ (sorted : IsStrictlySortedBy name_cmp all) (left : List Name) (r : AreRead left) where
    pub none_nearest : left ≡ [] → None ≡ greatest name_cmp (filter is_other all)
    none_nearest empty =
        let whole : all ≡ r.read = r.split ∙ ap (λ (os : List Name). os ++ r.read) empty in
        sym (none_greatest name_order is_other all (subst (NonePass name_order is_other) (sym whole) r.none))

    module _ (front : List Name) (o : Name) (last : left ≡ front ++ o ∷ []) where
      parts : all ≡ front ++ o ∷ r.read
      parts = r.split ∙ ap (λ (os : List Name). os ++ r.read) last ∙ append_assoc front (o ∷ []) r.read

      pub last_nearest : not (is_among some o) ≡ true → Some o ≡ greatest name_cmp (filter is_other all)
      last_nearest on =
          sym (ap (λ (os : List Name). greatest name_cmp (filter is_other os)) parts
          ∙ found_greatest name_order is_other front r.read o (subst (Ascends name_cmp) parts (Ascends-from_sorted name_cmp all sorted)) r.none on)

      pub one_read : not (is_among some o) ≡ false → AreRead front
      one_read off = record { read = o ∷ r.read; split = parts; none = none }
        where
          none : NonePass name_order is_other (o ∷ r.read)
          none y (inl e) = ap is_other (sym e) ∙ off
          none y (inr i) = r.none y i

-- ---- the two lists

filters_swap : {A : Type 0} (p q : A → Bool) (xs : List A) → filter q (filter p xs) ≡ filter p (filter q xs)
filters_swap p q xs = filter_twice p q xs ∙ filter_same (λ x. p x && q x) (λ x. q x && p x) xs (λ x i. swap (p x) (q x)) ∙ sym (filter_twice q p xs)
  where
    swap : (a b : Bool) → a && b ≡ b && a
    swap true true = refl
    swap true false = refl
    swap false true = refl
    swap false false = refl

module _ (m : Sets) (some : List Name) (n : Name) where
  pub before_ascend : (os : List Name) → IsZone m → os ≡ denial_owners_before m NSEC3 n → IsStrictlySortedBy name_cmp os
  before_ascend os zone e =
      subst (IsStrictlySortedBy name_cmp) (sym e)
      (sorted_from_Ascends name_cmp (denial_owners_before m NSEC3 n) (Ascends-filter name_cmp (λ o. is_before name_cmp o n) (owners m NSEC3) (Ascends-from_sorted name_cmp (owners m NSEC3) (owners_ascend m NSEC3 zone.ordered))))

  pub all_ascend : (os : List Name) → IsZone m → os ≡ denial_owners m NSEC3 → IsStrictlySortedBy name_cmp os
  all_ascend os zone e = subst (IsStrictlySortedBy name_cmp) (sym e) (owners_ascend m NSEC3 zone.ordered)

  abbrev first : Option Name
  first = greatest name_cmp (filter (λ o. is_before name_cmp o n) (owners_besides m some))

  same_first : (os : List Name) → os ≡ denial_owners_before m NSEC3 n → greatest name_cmp (filter (λ o. not (is_among some o)) os) ≡ first
  same_first os e =
      ap (λ (xs : List Name). greatest name_cmp (filter (λ o. not (is_among some o)) xs)) e
      ∙ ap (greatest name_cmp) (filters_swap (λ o. is_before name_cmp o n) (λ o. not (is_among some o)) (owners m NSEC3))

  pub earlier : (os : List Name) (o : Name) → os ≡ denial_owners_before m NSEC3 n → Some o ≡ greatest name_cmp (filter (λ a. not (is_among some a)) os) → Some o ≡ nearest_around name_cmp (owners_besides m some) n
  earlier os o e h = ap (λ (p : Option Name). option_or p (greatest name_cmp (owners_besides m some))) (h ∙ same_first os e)

  pub around : (os xs : List Name) (p : Option Name) → os ≡ denial_owners_before m NSEC3 n → None ≡ greatest name_cmp (filter (λ a. not (is_among some a)) os)
      → xs ≡ denial_owners m NSEC3 → p ≡ greatest name_cmp (filter (λ a. not (is_among some a)) xs) → p ≡ nearest_around name_cmp (owners_besides m some) n
  around os xs p e h f k =
      k
      ∙ ap (λ (ys : List Name). greatest name_cmp (filter (λ a. not (is_among some a)) ys)) f
      ∙ ap (λ (q : Option Name). option_or q (greatest name_cmp (owners_besides m some))) (h ∙ same_first os e)

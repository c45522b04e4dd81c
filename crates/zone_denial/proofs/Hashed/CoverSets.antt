-- The owners of NSEC3 are read from a hashed owner back, to the one whose set covers, or matches or covers
use Rattle.std.proofs.Common.{◌≡◌, ℕ, Bool, true, false, true≢false, ◌⊎◌, inl, inr, Ordering, Less, Equal, Greater, cond, List, [], ◌∷◌, ◌++◌, length, refl, sym, ap, ◌∙◌, subst, Bor}
use Rattle.std.specs.Prelude.{Option, Some, None, filter_map, is_some, option_copied, option_to_list}
use Rattle.std.specs.Map.Iter.{TakesLast, deref}
use Rattle.std.specs.List.{cons_option}
use Rattle.std.specs.Option.{option_or}
use Rattle.zone_proto.specs.Names.{Name, name_cmp}
use Rattle.std.specs.Ordering.{is_lt, is_le}
use Rattle.zone_proto.specs.Order.{is_before, is_upto, greatest}
use Rattle.zone_proto.specs.Sets.{RRset}
use Rattle.zone_proto.specs.Types.{NSEC3}
use Rattle.zone_proto.proofs.Members.{In, In-filter, In-from_filter}
use Rattle.zone_proto.proofs.Ordering.Orders.{irrefl, asym, upto_same, upto_cases, greatest_from}
use Rattle.zone_proto.proofs.Names.Tree.{name_order}
use Rattle.zone_map.specs.Counts.{one_more, counted_more}
use Rattle.zone_map.specs.DenialOwners.{denial_owners, denial_owners_upto, denial_owners_before}
use Rattle.zone_map.specs.Zones.{Sets, set_at, owns, owners, IsZone}
use Rattle.zone_map.proofs.Lists.{owners_ascend}
use Rattle.zone_map.proofs.Owned.{owner_in, owner_owned}
use Rattle.zone_denial.specs.Nsec3Denial.{match_owner, cover_owner}
use Rattle.zone_denial.proofs.Ascending.{Ascends, Ascends-filter, Ascends-from_sorted}
use Rattle.zone_denial.proofs.ReadBack.{filter_same, greatest_last}

module _ (m : Sets) (zone : IsZone m) (h : Name) where
  owners_in_order : Ascends name_cmp (owners m NSEC3)
  owners_in_order = Ascends-from_sorted name_cmp (owners m NSEC3) (owners_ascend m NSEC3 zone.ordered)

  -- the last one before the hashed owner
  pub cover_before : (front : List Name) (o : Name) → denial_owners_before m NSEC3 h ≡ front ++ o ∷ [] → Some o ≡ cover_owner m h
  cover_before front o last =
      sym (ap (λ g. option_or g (greatest name_cmp (owners m NSEC3))) (ap (greatest name_cmp) last ∙ greatest_last name_order front o ascends))
    where
      ascends : Ascends name_cmp (front ++ o ∷ [])
      ascends = subst (Ascends name_cmp) last (Ascends-filter name_cmp (λ o. is_before name_cmp o h) (owners m NSEC3) owners_in_order)

  -- else the last one of all, if there is one
  module _ (none : denial_owners_before m NSEC3 h ≡ []) where
    cover_all : cover_owner m h ≡ greatest name_cmp (owners m NSEC3)
    cover_all = ap (λ os. option_or (greatest name_cmp os) (greatest name_cmp (owners m NSEC3))) none

    pub cover_round : (r : Option (Bor Name)) (front : List Name) → TakesLast deref (denial_owners m NSEC3) r front → option_copied r ≡ cover_owner m h
    cover_round None front last = sym (cover_all ∙ ap (greatest name_cmp) last.0)
    cover_round (Some o) front last = sym (cover_all ∙ ap (greatest name_cmp) last ∙ greatest_last name_order front o.now (subst (Ascends name_cmp) last owners_in_order))

  -- the last one that isn't after the hashed owner matches or covers
  upto_owned : owns m h NSEC3 ≡ true → In h (denial_owners_upto m NSEC3 h)
  upto_owned owned = In-filter (λ o. is_upto name_cmp o h) h (owners m NSEC3) (owner_in m h NSEC3 owned) (upto_same name_order h h refl)

  upto_is_before : owns m h NSEC3 ≡ false → denial_owners_upto m NSEC3 h ≡ denial_owners_before m NSEC3 h
  upto_is_before none = filter_same (λ o. is_upto name_cmp o h) (λ o. is_before name_cmp o h) (owners m NSEC3) (λ o i. by o i (name_cmp o h) refl)
    where
      by : (o : Name) → In o (owners m NSEC3) → (r : Ordering) → name_cmp o h ≡ r → is_le r ≡ is_lt r
      by o i Less e = refl
      by o i Equal e = absurd (true≢false (sym (owner_owned m o NSEC3 i) ∙ ap (λ n. owns m n NSEC3) (name_order.exact o h e) ∙ none))
      by o i Greater e = refl

  pub matched_or_covered : (front : List Name) (o : Name) → denial_owners_upto m NSEC3 h ≡ front ++ o ∷ [] → Some o ≡ option_or (match_owner m h) (cover_owner m h)
  matched_or_covered front o last = by (owns m h NSEC3) refl
    where
      ascends : Ascends name_cmp (front ++ o ∷ [])
      ascends = subst (Ascends name_cmp) last (Ascends-filter name_cmp (λ o. is_upto name_cmp o h) (owners m NSEC3) owners_in_order)

      none_after : (y : Name) → (y ≡ h) ⊎ (name_cmp y h ≡ Less) → name_cmp h y ≡ Less → ⊥
      none_after y (inl e) l = irrefl name_order h (ap (name_cmp h) (sym e) ∙ l)
      none_after y (inr k) l = asym name_order h y l k

      greatest_is_h : owns m h NSEC3 ≡ true → greatest name_cmp (denial_owners_upto m NSEC3 h) ≡ Some h
      greatest_is_h owned = greatest_from name_order (denial_owners_upto m NSEC3 h) h (record {
        among = upto_owned owned;
        none_greater = λ y i. none_after y (upto_cases name_order y h (In-from_filter (λ o. is_upto name_cmp o h) y (owners m NSEC3) i).1);
      })

      by : (b : Bool) → owns m h NSEC3 ≡ b → Some o ≡ option_or (cond b (Some h) None) (cover_owner m h)
      by true owned = sym (ap (greatest name_cmp) last ∙ greatest_last name_order front o ascends) ∙ greatest_is_h owned
      by false none = cover_before front o (sym (upto_is_before none) ∙ last)

  pub none_matched : denial_owners_upto m NSEC3 h ≡ [] → match_owner m h ≡ None
  none_matched empty = by (owns m h NSEC3) refl
    where
      by : (b : Bool) → owns m h NSEC3 ≡ b → cond b (Some h) None ≡ None
      by true owned = absurd (subst (In h) empty (upto_owned owned))
      by false none = refl

-- the set of an owner, as a list
pub set_of_one : (m : Sets) (o : Name) → option_to_list (set_at m o NSEC3) ≡ filter_map (λ o. set_at m o NSEC3) (o ∷ [])
set_of_one m o = by (set_at m o NSEC3)
  where
    by : (s : Option RRset) → option_to_list s ≡ cons_option s []
    by None = refl
    by (Some s) = refl

-- an owner that is read counts, and there is no other read
pub cover_counted : (r : Option (Bor Name)) (cover : Option Name) (before now : ℕ) → option_copied r ≡ cover → now ≡ cond (is_some r) (one_more before) before → now ≡ counted_more (length (option_to_list cover)) before
cover_counted r cover before now e counts = counts ∙ by r ∙ ap (λ o. counted_more (length (option_to_list o)) before) e
  where
    by : (r : Option (Bor Name)) → cond (is_some r) (one_more before) before ≡ counted_more (length (option_to_list (option_copied r))) before
    by None = refl
    by (Some o) = refl

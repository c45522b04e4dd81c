-- A list that was trimmed is the same when it is trimmed again
use Rattle.std.proofs.Common.{◌≡◌, ℕ, Bool, true, false, not, ◌&&◌, ◌||◌, cond, List, [], ◌∷◌, map, refl, sym, ap, ◌∙◌, true≢false, eqb-true}
use Rattle.std.specs.Prelude.{filter, ◌==◌}
use Rattle.std.specs.Cmp.{both_ways}
use Rattle.std.specs.List.{list_any}
use Rattle.zone_proto.specs.declared.record_type.RecordType.{RecordType}
use Rattle.zone_proto.specs.Types.{NS, CNAME, SOA, DS, RRSIG, NSEC, NSEC3}
use Rattle.zone_proto.proofs.Members.{In-filter, In-from_filter, In-from_any, any_from_In, and_right, not_true}
use Rattle.zone_denial.proofs.ReadBack.{filter_all}
use Rattle.zone_trimming.specs.Trimming.{has_type, is_of_delegation, stays_listed, trimmed_types}

-- a filter leaves what a test passes that passes the filter's
kept_any : {A : Type 0} (p q : A → Bool) (xs : List A) → ((x : A) → q x ≡ true → p x ≡ true) → list_any q (filter p xs) ≡ list_any q xs
kept_any p q xs h = both_ways (list_any q (filter p xs)) (list_any q xs) to from
  where
    to : list_any q (filter p xs) ≡ true → list_any q xs ≡ true
    to e = let r = In-from_any q (filter p xs) e in any_from_In q r.0 xs (In-from_filter p r.0 xs r.1).0 r.2

    from : list_any q xs ≡ true → list_any q (filter p xs) ≡ true
    from e = let r = In-from_any q xs e in any_from_In q r.0 (filter p xs) (In-filter p r.0 xs r.1 (h r.0 r.2)) r.2

-- and no more
none_left : {A : Type 0} (p q : A → Bool) (xs : List A) → list_any q xs ≡ false → list_any q (filter p xs) ≡ list_any q xs
none_left p q xs h = both_ways (list_any q (filter p xs)) (list_any q xs) to (λ e. absurd (true≢false (sym e ∙ h)))
  where
    to : list_any q (filter p xs) ≡ true → list_any q xs ≡ true
    to e = let r = In-from_any q (filter p xs) e in any_from_In q r.0 xs (In-from_filter p r.0 xs r.1).0 r.2

module _ (ts : List RecordType) where
  abbrev kept : List RecordType
  kept = filter (λ (t : RecordType). stays_listed ts t.0) ts

  same_has : (u : ℕ) → stays_listed ts u ≡ true → has_type kept u ≡ has_type ts u
  same_has u h = kept_any (λ (t : RecordType). stays_listed ts t.0) (λ (t : RecordType). t.0 == u) ts (λ t e. ap (stays_listed ts) (eqb-true t.0 u e) ∙ h)

  same_stays : (u : ℕ) → stays_listed kept u ≡ stays_listed ts u
  same_stays u = λ i. (u == NS) || ((u == CNAME) || ((u == DS) || ((u == NSEC) || ((u == NSEC3) || ((u == RRSIG) && (same_has DS refl i || same_has NSEC refl i))))))

  module _ (cuts : is_of_delegation ts ≡ true) where
    still_cuts : is_of_delegation kept ≡ true
    still_cuts =
        (λ i. same_has NS refl i && not (none_left (λ (t : RecordType). stays_listed ts t.0) (λ (t : RecordType). t.0 == SOA) ts (not_true (has_type ts SOA) (and_right (has_type ts NS) (not (has_type ts SOA)) cuts)) i))
        ∙ cuts

    kept_again : trimmed_types kept ≡ kept
    kept_again =
        ap (λ b. cond b (filter (λ (t : RecordType). stays_listed kept t.0) kept) kept) still_cuts
        ∙ filter_all (λ (t : RecordType). stays_listed kept t.0) kept (λ t i. same_stays t.0 ∙ (In-from_filter (λ (x : RecordType). stays_listed ts x.0) t ts i).1)

  pub trimmed_again : trimmed_types (trimmed_types ts) ≡ trimmed_types ts
  trimmed_again = by (is_of_delegation ts) refl
    where
      is : (b : Bool) → is_of_delegation ts ≡ b → trimmed_types ts ≡ cond b kept ts
      is b e = ap (λ c. cond c kept ts) e

      by : (b : Bool) → is_of_delegation ts ≡ b → trimmed_types (trimmed_types ts) ≡ trimmed_types ts
      by true e = ap trimmed_types (is true e) ∙ kept_again e ∙ sym (is true e)
      by false e = ap trimmed_types (is false e)

-- ---- lists and the numbers of their types

abbrev pub typed : List ℕ → List RecordType
typed ts = map (λ (t : ℕ). record { 0 = t }) ts

pub typed_back : (ts : List RecordType) → typed (map (λ (t : RecordType). t.0) ts) ≡ ts
typed_back [] = refl
typed_back (t ∷ ts) = ap (λ (us : List RecordType). t ∷ us) (typed_back ts)

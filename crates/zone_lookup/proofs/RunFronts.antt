-- A run searches the longest front of the names along targets in which no name comes twice and none was seen before
use Rattle.std.proofs.Common.{◌≡◌, ℕ, zero, suc, ◌≤◌, arith, Bool, true, false, ◌&&◌, ◌||◌, not, List, [], ◌∷◌, ◌++◌, length, refl, sym, ap, ◌∙◌, true≢false}
use Rattle.std.specs.Prelude.{Option, Some, None}
use Rattle.std.specs.List.{list_any, AllByRecursion, IsDistinct}
use Rattle.zone_proto.specs.Names.{Name, name_eq}
use Rattle.zone_proto.proofs.Members.{and_left, and_right}
use Rattle.zone_map.specs.Chains.{are_distinct}
use Rattle.zone_map.proofs.Chains.{names_equiv}
use Rattle.zone_lookup.specs.Additionals.{leads_to}
use Rattle.zone_lookup.specs.AdditionalLaws.{are_new, RunIsLongestFront}
use Rattle.zone_lookup.specs.Runs.{AreSearched, along}
use Rattle.zone_lookup.proofs.Paths.{searched_distinct, searched_unseen}

neither : (a b : Bool) → a || b ≡ false → (a ≡ false) × (b ≡ false)
neither true b e = absurd (true≢false e)
neither false b e = (refl, e)

not_either : (a b : Bool) → a ≡ false → b ≡ false → a || b ≡ false
not_either a b e f = ap (λ x. x || b) e ∙ f

is_false : (a : Bool) → not a ≡ true → a ≡ false
is_false true e = absurd (true≢false (sym e))
is_false false e = refl

both_hold : (a b : Bool) → a ≡ true → b ≡ true → a && b ≡ true
both_hold a b e f = ap (λ x. x && b) e ∙ f

-- a name that isn't in a list, nor the one that is pushed
not_in_pushed : (n y : Name) (seen : List Name) → list_any (name_eq n) seen ≡ false → name_eq n y ≡ false → list_any (name_eq n) (seen ++ y ∷ []) ≡ false
not_in_pushed n y [] e f = not_either (name_eq n y) false f refl
not_in_pushed n y (x ∷ seen) e f =
    let both = neither (name_eq n x) (list_any (name_eq n) seen) e in
    not_either (name_eq n x) (list_any (name_eq n) (seen ++ y ∷ [])) both.0 (not_in_pushed n y seen both.1 f)

-- the same for all names of a list
none_in_pushed : (y : Name) (seen names : List Name) → list_any (λ n. list_any (name_eq n) seen) names ≡ false → list_any (name_eq y) names ≡ false → list_any (λ n. list_any (name_eq n) (seen ++ y ∷ [])) names ≡ false
none_in_pushed y seen [] e f = refl
none_in_pushed y seen (n ∷ names) e f =
    let new = neither (list_any (name_eq n) seen) (list_any (λ x. list_any (name_eq x) seen) names) e in
    let other = neither (name_eq y n) (list_any (name_eq y) names) f in
    not_either (list_any (name_eq n) (seen ++ y ∷ [])) (list_any (λ x. list_any (name_eq x) (seen ++ y ∷ [])) names)
    (not_in_pushed n y seen new.0 (names_equiv.symm n y ∙ other.0)) (none_in_pushed y seen names new.1 other.1)

none_seen : (seen names : List Name) → AllByRecursion (λ n. list_any (name_eq n) seen ≡ false) names → list_any (λ n. list_any (name_eq n) seen) names ≡ false
none_seen seen [] a = refl
none_seen seen (n ∷ names) (e, a) = not_either (list_any (name_eq n) seen) (list_any (λ x. list_any (name_eq x) seen) names) e (none_seen seen names a)

not_among : (n : Name) (names : List Name) → AllByRecursion (λ y. name_eq n y ≡ false) names → list_any (name_eq n) names ≡ false
not_among n [] a = refl
not_among n (y ∷ names) (e, a) = not_either (name_eq n y) (list_any (name_eq n) names) e (not_among n names a)

no_two_equal : (names : List Name) → IsDistinct name_eq names → are_distinct names ≡ true
unfolding IsDistinct
no_two_equal [] d = refl
no_two_equal (n ∷ names) (a, d) = both_hold (not (list_any (name_eq n) names)) (are_distinct names) (ap not (not_among n names a)) (no_two_equal names d)

module _ (next : Name → Option Name) where
  is_front : (seen : List Name) (p : Option Name) (names : List Name) (k : ℕ) → AreSearched name_eq next seen p names → length names ≤ k → (rest : List Name) × (along next k p ≡ names ++ rest)
  is_front seen p [] k s h = (along next k p, refl)
  is_front seen p (n ∷ names) zero s h = absurd (omega arith)
  is_front seen p (n ∷ names) (suc k) (e, f, s) h =
      let r = is_front (seen ++ n ∷ []) (next n) names k s (omega arith) in
      (r.0, ap (along next (suc k)) e ∙ ap (λ w. n ∷ w) r.1)

  passes : (seen : List Name) (p : Option Name) (names : List Name) → AreSearched name_eq next seen p names → are_new seen names ≡ true
  passes seen p names s =
      both_hold (are_distinct names) (not (list_any (λ n. list_any (name_eq n) seen) names))
      (no_two_equal names (searched_distinct names_equiv next seen p names s))
      (ap not (none_seen seen names (searched_unseen names_equiv next seen p names s)))

  longest : (seen : List Name) (p : Option Name) (names other rest : List Name) (k : ℕ) → AreSearched name_eq next seen p names → along next k p ≡ other ++ rest → are_distinct other ≡ true
      → list_any (λ n. list_any (name_eq n) seen) other ≡ false → length other ≤ length names
  longest seen p names [] rest k s e d u = omega arith
  longest seen p names (x ∷ other) rest zero s e d u = absurd cc
  longest seen None names (x ∷ other) rest (suc k) s e d u = absurd cc
  longest seen (Some n) [] (x ∷ other) rest (suc k) s e d u =
      let same : n ≡ x = cc in
      absurd (true≢false (sym s ∙ ap (λ y. list_any (name_eq y) seen) same ∙ (neither (list_any (name_eq x) seen) (list_any (λ y. list_any (name_eq y) seen) other) u).0))
  longest seen (Some n) (y ∷ names) (x ∷ other) rest (suc k) (q, f, s) e d u =
      let same : x ≡ y = cc in
      let follows : along next k (next n) ≡ other ++ rest = cc in
      let started : n ≡ y = cc in
      let alone : list_any (name_eq x) other ≡ false = is_false (list_any (name_eq x) other) (and_left (not (list_any (name_eq x) other)) (are_distinct other) d) in
      let new = (neither (list_any (name_eq x) seen) (list_any (λ z. list_any (name_eq z) seen) other) u).1 in
      let h : length other ≤ length names =
      longest (seen ++ y ∷ []) (next y) names other rest k s (sym (ap (λ z. along next k (next z)) started) ∙ follows) (and_right (not (list_any (name_eq x) other)) (are_distinct other) d)
      (none_in_pushed y seen other new (sym (ap (λ z. list_any (name_eq z) other) same) ∙ alone)) in
      omega arith

pub run_is_longest_front : RunIsLongestFront
run_is_longest_front m signed seen t from names s k h =
    let next = leads_to m signed t in
    record {
      is_front = is_front next seen from names k s h;
      passes = passes next seen from names s;
      longest = λ other rest e p.
          longest next seen from names other rest k s e (and_left (are_distinct other) (not (list_any (λ n. list_any (name_eq n) seen) other)) p)
          (is_false (list_any (λ n. list_any (name_eq n) seen) other) (and_right (are_distinct other) (not (list_any (λ n. list_any (name_eq n) seen) other)) p));
    }

-- A run along targets: it ends, there is one, and how many names it searches
use Rattle.std.proofs.Common.{◌≡◌, ℕ, zero, suc, ◌+◌, ◌<◌, ◌≤◌, arith, Bool, true, false, cond, ◌||◌, List, [], ◌∷◌, ◌++◌, length, refl, sym, ap, ◌∙◌, true≢false, ◌⊎◌, inl, inr}
use Rattle.std.specs.Prelude.{Option, Some, None}
use Rattle.std.specs.Cmp.{IsEquivalence}
use Rattle.std.specs.List.{list_any, AllByRecursion, IsDistinct}
use Rattle.std.proofs.lemmas.List.Folds.{list_any-append}
use Rattle.std.proofs.lemmas.Map.Made.{length-le_from_is_member}
use Rattle.zone_lookup.specs.Runs.{AreSearched}
use Rattle.zone_proto.proofs.Members.{or_left, or_right}

or_cases : (a b : Bool) → a || b ≡ true → (a ≡ true) ⊎ (b ≡ true)
or_cases true b e = inl refl
or_cases false b e = inr e

-- a test that fails for a list and one more element fails for both
not_pushed : {N : Type 0} (p : N → Bool) (xs : List N) (x : N) → list_any p (xs ++ x ∷ []) ≡ false → (list_any p xs ≡ false) × (p x ≡ false)
not_pushed p [] x e = (refl, by (p x) refl e)
  where
    by : (b : Bool) → p x ≡ b → b || false ≡ false → p x ≡ false
    by true q e = absurd (true≢false e)
    by false q e = q
not_pushed p (y ∷ xs) x e = by (p y) e (λ h. not_pushed p xs x h)
  where
    by : (b : Bool) → b || list_any p (xs ++ x ∷ []) ≡ false → (list_any p (xs ++ x ∷ []) ≡ false → (list_any p xs ≡ false) × (p x ≡ false)) → (b || list_any p xs ≡ false) × (p x ≡ false)
    by true e ih = absurd (true≢false e)
    by false e ih = ih e

-- a test that passes for both of two lists or for neither does so where one element more stands in both
both_pushed : {N : Type 0} (p : N → Bool) (xs ys : List N) (x : N) → list_any p xs ≡ list_any p ys → list_any p (xs ++ x ∷ []) ≡ list_any p (ys ++ x ∷ [])
both_pushed p xs ys x e = list_any-append p xs (x ∷ []) ∙ ap (λ b. b || list_any p (x ∷ [])) e ∙ sym (list_any-append p ys (x ∷ []))

-- the first k names that a run searches
abbrev searched_upto : {N : Type 0} → (N → N → Bool) → (N → Option N) → ℕ → List N → Option N → List N
searched_upto same next zero seen p = []
searched_upto same next (suc k) seen None = []
searched_upto same next (suc k) seen (Some n) = cond (list_any (same n) seen) [] (n ∷ searched_upto same next k (seen ++ n ∷ []) (next n))

module _ {N : Type 0} {same : N → N → Bool} (laws : IsEquivalence same) (next : N → Option N) where
  -- a run that may still go on
  abbrev IsPath : List N → Option N → List N → Type 0
  IsPath seen p [] = Unit {0}
  IsPath seen p (n ∷ ns) = (p ≡ Some n) × (list_any (same n) seen ≡ false) × IsPath (seen ++ n ∷ []) (next n) ns

  searched_path : (seen : List N) (p : Option N) (ns : List N) → AreSearched same next seen p ns → IsPath seen p ns
  searched_path seen p [] s = tt
  searched_path seen p (n ∷ ns) (e, f, s) = (e, f, searched_path (seen ++ n ∷ []) (next n) ns s)

  upto_path : (k : ℕ) (seen : List N) (p : Option N) → IsPath seen p (searched_upto same next k seen p)
  upto_path zero seen p = tt
  upto_path (suc k) seen None = tt
  upto_path (suc k) seen (Some n) = by (list_any (same n) seen) refl (upto_path k (seen ++ n ∷ []) (next n))
    where
      by : (b : Bool) → list_any (same n) seen ≡ b → IsPath (seen ++ n ∷ []) (next n) (searched_upto same next k (seen ++ n ∷ []) (next n)) → IsPath seen (Some n) (cond b [] (n ∷ searched_upto same next k (seen ++ n ∷ []) (next n)))
      by true e ih = tt
      by false e ih = (refl, e, ih)

  -- fewer than asked for: then that is all
  upto_all : (k : ℕ) (seen : List N) (p : Option N) → length (searched_upto same next k seen p) < k → AreSearched same next seen p (searched_upto same next k seen p)
  upto_all zero seen p h = absurd (omega arith)
  upto_all (suc k) seen None h = tt
  upto_all (suc k) seen (Some n) h = by (list_any (same n) seen) refl h (λ l. upto_all k (seen ++ n ∷ []) (next n) l)
    where
      by : (b : Bool) → list_any (same n) seen ≡ b → length (cond b [] (n ∷ searched_upto same next k (seen ++ n ∷ []) (next n))) < suc k
          → (length (searched_upto same next k (seen ++ n ∷ []) (next n)) < k → AreSearched same next (seen ++ n ∷ []) (next n) (searched_upto same next k (seen ++ n ∷ []) (next n)))
          → AreSearched same next seen (Some n) (cond b [] (n ∷ searched_upto same next k (seen ++ n ∷ []) (next n)))
      by true e l ih = e
      by false e l ih = (refl, e, ih (omega arith))

  -- what is searched is what the steps give, however many more are asked for
  upto_is : (k : ℕ) (seen : List N) (p : Option N) (ns : List N) → AreSearched same next seen p ns → length ns ≤ k → searched_upto same next k seen p ≡ ns
  upto_is zero seen p [] s h = refl
  upto_is zero seen p (n ∷ ns) s h = absurd (omega arith)
  upto_is (suc k) seen None [] s h = refl
  upto_is (suc k) seen None (n ∷ ns) (e, f, s) h = cc
  upto_is (suc k) seen (Some n) [] s h = ap (λ b. cond b [] (n ∷ searched_upto same next k (seen ++ n ∷ []) (next n))) s
  upto_is (suc k) seen (Some n) (x ∷ ns) (e, f, s) h =
      let q : n ≡ x = cc in
      ap (λ y. cond (list_any (same y) seen) [] (y ∷ searched_upto same next k (seen ++ y ∷ []) (next y))) q
      ∙ ap (λ b. cond b [] (x ∷ searched_upto same next k (seen ++ x ∷ []) (next x))) f
      ∙ ap (λ w. x ∷ w) (upto_is k (seen ++ x ∷ []) (next x) ns s (omega arith))

  pub searched_once : (seen : List N) (p : Option N) (ns ms : List N) → AreSearched same next seen p ns → AreSearched same next seen p ms → ns ≡ ms
  searched_once seen p ns ms s r = sym (upto_is (length ns + length ms) seen p ns s (omega arith)) ∙ upto_is (length ns + length ms) seen p ms r (omega arith)

  -- which names were seen is all that counts, and not in what order
  searched_same : (seen other : List N) (p : Option N) (ns : List N) → ((n : N) → list_any (same n) seen ≡ list_any (same n) other) → AreSearched same next seen p ns → AreSearched same next other p ns
  searched_same seen other None [] e s = tt
  searched_same seen other (Some n) [] e s = sym (e n) ∙ s
  searched_same seen other p (n ∷ ns) e (q, f, s) = (q, sym (e n) ∙ f, searched_same (seen ++ n ∷ []) (other ++ n ∷ []) (next n) ns (λ x. both_pushed (same x) seen other n (e x)) s)

  -- the names of a path differ from those that were seen, and from each other
  unseen : (seen : List N) (p : Option N) (ns : List N) → IsPath seen p ns → AllByRecursion (λ y. list_any (same y) seen ≡ false) ns
  unseen seen p [] s = tt
  unseen seen p (n ∷ ns) (e, f, s) = (f, all ns (unseen (seen ++ n ∷ []) (next n) ns s))
    where
      all : (ns : List N) → AllByRecursion (λ y. list_any (same y) (seen ++ n ∷ []) ≡ false) ns → AllByRecursion (λ y. list_any (same y) seen ≡ false) ns
      all [] a = tt
      all (y ∷ ns) (b, a) = ((not_pushed (same y) seen n b).0, all ns a)

  distinct : (seen : List N) (p : Option N) (ns : List N) → IsPath seen p ns → IsDistinct same ns
  unfolding IsDistinct
  distinct seen p [] s = tt
  distinct seen p (n ∷ ns) (e, f, s) = (all ns (unseen (seen ++ n ∷ []) (next n) ns s), distinct (seen ++ n ∷ []) (next n) ns s)
    where
      all : (ns : List N) → AllByRecursion (λ y. list_any (same y) (seen ++ n ∷ []) ≡ false) ns → AllByRecursion (λ y. same n y ≡ false) ns
      all [] a = tt
      all (y ∷ ns) (b, a) = (laws.symm n y ∙ (not_pushed (same y) seen n b).1, all ns a)

  pub searched_distinct : (seen : List N) (p : Option N) (ns : List N) → AreSearched same next seen p ns → IsDistinct same ns
  searched_distinct seen p ns s = distinct seen p ns (searched_path seen p ns s)

  pub searched_unseen : (seen : List N) (p : Option N) (ns : List N) → AreSearched same next seen p ns → AllByRecursion (λ y. list_any (same y) seen ≡ false) ns
  searched_unseen seen p ns s = unseen seen p ns (searched_path seen p ns s)

  -- where the sets lead into a list of names, a path has one name more than that list at most
  module _ (targets : List N) (leads : (n a : N) → next n ≡ Some a → list_any (same a) targets ≡ true) where
    among : (seen : List N) (p : Option N) (ns : List N) → ((a : N) → p ≡ Some a → list_any (same a) targets ≡ true) → IsPath seen p ns → (q : N) → list_any (same q) ns ≡ true → list_any (same q) targets ≡ true
    among seen p [] h s q m = absurd (true≢false (sym m))
    among seen p (n ∷ ns) h (e, f, s) q m = by (or_cases (same q n) (list_any (same q) ns) m) (among (seen ++ n ∷ []) (next n) ns (leads n) s q)
      where
        moved : (ts : List N) → same q n ≡ true → list_any (same n) ts ≡ true → list_any (same q) ts ≡ true
        moved [] i m = m
        moved (y ∷ ts) i m = two (or_cases (same n y) (list_any (same n) ts) m) (moved ts i)
          where
            two : (same n y ≡ true) ⊎ (list_any (same n) ts ≡ true) → (list_any (same n) ts ≡ true → list_any (same q) ts ≡ true) → same q y || list_any (same q) ts ≡ true
            two (inl j) ih = or_left (same q y) (list_any (same q) ts) (laws.congr q n y i ∙ j)
            two (inr j) ih = or_right (same q y) (list_any (same q) ts) (ih j)

        by : (same q n ≡ true) ⊎ (list_any (same q) ns ≡ true) → (list_any (same q) ns ≡ true → list_any (same q) targets ≡ true) → list_any (same q) targets ≡ true
        by (inl i) ih = moved targets i (h n e)
        by (inr i) ih = ih i

    path_bound : (seen : List N) (p : Option N) (ns : List N) → IsPath seen p ns → length ns ≤ 1 + length targets
    path_bound seen p [] s = omega arith
    path_bound seen p (n ∷ ns) (e, f, s) =
        let h : length ns ≤ length targets = length-le_from_is_member laws ns targets (distinct (seen ++ n ∷ []) (next n) ns s) (among (seen ++ n ∷ []) (next n) ns (leads n) s) in
        omega arith

    pub searched_bound : (seen : List N) (p : Option N) (ns : List N) → AreSearched same next seen p ns → length ns ≤ 1 + length targets
    searched_bound seen p ns s = path_bound seen p ns (searched_path seen p ns s)

    -- so there is a run from every name
    pub run_names : List N → Option N → List N
    run_names seen p = searched_upto same next (2 + length targets) seen p

    pub run_names_searched : (seen : List N) (p : Option N) → AreSearched same next seen p (run_names seen p)
    unfolding run_names
    run_names_searched seen p =
        let h : length (searched_upto same next (2 + length targets) seen p) ≤ 1 + length targets = path_bound seen p (searched_upto same next (2 + length targets) seen p) (upto_path (2 + length targets) seen p) in
        upto_all (2 + length targets) seen p (omega arith)

    pub run_none : (seen : List N) → run_names seen None ≡ []
    run_none seen = searched_once seen None (run_names seen None) [] (run_names_searched seen None) tt

    pub run_seen : (seen : List N) (n : N) → list_any (same n) seen ≡ true → run_names seen (Some n) ≡ []
    run_seen seen n e = searched_once seen (Some n) (run_names seen (Some n)) [] (run_names_searched seen (Some n)) e

    pub run_step : (seen : List N) (n : N) → list_any (same n) seen ≡ false → run_names seen (Some n) ≡ n ∷ run_names (seen ++ n ∷ []) (next n)
    run_step seen n e = searched_once seen (Some n) (run_names seen (Some n)) (n ∷ run_names (seen ++ n ∷ []) (next n)) (run_names_searched seen (Some n)) (refl, e, run_names_searched (seen ++ n ∷ []) (next n))

    pub run_same : (seen other : List N) (p : Option N) → ((n : N) → list_any (same n) seen ≡ list_any (same n) other) → run_names seen p ≡ run_names other p
    run_same seen other p e = searched_once other p (run_names seen p) (run_names other p) (searched_same seen other p (run_names seen p) e (run_names_searched seen p)) (run_names_searched other p)

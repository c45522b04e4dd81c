-- Runs along names, of which each leads to the next
use Rattle.std.specs.Prelude.{◌≡◌, ℕ, zero, suc, Bool, cond, List, [], ◌∷◌, ◌++◌, Option, Some, None, MatchOption, IsTrue, IsFalse}
use Rattle.std.specs.List.{list_any}

-- the names that a run searches, given those that were seen: none if no name is next or the next one was seen; else the
-- next one, and then, with that name seen too, the names from where it leads
module _ {N : Type 0} (same : N → N → Bool) (next : N → Option N) where
  abbrev pub AreSearched : List N → Option N → List N → Type 0
  AreSearched seen p [] = MatchOption p (Unit {0}) (λ n. IsTrue (list_any (same n) seen))
  AreSearched seen p (n ∷ ns) = (p ≡ Some n) × IsFalse (list_any (same n) seen) × AreSearched (seen ++ n ∷ []) (next n) ns

-- the names on the path from one on, k of them or all there are
abbrev pub along : {N : Type 0} → (N → Option N) → ℕ → Option N → List N
along next zero p = []
along next (suc k) None = []
along next (suc k) (Some n) = n ∷ along next k (next n)

-- a list with one more element, unless it has an equal one
abbrev pub with_new : {X : Type 0} → (X → X → Bool) → List X → X → List X
with_new same xs x = cond (list_any (λ y. same y x) xs) xs (xs ++ x ∷ [])

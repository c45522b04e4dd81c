-- Fronts of a list, and the longest that passes a test
use Rattle.std.specs.Prelude.{◌≡◌, ℕ, zero, suc, ◌≤◌, Bool, cond, List, [], ◌++◌, length, take, IsTrue}

-- the longest front of at most k elements that passes; the empty one where no longer does
abbrev pub longest_front_of : {X : Type 0} → (List X → Bool) → List X → ℕ → List X
longest_front_of p xs zero = []
longest_front_of p xs (suc k) = cond (p (take (suc k) xs)) (take (suc k) xs) (longest_front_of p xs k)

-- the longest of all
abbrev pub longest_front : {X : Type 0} → (List X → Bool) → List X → List X
longest_front p xs = longest_front_of p xs (length xs)

-- a front is the longest that passes: it passes, and no front that passes is longer
pub record IsLongestFront {X : Type 0} (p : List X → Bool) (xs front : List X) : Type 0 where
  pub is_front : (rest : List X) × (xs ≡ front ++ rest)
  pub passes : IsTrue (p front)
  pub longest : (other rest : List X) → xs ≡ other ++ rest → IsTrue (p other) → length other ≤ length front

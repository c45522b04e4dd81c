-- A word cut at the first of a sign
use Rattle.std.specs.Prelude.{ℕ, ◌+◌, ◌==◌, not, List, take, drop}
use Rattle.std.specs.List.{prefix_len}

-- how many octets stand before it; all where it isn't there
abbrev pub sign_at : ℕ → List ℕ → ℕ
sign_at sign w = prefix_len (λ b. not (b == sign)) w

-- what stands before it, and behind it
abbrev pub before_sign : ℕ → List ℕ → List ℕ
before_sign sign w = take (sign_at sign w) w

abbrev pub behind_sign : ℕ → List ℕ → List ℕ
behind_sign sign w = drop (sign_at sign w + 1) w

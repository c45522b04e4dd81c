-- Counts that stop at the greatest number of 64 bits
use Rattle.std.specs.Prelude.{ℕ, Bool, cond, zero, suc, ◌+◌, ◌-◌, ◌^◌, min}

-- one more
abbrev pub one_more : ℕ → ℕ
one_more n = min (n + 1) (2 ^ 64 - 1)

-- one more if something is so
abbrev pub one_more_if : Bool → ℕ → ℕ
one_more_if b n = cond b (one_more n) n

-- k more
abbrev pub counted_more : ℕ → ℕ → ℕ
counted_more zero n = n
counted_more (suc k) n = one_more (counted_more k n)

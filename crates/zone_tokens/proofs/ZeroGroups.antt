-- Groups of 0, one after the other
use Rattle.std.proofs.Common.{◌≡◌, ◌<◌, ◌≤◌, ℕ, suc, ◌+◌, ◌-◌, List, refl, arith}
use Rattle.zone_tokens.specs.Addresses.{with_zero, with_zeros}

pub zeros_more : (n i : ℕ) (s : List ℕ) → i < n → with_zeros (n - i) s ≡ with_zeros (n - (i + 1)) (with_zero s)
zeros_more n i s h = let e : n - i ≡ suc (n - (i + 1)) = omega arith in rw e refl

pub zeros_none : (n i : ℕ) (s : List ℕ) → n ≤ i → with_zeros (n - i) s ≡ s
zeros_none n i s h = let e : n - i ≡ 0 = omega arith in rw e refl

-- Months, one after the other
use Rattle.std.proofs.Common.{◌≡◌, ℕ, ◌+◌, Bool, refl, add-one}
use Rattle.zone_tokens.specs.Moments.{days_in_months, length_in}

pub month_more : (leap : Bool) (k : ℕ) → days_in_months leap (k + 1) ≡ days_in_months leap k + length_in leap (k + 1)
month_more leap k = rw add-one refl

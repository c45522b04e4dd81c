-- The first digit of a number and its power of ten, found by one division after the other
use Rattle.std.proofs.Common.{◌≡◌, ◌≤◌, ◌<◌, ℕ, zero, suc, ◌+◌, ◌*◌, ◌/◌, true, false, Some, None, refl, sym, ap, ◌∙◌, arith}
use Rattle.std.specs.Prelude.{nat_lt}
use Rattle.std.proofs.lemmas.Bool.Decides.{leb_tells}
use Rattle.record_fields.specs.Locations.{power_form}

less_true : (a b : ℕ) → a < b → nat_lt a b ≡ true
less_true a b h = grind (arith, leb_tells)

less_false : (a b : ℕ) → b ≤ a → nat_lt a b ≡ false
less_false a b h = grind (arith, leb_tells)

pub power_found : (k e n : ℕ) → 0 < k → n < 10 → power_form k e n ≡ Some (n * 16 + e)
power_found zero e n some small = absurd (omega (arith, some))
power_found (suc k) e n some small = rw (less_true n 10 small) refl

pub power_more : (k l e n : ℕ) → k ≡ l + 1 → 10 ≤ n → power_form k e n ≡ power_form l (e + 1) (n / 10)
power_more zero l e n same large = absurd (omega (arith, same))
power_more (suc k) l e n same large = let is : k ≡ l = omega (arith, same) in rw (less_false n 10 large, is) refl

pub power_none : (k e n : ℕ) → k ≡ 0 → power_form k e n ≡ None
power_none k e n none = rw none refl

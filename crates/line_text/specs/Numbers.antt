-- Numbers written in digits
use Rattle.std.specs.Prelude.{ℕ, List, Bool, ◌&&◌, nat_lt, nat_le, length, Option, Some, None, if◌then◌else◌}
use Rattle.std.specs.Char.{is_digit, digit_value}
use Rattle.std.specs.List.{list_all}
use Rattle.std.specs.Str.Parse.{digits_value}

-- the value of a digit of this base, letters in either case, and none for any other octet
abbrev pub digit_of : ℕ → ℕ → Option ℕ
digit_of base c = if is_digit c base then Some (digit_value c) else None

-- one digit of this base or more, and nothing else
abbrev pub is_numeral : ℕ → List ℕ → Bool
is_numeral base ds = nat_lt 0 (length ds) && list_all (λ c. is_digit c base) ds

-- a number, if it is at most `most`
abbrev pub at_most : ℕ → ℕ → Option ℕ
at_most most n = if nat_le n most then Some n else None

-- the number that digits of this base write, leading zeros and all, if it is at most `most`; none if they aren't digits
abbrev pub number_within : ℕ → ℕ → List ℕ → Option ℕ
number_within base most ds = if is_numeral base ds then at_most most (digits_value base ds) else None

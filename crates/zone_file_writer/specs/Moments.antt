-- Moments as dates: YYYYMMDDHHmmSS, in UTC (RFC 4034 section 3.2). A moment is a number of seconds since the beginning of 1970, up
-- to 2106.
use Rattle.std.specs.Prelude.{ℕ, zero, suc, ◌+◌, ◌-◌, ◌/◌, ◌%◌, ◌++◌, List, [], ◌∷◌, Bool, nat_le, nat_lt, if◌then◌else◌}
use Rattle.zone_tokens.specs.Moments.{days_before_year, days_in_months, is_leap}

-- the days from the first of January of the year 1 to the beginning of 1970
abbrev pub first_day : ℕ
first_day = 719162

-- The year of a day since then. No year has more than 366 days, so the first guess is the year or, as 136 years have less than 366
-- leap days fewer than they have years, the one before.
abbrev pub year_guess : ℕ → ℕ
year_guess day = 1970 + day / 366

abbrev pub year_of : ℕ → ℕ
year_of day = if nat_lt (day + first_day) (days_before_year (year_guess day + 1)) then year_guess day else year_guess day + 1

-- the day of its year, from 0 on
abbrev pub day_of_year : ℕ → ℕ
day_of_year day = day + first_day - days_before_year (year_of day)

-- the last of the first months of a year that begins no later than a day of the year
abbrev pub month_within : ℕ → Bool → ℕ → ℕ
month_within zero leap day = 1
month_within (suc k) leap day = if nat_le (days_in_months leap k) day then suc k else month_within k leap day

abbrev pub month_of : ℕ → ℕ
month_of day = month_within 12 (is_leap (year_of day)) (day_of_year day)

abbrev pub day_of_month : ℕ → ℕ
day_of_month day = day_of_year day - days_in_months (is_leap (year_of day)) (month_of day - 1) + 1

-- a number below 100 in two digits
abbrev pub two_digits : ℕ → List ℕ
two_digits n = (48 + n / 10 % 10) ∷ (48 + n % 10) ∷ []

abbrev pub date_text : ℕ → List ℕ
date_text day =
    two_digits (year_of day / 100) ++ (two_digits (year_of day % 100)
    ++ (two_digits (month_of day) ++ two_digits (day_of_month day)))

abbrev pub time_text : ℕ → List ℕ
time_text second = two_digits (second / 3600) ++ (two_digits (second / 60 % 60) ++ two_digits (second % 60))

unfoldable pub moment_text : ℕ → List ℕ
moment_text moment = date_text (moment / 86400) ++ time_text (moment % 86400)

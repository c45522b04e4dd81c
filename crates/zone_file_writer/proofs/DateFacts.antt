-- The date of a day, and what is read of its text
use Rattle.std.proofs.Common.{◌≡◌, ◌≤◌, ◌<◌, ℕ, zero, suc, ◌+◌, ◌-◌, ◌*◌, ◌/◌, ◌%◌, ◌==◌, ◌++◌, Bool, true, false, cond, ◌&&◌, ◌||◌, not, Some, refl, ap, ◌∙◌, arith}
use Rattle.std.specs.Prelude.{nat_le, nat_lt}
use Rattle.std.specs.Char.{digit_value, is_digit}
use Rattle.std.proofs.lemmas.Bool.Decides.{leb_tells, nat_tests}
use Rattle.line_text.specs.Numbers.{number_within}
use Rattle.zone_tokens.specs.Moments.{days_before_year, days_in_months, is_leap, length_in, moment_of_word}
use Rattle.zone_file_writer.specs.Moments.{date_text, day_of_month, day_of_year, moment_text, month_of, month_within, time_text, two_digits, year_guess, year_of}

-- ---- the year of a day

abbrev leaps : ℕ → ℕ
leaps years = years / 4 - years / 100 + years / 400

begins_low : (q : ℕ) → q < 2 → days_before_year (1970 + q) ≤ 366 * q + 719162
begins_low zero h = omega arith
begins_low (suc zero) h = omega arith
begins_low (suc (suc q)) h = absurd (omega arith)

begins_high : (q : ℕ) → 2 ≤ q → q < 136 → days_before_year (1970 + q) ≤ 366 * q + 719162
begins_high q h k = omega arith

begins : (q : ℕ) → q < 136 → days_before_year (1970 + q) ≤ 366 * q + 719162
begins q h = by (nat_lt q 2) refl
  where
    by : (b : Bool) → nat_lt q 2 ≡ b → days_before_year (1970 + q) ≤ 366 * q + 719162
    by true e = begins_low q (grind (arith, leb_tells))
    by false e = begins_high q (grind (arith, leb_tells)) h

ends : (q : ℕ) → q < 136 → 366 * q + 366 + 719162 ≤ days_before_year (1972 + q)
ends q h = omega arith

pub year_begins : (day : ℕ) → day < 49711 → days_before_year (year_of day) ≤ day + 719162
year_begins day h = by (nat_lt (day + 719162) (days_before_year (year_guess day + 1))) refl
  where
    by : (b : Bool) → nat_lt (day + 719162) (days_before_year (year_guess day + 1)) ≡ b
        → days_before_year (cond b (year_guess day) (year_guess day + 1)) ≤ day + 719162
    by true e = omega (arith, begins (day / 366) (omega arith))
    by false e = grind (arith, leb_tells)

pub year_ends : (day : ℕ) → day < 49711 → day + 719162 < days_before_year (year_of day + 1)
year_ends day h = by (nat_lt (day + 719162) (days_before_year (year_guess day + 1))) refl
  where
    by : (b : Bool) → nat_lt (day + 719162) (days_before_year (year_guess day + 1)) ≡ b
        → day + 719162 < days_before_year (cond b (year_guess day) (year_guess day + 1) + 1)
    by true e = grind (arith, leb_tells)
    by false e = omega (arith, ends (day / 366) (omega arith))

-- ---- the length of a year

length_of : (y : ℕ) → 1 ≤ y → days_before_year (y + 1) ≡ days_before_year y + cond (is_leap y) 366 365
length_of y h = by (y % 4 == 0) refl (y % 100 == 0) refl (y % 400 == 0) refl
  where
    by : (a : Bool) → (y % 4 == 0) ≡ a → (b : Bool) → (y % 100 == 0) ≡ b → (c : Bool) → (y % 400 == 0) ≡ c
        → days_before_year (y + 1) ≡ days_before_year y + cond (a && (not b || c)) 366 365
    by false e b f c g = let no : 1 ≤ y % 4 = grind (arith, nat_tests) in omega arith
    by true e false f c g =
        let four : y % 4 ≡ 0 = grind (arith, nat_tests) in
        let no : 1 ≤ y % 100 = grind (arith, nat_tests) in
        omega arith
    by true e true f true g = let all : y % 400 ≡ 0 = grind (arith, nat_tests) in omega arith
    by true e true f false g =
        let hundred : y % 100 ≡ 0 = grind (arith, nat_tests) in
        let no : 1 ≤ y % 400 = grind (arith, nat_tests) in
        omega arith

twelve : (leap : Bool) → days_in_months leap 12 ≡ cond leap 366 365
twelve true = refl
twelve false = refl

-- ---- the month of a day

pub month_begins : (k : ℕ) (leap : Bool) (day : ℕ) → days_in_months leap (month_within k leap day - 1) ≤ day
month_begins zero leap day = omega arith
month_begins (suc k) leap day = by (nat_le (days_in_months leap k) day) refl (month_begins k leap day)
  where
    by : (b : Bool) → nat_le (days_in_months leap k) day ≡ b → days_in_months leap (month_within k leap day - 1) ≤ day
        → days_in_months leap (cond b (suc k) (month_within k leap day) - 1) ≤ day
    by true e more = let less : suc k - 1 ≡ k = omega arith in rw less (grind (arith, leb_tells))
    by false e more = more

pub month_ends : (k : ℕ) (leap : Bool) (day : ℕ) → day < days_in_months leap k → day < days_in_months leap (month_within k leap day)
month_ends zero leap day h = absurd (omega arith)
month_ends (suc k) leap day h = by (nat_le (days_in_months leap k) day) refl (month_ends k leap day)
  where
    by : (b : Bool) → nat_le (days_in_months leap k) day ≡ b → (day < days_in_months leap k → day < days_in_months leap (month_within k leap day))
        → day < days_in_months leap (cond b (suc k) (month_within k leap day))
    by true e more = h
    by false e more = more (grind (arith, leb_tells))

pub month_low : (k : ℕ) (leap : Bool) (day : ℕ) → 1 ≤ month_within k leap day
month_low zero leap day = omega arith
month_low (suc k) leap day = by (nat_le (days_in_months leap k) day) (month_low k leap day)
  where
    by : (b : Bool) → 1 ≤ month_within k leap day → 1 ≤ cond b (suc k) (month_within k leap day)
    by true more = omega arith
    by false more = more

pub month_high : (k : ℕ) (leap : Bool) (day : ℕ) → month_within k leap day ≤ k + 1
month_high zero leap day = omega arith
month_high (suc k) leap day = by (nat_le (days_in_months leap k) day) (month_high k leap day)
  where
    by : (b : Bool) → month_within k leap day ≤ k + 1 → cond b (suc k) (month_within k leap day) ≤ suc k + 1
    by true more = omega arith
    by false more = omega arith

month_most : (leap : Bool) (day : ℕ) → day < days_in_months leap 12 → month_within 12 leap day ≤ 12
month_most leap day h = by (nat_le (days_in_months leap 11) day) (month_high 11 leap day)
  where
    by : (b : Bool) → month_within 11 leap day ≤ 12 → cond b 12 (month_within 11 leap day) ≤ 12
    by true more = omega arith
    by false more = more

-- ---- a date is one

month_fits : (day : ℕ) → day < 49711 → day_of_year day < days_in_months (is_leap (year_of day)) 12
month_fits day h = by (is_leap (year_of day)) refl
  where
    low : 1 ≤ year_of day
    low = by (nat_lt (day + 719162) (days_before_year (year_guess day + 1)))
      where
        by : (b : Bool) → 1 ≤ cond b (year_guess day) (year_guess day + 1)
        by true = omega arith
        by false = omega arith

    by : (b : Bool) → is_leap (year_of day) ≡ b → day_of_year day < days_in_months b 12
    by true e =
        let long : days_before_year (year_of day + 1) ≡ days_before_year (year_of day) + 366 = length_of (year_of day) low ∙ ap (λ (b : Bool). days_before_year (year_of day) + cond b 366 365) e in
        omega (arith, year_begins day h, year_ends day h, long)
    by false e =
        let short : days_before_year (year_of day + 1) ≡ days_before_year (year_of day) + 365 = length_of (year_of day) low ∙ ap (λ (b : Bool). days_before_year (year_of day) + cond b 366 365) e in
        omega (arith, year_begins day h, year_ends day h, short)

year_low : (day : ℕ) → 1970 ≤ year_of day
year_low day = by (nat_lt (day + 719162) (days_before_year (year_guess day + 1)))
  where
    by : (b : Bool) → 1970 ≤ cond b (year_guess day) (year_guess day + 1)
    by true = omega arith
    by false = omega arith

year_high : (day : ℕ) → day < 49711 → year_of day < 10000
year_high day h = by (nat_lt (day + 719162) (days_before_year (year_guess day + 1)))
  where
    by : (b : Bool) → cond b (year_guess day) (year_guess day + 1) < 10000
    by true = omega arith
    by false = omega arith

-- the days before a day of the calendar, and the seconds before a time of that day
abbrev days_of : ℕ → ℕ
days_of day = days_before_year (year_of day) + days_in_months (is_leap (year_of day)) (month_of day - 1) + (day_of_month day - 1)

abbrev seconds_of : ℕ → ℕ → ℕ
seconds_of day second = (days_of day - 719162) * 86400 + second / 3600 * 3600 + second / 60 % 60 * 60 + second % 60

days_are : (day : ℕ) → day < 49711 → days_of day ≡ day + 719162
days_are day h = omega (arith, year_begins day h, month_begins 12 (is_leap (year_of day)) (day_of_year day))

seconds_are : (day second : ℕ) → day < 49711 → second < 86400 → seconds_of day second ≡ day * 86400 + second
seconds_are day second h k = omega (arith, days_are day h)

within : (a b : ℕ) → a ≤ b → nat_le a b ≡ true
within a b h = grind (arith, leb_tells)

below : (a b : ℕ) → a < b → nat_lt a b ≡ true
below a b h = grind (arith, leb_tells)

month_steps : (leap : Bool) (m : ℕ) → 1 ≤ m → days_in_months leap m ≡ days_in_months leap (m - 1) + length_in leap m
month_steps leap zero h = absurd (omega arith)
month_steps leap (suc m) h = let less : suc m - 1 ≡ m = omega arith in rw less refl

day_fits : (day : ℕ) → day < 49711 → day_of_month day ≤ length_in (is_leap (year_of day)) (month_of day)
day_fits day h =
    let leap : Bool = is_leap (year_of day) in
    let steps : days_in_months leap (month_of day) ≡ days_in_months leap (month_of day - 1) + length_in leap (month_of day) = month_steps leap (month_of day) (month_low 12 leap (day_of_year day)) in
    omega (arith, month_ends 12 leap (day_of_year day) (month_fits day h), month_begins 12 leap (day_of_year day), steps)

-- ---- and is read

digit_back : (d : ℕ) → d < 10 → digit_value (48 + d) ≡ d
digit_back d h = grind (arith, nat_tests, leb_tells)

digit_is : (d : ℕ) → d < 10 → is_digit (48 + d) 10 ≡ true
digit_is d h = rw (digit_back d h) (below d 10 h)

most : (n : ℕ) → n < 10000 → nat_le n 65535 ≡ true
most n h = within n 65535 (omega arith)

two_back : (n : ℕ) → n < 100 → number_within 10 65535 (two_digits n) ≡ Some n
two_back n h =
    let value : (0 * 10 + n / 10 % 10) * 10 + n % 10 ≡ n = omega arith in
    rw (digit_back (n / 10 % 10) (omega arith), digit_back (n % 10) (omega arith), below (n / 10 % 10) 10 (omega arith), below (n % 10) 10 (omega arith), value, most n (omega arith)) refl

four_back : (n : ℕ) → n < 10000 → number_within 10 65535 (two_digits (n / 100) ++ two_digits (n % 100)) ≡ Some n
four_back n h =
    let a : ℕ = n / 100 / 10 % 10 in
    let b : ℕ = n / 100 % 10 in
    let c : ℕ = n % 100 / 10 % 10 in
    let d : ℕ = n % 100 % 10 in
    let value : (((0 * 10 + a) * 10 + b) * 10 + c) * 10 + d ≡ n = omega arith in
    rw (
      digit_back a (omega arith),
      digit_back b (omega arith),
      digit_back c (omega arith),
      digit_back d (omega arith),
      below a 10 (omega arith),
      below b 10 (omega arith),
      below c 10 (omega arith),
      below d 10 (omega arith),
      value,
      most n h,
    )
    refl

month_length : (leap : Bool) (m : ℕ) → length_in leap m ≤ 31
month_length leap m = by leap (m == 2) (m == 4 || m == 6 || m == 9 || m == 11)
  where
    by : (l a b : Bool) → cond a (cond l 29 28) (cond b 30 31) ≤ 31
    by true true b = omega arith
    by false true b = omega arith
    by l false true = omega arith
    by l false false = omega arith

date_back : (day second : ℕ) → day < 49711 → second < 86400 → moment_of_word (date_text day ++ time_text second) ≡ Some (seconds_of day second % 4294967296)
date_back day second h k =
    let leap : Bool = is_leap (year_of day) in
    let of_year : ℕ = day_of_year day in
    let length : ℕ = length_in leap (month_of day) in
    rw (
      four_back (year_of day) (year_high day h),
      two_back (month_of day) (omega (arith, month_high 12 leap of_year)),
      two_back (day_of_month day) (omega (arith, day_fits day h, month_length leap (month_of day))),
      two_back (second / 3600) (omega arith),
      two_back (second / 60 % 60) (omega arith),
      two_back (second % 60) (omega arith),
      within 1970 (year_of day) (year_low day),
      within 1 (month_of day) (month_low 12 leap of_year),
      within (month_of day) 12 (month_most leap of_year (month_fits day h)),
      within 1 (day_of_month day) (omega arith),
      within (day_of_month day) length (day_fits day h),
      below (second / 3600) 24 (omega arith),
      below (second / 60 % 60) 60 (omega arith),
      below (second % 60) 60 (omega arith),
    )
    refl

pub moment_back : (n : ℕ) → n < 4294967296 → moment_of_word (moment_text n) ≡ Some n
unfolding moment_text
moment_back n h =
    let day : ℕ = n / 86400 in
    let second : ℕ = n % 86400 in
    let seconds : seconds_of day second % 4294967296 ≡ n = omega (arith, seconds_are day second (omega arith) (omega arith)) in
    date_back day second (omega arith) (omega arith) ∙ ap (λ (k : ℕ). Some k) seconds

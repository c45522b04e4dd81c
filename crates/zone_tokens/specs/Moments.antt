-- Moments, as signatures have them (RFC 4034 section 3.2)
use Rattle.std.specs.Prelude.{ℕ, zero, suc, ◌+◌, ◌-◌, ◌*◌, ◌/◌, ◌%◌, List, ◌==◌, ◌&&◌, ◌||◌, not, nat_le, nat_lt, Bool, Option, Some, None, option_map, option_and_then, length, take, drop, if◌then◌else◌}
use Rattle.line_text.specs.Numbers.{number_within}
use Rattle.zone_tokens.specs.declared.moments.Date.{Date}

-- the leap years of the Gregorian calendar: every fourth year, but of the hundredth ones every fourth alone
abbrev pub is_leap : ℕ → Bool
is_leap y = y % 4 == 0 && (not (y % 100 == 0) || y % 400 == 0)

-- the days before the first of January of a year, from year 1 on
abbrev pub days_before_year : ℕ → ℕ
days_before_year y = 365 * (y - 1) + (y - 1) / 4 - (y - 1) / 100 + (y - 1) / 400

-- thirty days have September, April, June and November; all the rest have thirty-one, but February
abbrev pub length_in : Bool → ℕ → ℕ
length_in leap m =
    if m == 2 then (if leap then 29 else 28)
    else (if m == 4 || m == 6 || m == 9 || m == 11 then 30 else 31)

-- the days of the first months of a year
abbrev pub days_in_months : Bool → ℕ → ℕ
days_in_months leap zero = 0
days_in_months leap (suc k) = days_in_months leap k + length_in leap (suc k)

abbrev pub length_of_month : Date → ℕ
length_of_month d = length_in (is_leap d.year) d.month

-- a date that is one, from 1970 on
abbrev pub is_date : Date → Bool
is_date d =
    nat_le 1970 d.year && (nat_le 1 d.month && (nat_le d.month 12
    && (nat_le 1 d.day && (nat_le d.day (length_of_month d)
    && (nat_lt d.hour 24 && (nat_lt d.minute 60 && nat_lt d.second 60))))))

-- the days before a date, and the seconds since the beginning of 1970
abbrev pub days_before : Date → ℕ
days_before d = days_before_year d.year + days_in_months (is_leap d.year) (d.month - 1) + (d.day - 1)

abbrev pub seconds_since_1970 : Date → ℕ
seconds_since_1970 d = (days_before d - 719162) * 86400 + d.hour * 3600 + d.minute * 60 + d.second

-- a number of two digits, or of so many
abbrev pub digits_at : ℕ → ℕ → List ℕ → Option ℕ
digits_at from count w = number_within 10 65535 (take count (drop from w))

-- YYYYMMDDHHmmSS, in UTC
abbrev pub date_of_word : List ℕ → Option Date
date_of_word w =
    option_and_then (λ year. option_and_then (λ month. option_and_then (λ day.
    option_and_then (λ hour. option_and_then (λ minute. option_map (λ second.
    record { year = year; month = month; day = day; hour = hour; minute = minute; second = second })
    (digits_at 12 2 w)) (digits_at 10 2 w)) (digits_at 8 2 w)) (digits_at 6 2 w)) (digits_at 4 2 w)) (digits_at 0 4 w)

-- moments are seconds modulo 2^32 (RFC 4034 section 3.1.5)
abbrev pub moment_of_date : Date → Option ℕ
moment_of_date d = if is_date d then Some (seconds_since_1970 d % 4294967296) else None

-- a moment: fourteen digits are a date, and other digits are seconds
abbrev pub moment_of_word : List ℕ → Option ℕ
moment_of_word w = if length w == 14 then option_and_then moment_of_date (date_of_word w) else number_within 10 4294967295 w

-- TTLs and other seconds, with units or without
use Rattle.std.specs.Prelude.{ℕ, ◌+◌, ◌*◌, List, [], ◌∷◌, ◌==◌, Option, Some, None, option_and_then, if◌then◌else◌}
use Rattle.std.specs.Char.{to_ascii_lowercase}
use Rattle.zone_proto.specs.TypeText.{or_else}
use Rattle.line_text.specs.Numbers.{at_most, digit_of, number_within}

-- the seconds of a unit: a week, a day, an hour, a minute, a second; letters in either case
abbrev pub seconds_of : ℕ → Option ℕ
seconds_of b =
    if to_ascii_lowercase b == 119 then Some 604800
    else (if to_ascii_lowercase b == 100 then Some 86400
    else (if to_ascii_lowercase b == 104 then Some 3600
    else (if to_ascii_lowercase b == 109 then Some 60
    else (if to_ascii_lowercase b == 115 then Some 1
    else None))))

-- a TTL has at most 31 bits (RFC 2181 section 8), and a timer of an SOA 32 (RFC 1035 section 3.3.13)
abbrev pub longest : ℕ
longest = 2147483647

abbrev pub longest_timer : ℕ
longest_timer = 4294967295

-- a number with one digit more, if it is at most this
abbrev pub digit_more : ℕ → Option ℕ → ℕ → Option ℕ
digit_more most None d = Some d
digit_more most (Some n) d = at_most most (n * 10 + d)

-- seconds with a number of units more
abbrev pub units_more : ℕ → ℕ → Option ℕ → ℕ → Option ℕ
units_more most total None unit = None
units_more most total (Some n) unit = at_most most (total + n * unit)

abbrev pub unit_or_digit : ℕ → Option ℕ → Option ℕ → Option ℕ → ℕ → (Option ℕ → ℕ → Option ℕ) → Option ℕ
unit_or_digit most (Some d) unit number total more = option_and_then (λ n. more (Some n) total) (digit_more most number d)
unit_or_digit most None (Some unit) number total more = option_and_then (λ t. more None t) (units_more most total number unit)
unit_or_digit most None None number total more = None

-- Numbers, each with its unit behind it, to the end of the word: the sum of their seconds, which is at most this. `number` is what
-- the digits before this octet write, if some are there, and `total` the seconds before them.
abbrev pub in_units : ℕ → List ℕ → Option ℕ → ℕ → Option ℕ
in_units most [] None total = Some total
in_units most [] (Some n) total = None
in_units most (b ∷ s) number total = unit_or_digit most (digit_of 10 b) (seconds_of b) number total (in_units most s)

-- seconds: in digits, or numbers with units, as BIND has them (1h30m)
abbrev pub in_seconds : ℕ → List ℕ → Option ℕ
in_seconds most w = option_and_then (at_most most) (number_within 10 4294967295 w)

abbrev pub period_of_word : ℕ → List ℕ → Option ℕ
period_of_word most [] = None
period_of_word most (b ∷ s) = or_else (in_seconds most (b ∷ s)) (in_units most (b ∷ s) None 0)

-- a TTL, and the seconds of a timer, which are written as a TTL is
abbrev pub ttl_of_word : List ℕ → Option ℕ
ttl_of_word = period_of_word longest

abbrev pub timer_of_word : List ℕ → Option ℕ
timer_of_word = period_of_word longest_timer

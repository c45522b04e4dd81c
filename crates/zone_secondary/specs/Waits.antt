-- How long a secondary waits, in seconds
use Rattle.std.specs.Prelude.{ℕ, ◌+◌, ◌-◌, ◌^◌, max, min}
use Rattle.zone_secondary.specs.declared.version.Version.{Version}

-- the intervals of the SOA record; an interval of 0 counts as one second, so that a question never goes out twice in one
abbrev pub refresh_wait : Version → ℕ
refresh_wait v = max v.refresh 1

abbrev pub retry_wait : Version → ℕ
retry_wait v = max v.retry 1

-- where no zone is held there is no SOA record that says how long: a minute
abbrev pub first_wait : ℕ
first_wait = 60

-- the moment so many seconds later; moments end at 2^64 - 1
abbrev pub later : ℕ → ℕ → ℕ
later now seconds = min (now + seconds) (2 ^ 64 - 1)

-- Moments in seconds since 1970 modulo 2^32, as signatures have them (RFC 4034 section 3.1.5)
use Rattle.std.specs.Prelude.{ℕ, ◌+◌, ◌-◌, ◌%◌, nat_lt, Bool}

-- a moment isn't before another one: it is less than half the circle of 2^32 seconds ahead of it (RFC 1982 section 3.2)
abbrev pub ahead : ℕ → ℕ → ℕ
ahead later earlier = (later + (4294967296 - earlier)) % 4294967296

abbrev pub is_not_before : ℕ → ℕ → Bool
is_not_before later earlier = nat_lt (ahead later earlier) 2147483648

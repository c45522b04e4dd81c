-- The order of serials (RFC 1982)
use Rattle.std.specs.Prelude.{ℕ, ◌+◌, ◌-◌, ◌%◌, ◌^◌, ◌&&◌, Bool, nat_lt}

-- how far a serial is ahead of another: they go on from 0 behind 2^32 - 1 (section 3.1)
abbrev pub ahead : ℕ → ℕ → ℕ
ahead serial than = (serial + 2 ^ 32 - than) % 2 ^ 32

-- a serial is greater than another where it is ahead by less than half of all serials (section 3.2)
abbrev pub is_newer : ℕ → ℕ → Bool
is_newer serial than = nat_lt 0 (ahead serial than) && nat_lt (ahead serial than) (2 ^ 31)

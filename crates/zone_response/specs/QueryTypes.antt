-- Types and classes of queries that are no data of a zone
use Rattle.std.specs.Prelude.{ℕ, Bool, ◌&&◌, ◌||◌, ◌==◌, nat_le}

-- a type that no record of a zone has, but for ANY: the reserved type 0, that of OPT, and the types of queries and of what messages carry (RFC 6895 section 3.1)
abbrev pub is_no_data : ℕ → Bool
is_no_data t = (t == 0) || ((t == 41) || (nat_le 128 t && nat_le t 254))

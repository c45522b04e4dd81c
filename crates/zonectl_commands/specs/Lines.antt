-- The lines of an input
use Rattle.std.specs.Prelude.{ℕ, List, Bool, ◌&&◌, nat_le, length, map, Option, Some, None, if◌then◌else◌}
use Rattle.std.specs.List.{list_all}
use Rattle.std.specs.Str.Lines.{lines}

-- a line without its end has at most 4,096 octets, none above 126
abbrev pub is_plain : List ℕ → Bool
is_plain line = nat_le (length line) 4096 && list_all (λ octet. nat_le octet 126) line

-- a line, unless it is too long or has another octet
abbrev pub plain : List ℕ → Option (List ℕ)
plain line = if is_plain line then Some line else None

-- the lines of an input, in order: what precedes each line feed, without the one carriage return at its end if it has
-- one; and what follows the last line feed, as it is, if that isn't empty. `None` stands for a line that is bad by its
-- length or an octet.
abbrev pub lines_of : List ℕ → List (Option (List ℕ))
lines_of input = map plain (lines input)

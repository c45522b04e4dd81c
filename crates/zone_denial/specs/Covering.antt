-- Circles of values: which comes next, and which values a pair of neighbours covers
use Rattle.std.specs.Prelude.{Bool, ◌&&◌, ◌||◌, List, filter, unwrap_or}
use Rattle.std.specs.Option.{option_or}
use Rattle.std.specs.declared.cmp.Ordering.{Ordering}
use Rattle.zone_proto.specs.Order.{is_before, is_upto, least}

-- the next of some values after x: the least of those that come after it, and after the last one the least of all
abbrev pub next_around : {K : Type 0} → (K → K → Ordering) → List K → K → K
next_around cmp xs x = unwrap_or (option_or (least cmp (filter (is_before cmp x) xs)) (least cmp xs)) x

-- an owner o and its next n cover x: x stands strictly between them; or they are the last pair of a circle, whose next is the first, or itself where it is alone, and x stands past its ends
abbrev pub covers : {K : Type 0} → (K → K → Ordering) → K → K → K → Bool
covers cmp o n x = (is_before cmp o x && is_before cmp x n) || (is_upto cmp n o && (is_before cmp o x || is_before cmp x n))

-- Circles of values: which comes before another
use Rattle.std.specs.Prelude.{List, Option, filter}
use Rattle.std.specs.Option.{option_or}
use Rattle.std.specs.declared.cmp.Ordering.{Ordering}
use Rattle.zone_proto.specs.Order.{is_before, greatest}

-- the nearest of some values before x: the greatest of those that come before it, and before the first one the greatest of all
abbrev pub nearest_around : {K : Type 0} → (K → K → Ordering) → List K → K → Option K
nearest_around cmp xs x = option_or (greatest cmp (filter (λ y. is_before cmp y x) xs)) (greatest cmp xs)

-- Octets as they are written
use Rattle.std.specs.Prelude.{ℕ, List}
use Rattle.zone_proto.specs.declared.octets.Octets.{Octets}
use Rattle.zone_proto.specs.declared.octets.Octets.TheVariants.{Short, Long}

-- the octets, in the value itself or in a piece of memory
abbrev pub written : Octets → List ℕ
written (Short octets) = octets
written (Long octets) = octets.items

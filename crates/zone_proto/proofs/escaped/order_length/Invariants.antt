use Rattle.std.specs.List.{AllByRecursion}
use Rattle.zone_proto.specs.Names.{IsLabel}
use Rattle.zone_proto.proofs.escaped.order_length.Given as goal

abbrev pub invariant-loop-label : goal.invariant-loop-label
invariant-loop-label l = AllByRecursion IsLabel l.label-iterator

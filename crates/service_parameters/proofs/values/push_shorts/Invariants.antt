use Rattle.std.proofs.Common.{◌≡◌, ◌++◌, drop}
use Rattle.std.specs.List.{flat_map}
use Rattle.service_parameters.specs.Values.{short}
use Rattle.service_parameters.proofs.values.push_shorts.Given as goal

abbrev pub invariant-loop-number : goal.invariant-loop-number
invariant-loop-number l = l.out.items ++ flat_map short (drop l.number-index l.numbers) ≡ l.fn.out.items ++ flat_map short l.numbers

use Rattle.std.proofs.Common.{◌≡◌, drop, []}
use Rattle.service_parameters.specs.Values.{keys_of}
use Rattle.service_parameters.proofs.values.read_mandatory.Given as goal

abbrev pub invariant-loop-item : goal.invariant-loop-item
invariant-loop-item l = keys_of (drop l.item-index l.items) l.keys.items ≡ keys_of l.items []

use Rattle.std.proofs.Common.{◌≡◌, length}
use Rattle.service_parameters.specs.Parameters.{are_there}
use Rattle.service_parameters.proofs.parameters.Parameters.has_all.Given as goal

abbrev pub invariant-loop-rest : goal.invariant-loop-rest
invariant-loop-rest l = are_there l.rest l.self ≡ are_there l.octets l.self

abbrev pub decreases-loop-rest : goal.decreases-loop-rest
decreases-loop-rest l = length l.rest

use Rattle.std.proofs.Common.{◌≡◌, drop}
use Rattle.line_text.proofs.HexFacts.{after_octets}
use Rattle.service_parameters.specs.Parameters.{all_octets}
use Rattle.service_parameters.proofs.parameters.Parameters.all_octets.Given as goal

abbrev pub invariant-loop-parameter : goal.invariant-loop-parameter
invariant-loop-parameter l = after_octets l.octets.items (all_octets (drop l.parameter-index l.self)) ≡ all_octets l.self

use Rattle.std.proofs.Common.{◌≡◌, [], length}
use Rattle.record_fields.specs.Parameters.{parameters_of}
use Rattle.record_fields.proofs.parameters.read_parameters.Given as goal

abbrev pub invariant-loop-word : goal.invariant-loop-word
invariant-loop-word l = parameters_of l.parameters l.left ≡ parameters_of [] l.words

abbrev pub decreases-loop-word : goal.decreases-loop-word
decreases-loop-word l = length l.left

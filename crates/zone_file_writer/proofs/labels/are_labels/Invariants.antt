use Rattle.std.proofs.Common.{◌≡◌, length}
use Rattle.zone_file_writer.specs.Labels.{is_name}
use Rattle.zone_file_writer.specs.Strings.{strings_of}
use Rattle.zone_file_writer.proofs.labels.are_labels.Given as goal

abbrev pub invariant-loop-label : goal.invariant-loop-label
invariant-loop-label l = is_name (strings_of l.rest) ≡ is_name (strings_of l.octets)

abbrev pub decreases-loop-label : goal.decreases-loop-label
decreases-loop-label l = length l.rest

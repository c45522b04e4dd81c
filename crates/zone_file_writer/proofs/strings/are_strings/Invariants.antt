use Rattle.std.proofs.Common.{◌≡◌, length}
use Rattle.zone_file_writer.specs.Strings.{strings_of}
use Rattle.zone_file_writer.proofs.strings.are_strings.Given as goal

abbrev pub invariant-loop-others : goal.invariant-loop-others
invariant-loop-others l = (strings_of l.rest).1 ≡ (strings_of l.octets).1

abbrev pub decreases-loop-others : goal.decreases-loop-others
decreases-loop-others l = length l.rest

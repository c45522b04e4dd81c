use Rattle.std.proofs.Common.{length}
use Rattle.zone_file_writer.proofs.addresses.+zeros_in_front.Given as goal

abbrev pub decreases-zeros_in_front : goal.decreases-zeros_in_front
decreases-zeros_in_front l = length l.groups.now

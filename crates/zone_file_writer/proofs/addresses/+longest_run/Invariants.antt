use Rattle.std.proofs.Common.{length}
use Rattle.zone_file_writer.proofs.addresses.+longest_run.Given as goal

abbrev pub decreases-longest_run : goal.decreases-longest_run
decreases-longest_run l = length l.groups.now

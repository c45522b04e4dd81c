use Rattle.std.proofs.Common.{length}
use Rattle.record_fields.proofs.prefixes.+used.Given as goal

abbrev pub decreases-used : goal.decreases-used
decreases-used l = length l.octets.now

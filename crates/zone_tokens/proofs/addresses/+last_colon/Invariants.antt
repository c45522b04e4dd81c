use Rattle.std.proofs.Common.{length}
use Rattle.zone_tokens.proofs.addresses.+last_colon.Given as goal

abbrev pub decreases-last_colon : goal.decreases-last_colon
decreases-last_colon l = length l.word.now

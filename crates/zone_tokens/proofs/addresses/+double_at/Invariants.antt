use Rattle.std.proofs.Common.{length}
use Rattle.zone_tokens.proofs.addresses.+double_at.Given as goal

abbrev pub decreases-double_at : goal.decreases-double_at
decreases-double_at l = length l.word.now

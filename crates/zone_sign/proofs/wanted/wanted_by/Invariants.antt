use Rattle.std.proofs.Common.{length}
use Rattle.zone_sign.proofs.wanted.wanted_by.Given as goal

-- fewer words are left after each option
abbrev pub decreases-loop-word : goal.decreases-loop-word
decreases-loop-word l = length l.left

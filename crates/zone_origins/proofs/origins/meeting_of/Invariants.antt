use Rattle.std.proofs.Common.{length}
use Rattle.zone_origins.specs.Nearest.{IsMeetingBelow}
use Rattle.zone_origins.proofs.origins.meeting_of.Given as goal

abbrev pub invariant-loop-meeting : goal.invariant-loop-meeting
invariant-loop-meeting l = IsMeetingBelow l.left l.right l.meeting

abbrev pub decreases-loop-meeting : goal.decreases-loop-meeting
decreases-loop-meeting l = length l.meeting

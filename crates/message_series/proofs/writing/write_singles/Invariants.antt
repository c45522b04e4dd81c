use Rattle.std.proofs.Common.{length}
use Rattle.message_series.proofs.Pushed.{AreWritten}
use Rattle.message_series.proofs.writing.write_singles.Given as goal

abbrev pub invariant-messages : goal.invariant-messages
invariant-messages l = AreWritten l.count l.body.items l.rest l.groups

abbrev pub decreases-messages : goal.decreases-messages
decreases-messages l = length l.rest

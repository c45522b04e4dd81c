use Rattle.std.proofs.Common.{length, map}
use Rattle.message_writing.specs.Responses.{records_of}
use Rattle.zone_server.specs.TransferSteps.{HasSentFirst}
use Rattle.zone_server.proofs.transfer_writer.send_all.Given as goal

-- the sets before those that are left were sent
abbrev pub invariant-loop-left : goal.invariant-loop-left
invariant-loop-left g l =
    HasSentFirst l.query (map records_of l.fn.waiting) (map records_of l.left) l.fn.answers.items l.answers.items (g.W.Write.contents l.fn.output)
    (g.W.Write.contents l.output)

abbrev pub decreases-loop-left : goal.decreases-loop-left
decreases-loop-left g l = length l.left

use Rattle.std.proofs.Common.{length, map}
use Rattle.message_writing.specs.Responses.{records_of}
use Rattle.zone_server.specs.Transfers.{one_by_one}
use Rattle.zone_server.specs.TransferSteps.{HasSentPieces}
use Rattle.zone_server.proofs.transfer_writer.send_one_by_one.Given as goal

-- the records before those that are left were sent
abbrev pub invariant-loop-left : goal.invariant-loop-left
invariant-loop-left g l =
    HasSentPieces l.query (one_by_one (records_of l.group)) (map records_of l.left) l.fn.answers.items l.answers.items
    (g.W.Write.contents l.fn.output) (g.W.Write.contents l.output)

abbrev pub decreases-loop-left : goal.decreases-loop-left
decreases-loop-left g l = length l.left

use Rattle.std.proofs.Common.{[], ◌∷◌, ◌++◌, map}
use Rattle.message_writing.specs.Responses.{records_of, records_together}
use Rattle.zone_server.specs.Transfers.{between, groups_sent, soa_alone}
use Rattle.zone_server.specs.TransferSteps.{HasSentFirst}
use Rattle.zone_server.proofs.transfer_writer.send_sets.Given as goal

-- of all that is sent those that wait are left, the sets that weren't gone over yet, and the SOA
abbrev pub invariant-loop-set : goal.invariant-loop-set
invariant-loop-set g l =
    HasSentFirst l.query (groups_sent l.soa l.sets)
    (map records_of l.waiting.items ++ (map (λ s. records_together (between s)) l.set-iterator ++ records_together (soa_alone l.soa) ∷ []))
    l.fn.answers.items l.answers.items (g.W.Write.contents l.fn.output) (g.W.Write.contents l.output)

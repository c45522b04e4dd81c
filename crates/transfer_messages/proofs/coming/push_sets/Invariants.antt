use Rattle.std.proofs.Common.{◌++◌, drop}
use Rattle.transfer_messages.specs.Gathering.{Gathers}
use Rattle.transfer_messages.specs.Transfers.{sets_records}
use Rattle.message_writing.specs.Responses.{records_together}
use Rattle.zone_server.specs.Transfers.{soa_alone}
use Rattle.transfer_messages.proofs.coming.push_sets.Given as goal

-- the records of the sets that were gone over were gathered
abbrev pub invariant-loop-set : goal.invariant-loop-set
invariant-loop-set l =
    Gathers l.fn.groups.items l.groups.items (drop l.fn.passed (sets_records l.fn.sets ++ records_together (soa_alone l.soa)))
    (drop l.skip (sets_records l.set-iterator ++ records_together (soa_alone l.soa)))

use Rattle.std.proofs.Common.{◌≡◌, ◌++◌, drop}
use Rattle.std.specs.Prelude.{option_copied}
use Rattle.transfer_messages.specs.Transfers.{ahead_of, sets_records}
use Rattle.message_writing.specs.Responses.{records_together}
use Rattle.zone_server.specs.Transfers.{soa_alone}
use Rattle.transfer_messages.proofs.Tails.{IsTailOf}
use Rattle.transfer_messages.proofs.advancing.advance_in.Given as goal

-- what is left is behind so many of the records of the sets that weren't gone over yet
abbrev pub invariant-loop-key : goal.invariant-loop-key
invariant-loop-key l = record {
  left :
      drop l.count (drop l.sent (sets_records l.key-iterator ++ records_together (soa_alone l.transfer.soa.now)))
      ≡ drop l.further (drop l.passed (sets_records (ahead_of l.transfer.sets.now (option_copied l.from)) ++ records_together (soa_alone l.transfer.soa.now)));
  tail : IsTailOf l.key-iterator l.transfer.sets.now;
}

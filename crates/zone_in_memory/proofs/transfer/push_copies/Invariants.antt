use Rattle.std.proofs.Common.{◌≡◌, ◌++◌}
use Rattle.zone_in_memory.proofs.transfer.push_copies.Given as goal

-- the copies so far and the records that are left are the copies of the start and all records
abbrev pub invariant-loop-record : goal.invariant-loop-record
invariant-loop-record l = l.copies.items ++ l.record-iterator ≡ l.fn.copies.items ++ l.fn.records

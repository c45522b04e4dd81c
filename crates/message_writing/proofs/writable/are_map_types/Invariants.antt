use Rattle.message_writing.proofs.MapChecks.{AreChecked}
use Rattle.message_writing.proofs.writable.are_map_types.Given as goal

abbrev pub invariant-loop-record_type : goal.invariant-loop-record_type
invariant-loop-record_type l = AreChecked l.types l.record_type-index l.lowest

use Rattle.std.proofs.Common.{◌≡◌, ◌+◌, drop}
use Rattle.message_writing.specs.TypeMapText.{numbers, run_length}
use Rattle.message_writing.proofs.type_map.run_length.Given as goal

abbrev pub invariant-loop-record_type : goal.invariant-loop-record_type
invariant-loop-record_type l = record {
  counted : l.count ≡ l.record_type-index;
  ran : l.count + run_length l.window (numbers (drop l.record_type-index l.types)) ≡ run_length l.window (numbers l.types);
}

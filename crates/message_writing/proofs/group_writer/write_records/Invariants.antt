use Rattle.std.proofs.Common.{◌≤◌, length, map, take}
use Rattle.message_writing.specs.StrictReading.{strict_record_of}
use Rattle.message_writing.specs.Continuing.{AppendsAll}
use Rattle.message_writing.specs.Responses.{with_ttl}
use Rattle.message_writing.proofs.group_writer.write_records.Given as goal

abbrev pub invariant-loop-record : goal.invariant-loop-record
invariant-loop-record l = record {
  written : AppendsAll strict_record_of l.fn.out.items l.out.items (map (with_ttl l.ttl) (take l.record-index l.records));
  within : length l.out.items ≤ l.setting.room;
}

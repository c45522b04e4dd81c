use Rattle.std.proofs.Common.{◌≡◌, ◌≤◌, length, take}
use Rattle.message_writing.specs.StrictReading.{strict_record_of}
use Rattle.message_writing.specs.Continuing.{AppendsAll}
use Rattle.message_writing.specs.KnownNames.{IsAskedAt}
use Rattle.message_writing.specs.Responses.{all_records}
use Rattle.message_writing.proofs.front_writer.write_groups.Given as goal

abbrev pub invariant-loop-group : goal.invariant-loop-group
invariant-loop-group l = record {
  written : AppendsAll strict_record_of l.fn.out.items l.out.items (all_records (take l.group-index l.groups));
  at : l.count ≡ l.group-index;
  counted : l.records ≡ length (all_records (take l.group-index l.groups));
  asked : IsAskedAt l.out.items l.setting.asked;
  within : length l.out.items ≤ l.setting.room;
}

use Rattle.std.proofs.Common.{map, take}
use Rattle.message_writing.specs.KeptText.{AreBehind}
use Rattle.message_writing.specs.Responses.{with_ttl}
use Rattle.message_writing.proofs.kept_records.with_records.Given as goal

abbrev pub invariant-loop-record : goal.invariant-loop-record
invariant-loop-record l = AreBehind l.origin l.fn.text (map (with_ttl l.ttl) (take l.record-index l.records)) l.text

use Rattle.std.proofs.Common.{◌≡◌, ◌++◌, map, take}
use Rattle.message_writing.specs.Responses.{all_records, with_ttl}
use Rattle.message_series.specs.Singles.{AreSingle}
use Rattle.message_series.proofs.singles.push_each.Given as goal

abbrev pub invariant-loop-record : goal.invariant-loop-record
invariant-loop-record l =
    (all_records l.groups.items ≡ all_records l.initial.groups.items ++ map (with_ttl l.ttl) (take l.record-index l.records)) × AreSingle l.groups.items

use Rattle.std.proofs.Common.{◌≡◌, ◌++◌, map, take}
use Rattle.message_writing.specs.Responses.{records_of, with_ttl}
use Rattle.zone_server.specs.Transfers.{one_by_one}
use Rattle.zone_server.proofs.transfer_records.push_singles.Given as goal

abbrev pub invariant-loop-record : goal.invariant-loop-record
invariant-loop-record l =
    map records_of l.singles.items ≡ map records_of l.initial.singles.items ++ one_by_one (map (with_ttl l.ttl) (take l.record-index l.records))

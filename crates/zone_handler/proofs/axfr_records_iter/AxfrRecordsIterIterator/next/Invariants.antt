use Rattle.std.proofs.Common.{◌≡◌, length}
use Rattle.zone_handler.specs.Answers.{left_in}
use Rattle.zone_handler.specs.Sets.{without_soa}
use Rattle.zone_handler.proofs.axfr_records_iter.AxfrRecordsIterIterator.next.Given as goal

-- what is left without SOA records is what was left so at the call
abbrev pub invariant-loop-record : goal.invariant-loop-record
invariant-loop-record l = without_soa (left_in l.self-inside.records) ≡ l.fn.self

abbrev pub decreases-loop-record : goal.decreases-loop-record
decreases-loop-record l = length (left_in l.self-inside.records)

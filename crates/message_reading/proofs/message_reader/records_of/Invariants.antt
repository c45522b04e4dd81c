use Rattle.std.proofs.Common.{◌≡◌, ◌-◌}
use Rattle.message_reading.specs.Messages.{several, record_of}
use Rattle.message_reading.proofs.Sections.{with_front}
use Rattle.message_reading.proofs.message_reader.records_of.Given as goal

abbrev pub invariant-loop : goal.invariant-loop
invariant-loop l =
    with_front l.records.items (several (record_of l.message) (l.count - l.counter) l.rest) ≡ several (record_of l.message) l.count l.octets

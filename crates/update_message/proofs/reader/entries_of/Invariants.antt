use Rattle.std.proofs.Common.{◌≡◌, ◌-◌}
use Rattle.message_reading.specs.Messages.{several}
use Rattle.update_message.specs.Updates.{entry_of}
use Rattle.message_reading.proofs.Sections.{with_front}
use Rattle.update_message.proofs.reader.entries_of.Given as goal

abbrev pub invariant-loop : goal.invariant-loop
invariant-loop l =
    with_front l.entries.items (several (entry_of l.are_prerequisites l.message) (l.count - l.counter) l.rest) ≡ several (entry_of l.are_prerequisites l.message) l.count l.octets

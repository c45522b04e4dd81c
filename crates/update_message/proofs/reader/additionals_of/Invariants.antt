use Rattle.std.proofs.Common.{◌≡◌, ◌-◌}
use Rattle.message_reading.specs.Messages.{several}
use Rattle.update_message.specs.Updates.{additional_of}
use Rattle.message_reading.proofs.Sections.{with_front}
use Rattle.update_message.proofs.reader.additionals_of.Given as goal

abbrev pub invariant-loop : goal.invariant-loop
invariant-loop l =
    with_front l.frames.items (several additional_of (l.count - l.counter) l.rest) ≡ several additional_of l.count l.octets

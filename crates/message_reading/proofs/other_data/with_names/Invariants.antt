use Rattle.std.proofs.Common.{◌≡◌, ◌-◌}
use Rattle.message_reading.specs.Octets.{past}
use Rattle.message_reading.specs.OtherForms.{with_names}
use Rattle.message_reading.proofs.other_data.with_names.Given as goal

abbrev pub invariant-loop : goal.invariant-loop
invariant-loop l =
    with_names l.plain.items (l.names - l.counter) l.message (past l.at l.octets) l.rest
    ≡ with_names l.initial.plain.items l.names l.message (past l.at l.octets) l.left

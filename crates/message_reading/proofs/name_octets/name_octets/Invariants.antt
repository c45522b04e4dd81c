use Rattle.std.proofs.Common.{◌-◌}
use Rattle.std.specs.Prelude.{option_map}
use Rattle.message_reading.specs.MessageNames.{name_within}
use Rattle.message_reading.proofs.ReadingNames.{IsOnTheWay}
use Rattle.message_reading.proofs.name_octets.name_octets.Given as goal

abbrev pub invariant-loop : goal.invariant-loop
invariant-loop l =
    IsOnTheWay l.message (name_within 256 l.message l.at l.octets) (256 - l.counter) l.before l.text.items l.rest (option_map (λ s. s.now) l.after)

use Rattle.std.proofs.Common.{◌≡◌, ◌-◌}
use Rattle.message_reading.specs.Unread.{behind_owner}
use Rattle.message_reading.proofs.unread.behind_owner.Given as goal

abbrev pub invariant-loop : goal.invariant-loop
invariant-loop l = behind_owner (128 - l.counter) l.rest ≡ behind_owner 128 l.octets

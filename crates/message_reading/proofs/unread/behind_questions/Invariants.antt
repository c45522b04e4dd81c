use Rattle.std.proofs.Common.{◌≡◌, ◌-◌}
use Rattle.message_reading.specs.Unread.{behind_questions}
use Rattle.message_reading.proofs.unread.behind_questions.Given as goal

abbrev pub invariant-loop : goal.invariant-loop
invariant-loop l = behind_questions (l.count - l.counter) l.rest ≡ behind_questions l.count l.octets

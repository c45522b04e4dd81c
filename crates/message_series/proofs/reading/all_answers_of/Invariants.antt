use Rattle.std.proofs.Common.{◌≡◌, ◌-◌}
use Rattle.message_series.specs.Series.{all_answers_of}
use Rattle.message_series.proofs.Counted.{with_front}
use Rattle.message_series.proofs.reading.all_answers_of.Given as goal

abbrev pub invariant-loop : goal.invariant-loop
invariant-loop l = with_front l.records.items (all_answers_of (l.count - l.counter) l.rest) ≡ all_answers_of l.count l.octets

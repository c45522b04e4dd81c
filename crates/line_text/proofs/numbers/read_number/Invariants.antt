use Rattle.std.proofs.Common.{◌≤◌}
use Rattle.line_text.proofs.Digits.{ReadsOn}
use Rattle.line_text.proofs.numbers.read_number.Given as goal

abbrev pub invariant-loop-octet : goal.invariant-loop-octet
invariant-loop-octet l = record { reads : ReadsOn l.base l.word l.value l.octet-index; within : l.value ≤ l.most }

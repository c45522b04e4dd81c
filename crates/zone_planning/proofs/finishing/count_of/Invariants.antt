use Rattle.std.proofs.Common.{◌≡◌, ◌+◌, ◌≤◌, length, drop}
use Rattle.zone_planning.specs.Filling.{numbers_in}
use Rattle.zone_planning.proofs.finishing.count_of.Given as goal

abbrev pub invariant-loop-signature : goal.invariant-loop-signature
invariant-loop-signature l = record {
  count : l.count + length (numbers_in (drop l.signature-index l.signatures)) ≡ length (numbers_in l.signatures);
  few : l.count ≤ l.signature-index;
}

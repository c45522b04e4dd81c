use Rattle.std.proofs.Common.{◌≤◌}
use Rattle.zone_proto.proofs.parser.label_count.Given as goal

abbrev pub invariant-loop-octet : goal.invariant-loop-octet
invariant-loop-octet l = l.dots ≤ 128

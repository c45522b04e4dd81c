use Rattle.std.proofs.Common.{◌≡◌, drop}
use Rattle.zone_proto.specs.Counting.{counted_name, IsCounting}
use Rattle.zone_proto.proofs.counted.after_labels.Given as goal

abbrev pub invariant-loop-passed : goal.invariant-loop-passed
invariant-loop-passed l = record {
  name : counted_name l.rest ≡ drop l._passed (counted_name l.octets);
  counting : IsCounting l.rest (counted_name l.rest);
}

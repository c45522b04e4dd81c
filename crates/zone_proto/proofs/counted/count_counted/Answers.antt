use Rattle.std.proofs.Common.{arith, ap, length}
use Rattle.zone_proto.specs.Counting.{counted_name}
use Rattle.zone_proto.proofs.Names.Countings.{two_a_label}
use Rattle.zone_proto.proofs.counted.count_counted.Goals as goal

pub overflow_add-count : goal.overflow_add-count
overflow_add-count c =
    omega (
      arith,
      two_a_label (counted_name c.args.octets.now) c.requires.labels,
      ap length c.requires.octets,
      ap length c.in-Some.ensures.gives,
      c.loop-after.invariant.counted,
    )

pub returns-clause-fits : goal.returns-clause-fits
returns-clause-fits c =
    omega (
      arith,
      two_a_label (counted_name c.args.octets.now) c.requires.labels,
      ap length c.requires.octets,
      c.loop-after.invariant.counted,
    )

use Rattle.std.proofs.Common.{arith, ap}
use Rattle.std.proofs.lemmas.List.{drop_all}
use Rattle.zone_proto.proofs.Names.Packings.{ends, count_of}
use Rattle.zone_proto.proofs.packed.count_labels.Goals as goal

pub returns-clause-count : goal.returns-clause-count
returns-clause-count c =
    omega (arith, count_of c.args.octets.now, c.loop-octet.invariant.counted, ap ends (drop_all c.loop-octet.octet-index c.args.octets.now (omega arith)))

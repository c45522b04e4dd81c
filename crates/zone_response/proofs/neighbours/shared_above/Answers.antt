use Rattle.std.proofs.Common.{arith}
use Rattle.zone_response.proofs.NextKeys.{at_from_above, shorter_above}
use Rattle.zone_response.proofs.TreeKeys.{shared_at}
use Rattle.zone_response.proofs.neighbours.shared_above.Goals as goal

pub returns-clause-longest : goal.returns-clause-longest
returns-clause-longest c = λ a above below. omega (
  arith,
  c.shared_labels.ensures.most a (at_from_above a c.args.name.now above) below,
  shorter_above a c.args.name.now above,
  c.num_labels.ensures.count,
  c.saturating_sub.ensures,
  c.min.ensures,
)

pub returns-clause-shared : goal.returns-clause-shared
returns-clause-shared c = λ a above long.
    shared_at c.args.name.now c.args.other.now a c.shared_labels.result c.shared_labels.ensures.within c.shared_labels.ensures.shared above (omega (arith, long, c.min.ensures))

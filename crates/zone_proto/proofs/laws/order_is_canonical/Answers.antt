use Rattle.zone_proto.proofs.Ordering.BeforeLaws.{before_from_less, less_from_before}
use Rattle.zone_proto.proofs.laws.order_is_canonical.Goals as goal

pub returns : goal.returns
returns c = λ n m. (before_from_less n m, less_from_before n m)

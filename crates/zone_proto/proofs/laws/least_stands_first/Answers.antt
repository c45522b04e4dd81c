use Rattle.std.specs.Ordering.{nat_cmp}
use Rattle.zone_proto.specs.Names.{name_cmp}
use Rattle.zone_proto.proofs.Ordering.Orders.{least_law, least_there, number_order}
use Rattle.zone_proto.proofs.Names.Tree.{name_order}
use Rattle.zone_proto.proofs.laws.least_stands_first.Goals as goal

pub returns : goal.returns
returns c =
    record {
      name = least_law name_order;
      no_name = least_there name_cmp;
      number = least_law number_order;
      no_number = least_there nat_cmp;
    }

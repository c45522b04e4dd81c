use Rattle.std.specs.Ordering.{nat_cmp}
use Rattle.zone_proto.specs.Names.{name_cmp}
use Rattle.zone_proto.proofs.Ordering.Orders.{greatest_law, greatest_there, number_order}
use Rattle.zone_proto.proofs.Names.Tree.{name_order}
use Rattle.zone_proto.proofs.laws.greatest_stands_last.Goals as goal

pub returns : goal.returns
returns c =
    record {
      name = greatest_law name_order;
      no_name = greatest_there name_cmp;
      number = greatest_law number_order;
      no_number = greatest_there nat_cmp;
    }

use Rattle.zone_proto.specs.NameLaws.{name_cmp_total, caseless_cmp_total}
use Rattle.zone_proto.proofs.Ordering.KeyLaws.{key_cmp_total}
use Rattle.zone_proto.proofs.laws.orders_are_total.Goals as goal

pub returns-clause-lower_names : goal.returns-clause-lower_names
returns-clause-lower_names c = name_cmp_total

pub returns-clause-names : goal.returns-clause-names
returns-clause-names c = caseless_cmp_total

pub returns-clause-keys : goal.returns-clause-keys
returns-clause-keys c = key_cmp_total

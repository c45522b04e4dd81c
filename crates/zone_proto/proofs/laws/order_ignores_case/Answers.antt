use Rattle.std.proofs.Common.{sym, ap, ◌∙◌}
use Rattle.zone_proto.specs.Names.{lower, name_cmp}
use Rattle.zone_proto.specs.NameLaws.{exact_caseless}
use Rattle.zone_proto.proofs.Names.NameTree.{name_itself}
use Rattle.zone_proto.proofs.laws.order_ignores_case.Goals as goal

pub returns-clause-equal : goal.returns-clause-equal
returns-clause-equal c = λ n m. (exact_caseless n m, λ e. ap (name_cmp (lower n)) (sym e) ∙ name_itself (lower n))

use Rattle.std.proofs.Common.{sym, ap, ◌∙◌}
use Rattle.zone_proto.specs.Names.{name_cmp}
use Rattle.zone_proto.specs.NameLaws.{exact_names}
use Rattle.zone_proto.proofs.Names.NameTree.{name_itself}
use Rattle.zone_proto.proofs.laws.equal_is_identical.Goals as goal

pub returns : goal.returns
returns c = λ n m. (exact_names n m, λ e. ap (name_cmp n) (sym e) ∙ name_itself n)

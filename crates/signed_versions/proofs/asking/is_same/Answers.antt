use Rattle.std.proofs.Common.{sym, ◌∙◌}
use Rattle.zone_proto.specs.NameLaws.{exact_names}
use Rattle.zone_proto.specs.Names.{name_cmp}
use Rattle.zone_proto.proofs.Ordering.KeyOrder.{equal_of}
use Rattle.signed_versions.proofs.asking.is_same.Goals as goal

pub returns : goal.returns
returns c = λ h. exact_names c.args.name.now c.args.other.now (equal_of (name_cmp c.args.name.now c.args.other.now) (sym c.eq.ensures ∙ h))

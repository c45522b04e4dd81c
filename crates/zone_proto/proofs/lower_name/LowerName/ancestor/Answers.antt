use Rattle.std.proofs.Common.{sym, subst}
use Rattle.zone_proto.specs.Names.{IsLowerName}
use Rattle.zone_proto.proofs.Names.NameParts.{last_lower_labels}
use Rattle.zone_proto.proofs.lower_name.LowerName.ancestor.Goals as goal

pub invariant_of-result : goal.invariant_of-result
invariant_of-result c = subst IsLowerName (sym c.in_ok-without_first.ensures.ok) (last_lower_labels c.saturating_sub-taken.result c.self.inside.name c.self.invariant)

use Rattle.std.proofs.Common.{subst, sym}
use Rattle.zone_proto.specs.Names.{IsName, IsLowerName}
use Rattle.zone_proto.specs.Forms.{labels_of}
use Rattle.zone_proto.proofs.Names.Lower.{IsLowerName-lower}
use Rattle.zone_proto.proofs.name.Name.into_lower_case.Goals as goal

pub invariant_of-result : goal.invariant_of-result
invariant_of-result c = subst IsName (sym c.lower.ensures) (IsLowerName-lower (labels_of c.self.inside.form) c.self.invariant).name

pub returns-clause-valid : goal.returns-clause-valid
returns-clause-valid c = subst IsLowerName (sym c.lower.ensures) (IsLowerName-lower (labels_of c.self.inside.form) c.self.invariant)

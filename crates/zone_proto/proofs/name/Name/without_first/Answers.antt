use Rattle.std.proofs.Common.{sym, subst}
use Rattle.zone_proto.specs.Forms.{labels_of}
use Rattle.zone_proto.specs.Names.{IsName}
use Rattle.zone_proto.proofs.Names.NameParts.{last_labels}
use Rattle.zone_proto.proofs.name.Name.without_first.Goals as goal

pub invariant_of-result : goal.invariant_of-result
invariant_of-result c = subst IsName (sym c.in_ok-without_first.ensures) (last_labels c.args.count (labels_of c.self.inside.form) c.self.invariant)

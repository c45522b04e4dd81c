use Rattle.std.proofs.Common.{◌≡◌, sym, take, subst, [], rules}
use Rattle.zone_proto.specs.Packing.{name_of, IsPacking}
use Rattle.zone_proto.proofs.Names.FirstLabels.{base_is_packing, split_gives}
use Rattle.zone_proto.proofs.packed.split_label.Goals as goal

pub returns-clause-gives : goal.returns-clause-gives
returns-clause-gives c =
    let some : c.args.octets.now ≡ [] → ⊥ = λ e. search rules in
    split_gives c.args.octets.now c.first_label_at-start.result c.requires some c.first_label_at-start.ensures

pub returns-clause-base : goal.returns-clause-base
returns-clause-base c =
    let s = c.args.octets.now in
    subst (λ k. IsPacking (take k s) (name_of (take k s))) (sym c.first_label_at-start.ensures) (base_is_packing s c.requires)

use Rattle.std.proofs.Common.{refl, ◌∙◌, ap}
use Rattle.std.specs.List.{list_any}
use Rattle.zone_proto.specs.Names.{is_at_or_above}
use Rattle.zone_map.specs.DenialOwners.{Listed}
use Rattle.zone_map.proofs.OwnersBelow.{none_tells, first_tells}
use Rattle.zone_map.proofs.owner_index.OwnerIndex.owns_other_at_or_below.Goals as goal

pub returns-in-Some : goal.returns-in-Some
returns-in-Some c =
    let names = c.self.inside.others.keys in
    first_tells c.args.name.now names names c.range.result refl c.range.ensures.ordered (c.range.ensures.between tt) c.in-Some.first.now c.next.new.self c.zone_of.result c.in-Some.ensures.steps c.zone_of.ensures
    ∙ ap (λ (l : Listed). list_any (is_at_or_above c.args.name.now) l.others) c.self.view_is

pub returns-in-None : goal.returns-in-None
returns-in-None c =
    let names = c.self.inside.others.keys in
    none_tells c.args.name.now names names c.range.result refl c.range.ensures.ordered (c.range.ensures.between tt) c.in-None.ensures.steps.0
    ∙ ap (λ (l : Listed). list_any (is_at_or_above c.args.name.now) l.others) c.self.view_is

use Rattle.std.proofs.Common.{true, false, refl, sym, ◌∙◌}
use Rattle.std.specs.List.{list_any}
use Rattle.std.specs.Ordering.{is_eq}
use Rattle.zone_proto.specs.Names.{name_cmp}
use Rattle.zone_lookup.proofs.SeenNames.{in_either}
use Rattle.zone_lookup.proofs.seen_names.SeenNames.contains.Goals as goal

pub returns-then-contains : goal.returns-then-contains
returns-then-contains c =
    c.if-contains.true
    ∙ in_either c.args.name.now c.self.inside.few.items c.deref.result.now c.self.inside.others.keys c.args.self.now true (list_any (λ k. is_eq (name_cmp c.args.name.now k)) c.self.inside.others.keys)
    c.deref.ensures.value c.self.view_is (sym c.if-contains.true ∙ c.contains.ensures.value) refl

pub returns-else-contains : goal.returns-else-contains
returns-else-contains c =
    in_either c.args.name.now c.self.inside.few.items c.deref.result.now c.self.inside.others.keys c.args.self.now false c.contains-else-contains.result
    c.deref.ensures.value c.self.view_is (sym c.if-contains.false ∙ c.contains.ensures.value) c.contains-else-contains.ensures

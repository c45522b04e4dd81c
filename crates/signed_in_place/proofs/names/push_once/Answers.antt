use Rattle.std.proofs.Common.{◌-◌, List, false, sym, ap, ◌∙◌, length}
use Rattle.std.specs.List.{slice_get}
use Rattle.std.specs.Option.{option_map_or}
use Rattle.zone_proto.specs.Names.{Name, name_eq}
use Rattle.signed_in_place.proofs.OwnersPushed.{already, one_behind}
use Rattle.signed_in_place.proofs.names.push_once.Goals as goal

pub returns-then-is_last-clause-ok : goal.returns-then-is_last-clause-ok
returns-then-is_last-clause-ok c = λ n.
    let a = c.args.name.now in
    already c.args.names.now.items a n
    (ap (λ (ns : List Name). option_map_or (name_eq a) (slice_get ns (length ns - 1)) false) (sym c.as_slice.ensures.value) ∙ sym c.is_last.ensures ∙ c.if-is_last.true)

pub returns-clause-ok : goal.returns-clause-ok
returns-clause-ok c = λ n. one_behind c.args.names.now.items c.push.new.self.items c.args.name.now c.in_ok-clone.field-0 n c.in_ok-push.ensures.items c.in_ok-clone.ensures.copy.ok

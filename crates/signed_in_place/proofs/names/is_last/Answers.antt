use Rattle.std.proofs.Common.{false, ap, ◌∙◌}
use Rattle.std.specs.Option.{option_map_or}
use Rattle.std.specs.Prelude.{Option}
use Rattle.zone_proto.specs.Names.{Name, name_eq}
use Rattle.signed_in_place.proofs.OwnersPushed.{tied_are_same}
use Rattle.signed_in_place.proofs.names.is_last.Goals as goal

pub returns-in-Some : goal.returns-in-Some
returns-in-Some c =
    c.eq.ensures
    ∙ tied_are_same c.args.name.now c.in-Some.last.now
    ∙ ap (λ (o : Option Name). option_map_or (name_eq c.args.name.now) o false) c.in-Some.ensures.value

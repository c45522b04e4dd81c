use Rattle.std.proofs.Common.{◌||◌, Bool, false, ap, ◌∙◌}
use Rattle.std.proofs.Math.Bool.{or_assoc}
use Rattle.std.specs.Option.{option_map_or}
use Rattle.std.specs.Prelude.{Option}
use Rattle.zone_proto.specs.Names.{Name, name_eq}
use Rattle.update_in_place.specs.Parts.{is_among}
use Rattle.chain_changes.specs.Renewal.{is_touched_by, nearest_before}
use Rattle.chain_changes.proofs.touched.push_renewed.Goals as goal

pub returns-clause-ok : goal.returns-clause-ok
returns-clause-ok c = λ n.
    let origin = c.args.origin.now in
    let m = c.args.zone.now in
    let k = c.args.key.now in
    let old = is_among c.args.names.now.items n in
    c.in_ok-push_if.ensures.ok n
    ∙ ap (λ (o : Option Name). is_among c.push_touched.new.names.items n || option_map_or (name_eq n) o false) c.in_ok-nearest.ensures.ok
    ∙ ap (λ (b : Bool). b || option_map_or (name_eq n) (nearest_before origin m k.name) false) (c.in_ok-push_touched.ensures.ok n)
    ∙ or_assoc old (is_touched_by origin m k n) (option_map_or (name_eq n) (nearest_before origin m k.name) false)

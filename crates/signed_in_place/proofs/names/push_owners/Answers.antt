use Rattle.std.proofs.Common.{◌||◌, Bool, sym, ap, ◌∙◌}
use Rattle.std.proofs.Math.Bool.{or_assoc, or-false}
use Rattle.zone_proto.specs.Names.{name_eq}
use Rattle.zone_map.specs.Zones.{Sets, names_of}
use Rattle.update_in_place.specs.Parts.{is_among}
use Rattle.signed_in_place.proofs.names.push_owners.Goals as goal

pub loop-key-preserved : goal.loop-key-preserved
loop-key-preserved c = λ n.
    let so_far = is_among c.loop-key.names.items n in
    let a = c.in-Some.key.now.name in
    let left = is_among (names_of c.next.new.self) n in
    ap (λ (b : Bool). b || left) (c.in_ok-push_once.ensures.ok n)
    ∙ or_assoc so_far (name_eq n a) left
    ∙ ap (λ (es : Sets). so_far || is_among (names_of es) n) (sym c.in-Some.ensures.steps)
    ∙ c.loop-key.invariant n

pub returns-clause-ok : goal.returns-clause-ok
returns-clause-ok c = λ n.
    let so_far = is_among c.loop-key.names.items n in
    sym (or-false so_far) ∙ ap (λ (es : Sets). so_far || is_among (names_of es) n) (sym c.in-None.ensures.steps.0) ∙ c.loop-key.invariant n

use Rattle.std.proofs.Common.{◌≡◌, List, ap, ◌∙◌}
use Rattle.zone_proto.specs.Names.{Name}
use Rattle.update_in_place.specs.Parts.{names_about, sets_of}
use Rattle.update_in_place.proofs.Made.{planned, refused_alone}
use Rattle.update_in_place.proofs.in_place.planned_changes.Goals as goal

pub returns-clause-planned : goal.returns-clause-planned
returns-clause-planned c =
    let o = c.args.origin.now in
    let m = c.args.zone.now in
    let rs = c.args.changes.items in
    let is_before : c.in_ok-before.before ≡ sets_of (names_about o rs) m =
    c.in_ok-before.ensures.ok ∙ ap (λ (ns : List Name). sets_of ns m) (c.as_slice-2.ensures.value ∙ c.in_ok-names.ensures.ok ∙ ap (names_about o) c.as_slice.ensures.value) in
    planned o rs m c.in_ok-before.before is_before c.in-Ok.after c.len-had.ensures.zone.ordered c.in-Ok.ensures

pub returns-in-Err-clause-refused : goal.returns-in-Err-clause-refused
returns-in-Err-clause-refused c =
    let o = c.args.origin.now in
    let m = c.args.zone.now in
    let rs = c.args.changes.items in
    let is_before : c.in_ok-before.before ≡ sets_of (names_about o rs) m =
    c.in_ok-before.ensures.ok ∙ ap (λ (ns : List Name). sets_of ns m) (c.as_slice-2.ensures.value ∙ c.in_ok-names.ensures.ok ∙ ap (names_about o) c.as_slice.ensures.value) in
    refused_alone o rs m c.in_ok-before.before is_before c.in-Err.refusal c.in-Err.ensures

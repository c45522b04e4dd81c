use Rattle.std.proofs.Common.{◌≡◌, List, ap, refl, ◌∙◌, Ok}
use Rattle.zone_proto.specs.Names.{Name}
use Rattle.update_in_place.specs.Parts.{names_about, sets_of}
use Rattle.update_in_place.proofs.PermittedPart.{planned_none, planned_refused, planned_some}
use Rattle.update_in_place.proofs.permitted.planned_alone.Goals as goal

pub returns-in-Ok-Some : goal.returns-in-Ok-Some
returns-in-Ok-Some c =
    let o = c.args.origin.now in
    let m = c.args.zone.now in
    let rs = c.args.changes.items in
    let is_before : c.in_ok-before.before ≡ sets_of (names_about o rs) m =
    c.in_ok-before.ensures.ok ∙ ap (λ (ns : List Name). sets_of ns m) (c.as_slice-2.ensures.value ∙ c.in_ok-names.ensures.ok ∙ ap (names_about o) c.as_slice.ensures.value) in
    planned_some c.args.rules.now c.args.key.now o rs m c.in_ok-before.before c.len-had.ensures.zone.ordered is_before
    (record { before = c.in_ok-before.before; after = c.in-Ok-Some.after }) c.in-Ok-Some.after refl refl (c.in-Ok-Some.ensures ∙ ap Ok c.in-Ok-Some.field-0-is)

pub returns-in-Ok-None : goal.returns-in-Ok-None
returns-in-Ok-None c =
    let o = c.args.origin.now in
    let m = c.args.zone.now in
    let rs = c.args.changes.items in
    let is_before : c.in_ok-before.before ≡ sets_of (names_about o rs) m =
    c.in_ok-before.ensures.ok ∙ ap (λ (ns : List Name). sets_of ns m) (c.as_slice-2.ensures.value ∙ c.in_ok-names.ensures.ok ∙ ap (names_about o) c.as_slice.ensures.value) in
    planned_none c.args.rules.now c.args.key.now o rs m c.in_ok-before.before c.len-had.ensures.zone.ordered is_before (c.in-Ok-None.ensures ∙ ap Ok c.in-Ok-None.field-0-is)

pub returns : goal.returns
returns c =
    let o = c.args.origin.now in
    let m = c.args.zone.now in
    let rs = c.args.changes.items in
    let is_before : c.in_ok-before.before ≡ sets_of (names_about o rs) m =
    c.in_ok-before.ensures.ok ∙ ap (λ (ns : List Name). sets_of ns m) (c.as_slice-2.ensures.value ∙ c.in_ok-names.ensures.ok ∙ ap (names_about o) c.as_slice.ensures.value) in
    planned_refused c.args.rules.now c.args.key.now o rs m c.in_ok-before.before c.len-had.ensures.zone.ordered is_before c.in-Err.refusal c.in-Err.ensures

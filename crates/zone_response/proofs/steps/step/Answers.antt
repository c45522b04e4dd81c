use Rattle.std.proofs.Common.{◌≡◌, true, refl, sym, ap, ◌∙◌}
use Rattle.std.specs.Prelude.{Some, option_map}
use Rattle.zone_proto.specs.Names.{is_at_or_above}
use Rattle.zone_response.specs.Queries.{inquiry_of}
use Rattle.zone_response.specs.Dname.{dname_target}
use Rattle.zone_response.specs.Sections.{sent_sets}
use Rattle.zone_response.specs.Steps.{outside, referred, ends, step, target_step, diverted_step}
use Rattle.zone_response.specs.Descent.{cut, renaming, diversion_at, diversion_of}
use Rattle.zone_response.proofs.StepCases.{at_its_end, same_step, outside_step, inside_step}
use Rattle.zone_response.proofs.TurnWalk.{of_above, of_itself}
use Rattle.zone_response.proofs.steps.step.Goals as goal

pub returns-then-not-is_at_or_above-clause-ok : goal.returns-then-not-is_at_or_above-clause-ok
returns-then-not-is_at_or_above-clause-ok g c =
    let q = inquiry_of g.S.Signer.signature_of c.args.asked c.args.inner.now in
    let x = c.args.name.now in
    let before = sent_sets c.args.so_far.now.answers in
    at_its_end (step q before x) (outside x) c.args.so_far.now _ (outside_step q x before (sym c.is_at_or_above.ensures ∙ c.if-not-is_at_or_above.true))
    (ap (λ y. ends (outside y)) c.in_ok-clone.ensures.copy.ok)

pub returns-in-Some-Cut-clause-ok : goal.returns-in-Some-Cut-clause-ok
returns-in-Some-Cut-clause-ok g c =
    let q = inquiry_of g.S.Signer.signature_of c.args.asked c.args.inner.now in
    let x = c.args.name.now in
    let before = sent_sets c.args.so_far.now.answers in
    let inside : is_at_or_above q.origin x ≡ true = sym c.is_at_or_above.ensures ∙ c.if-not-is_at_or_above.false in
    let s = c.in-Some-Cut.cut.now in
    at_its_end (step q before x) (referred s) c.args.so_far.now _
    (inside_step q x before (Some (cut s)) inside
    (of_above q.origin q.sets x q.record_type (cut s) (ap (λ t. Some (diversion_of t)) (sym c.in-Some-Cut.field-0-is) ∙ ap (option_map diversion_of) (sym c.in-Some-Cut.is) ∙ c.in_ok-cut.ensures.ok q.record_type))) refl

pub returns-in-None-clause-ok : goal.returns-in-None-clause-ok
returns-in-None-clause-ok g c =
    let q = inquiry_of g.S.Signer.signature_of c.args.asked c.args.inner.now in
    let x = c.args.name.now in
    let before = sent_sets c.args.so_far.now.answers in
    let inside : is_at_or_above q.origin x ≡ true = sym c.is_at_or_above.ensures ∙ c.if-not-is_at_or_above.false in
    let here = diversion_at q.origin q.sets x q.record_type x in
    same_step c.own_step.result c.args.so_far.now c.own_step.new.so_far (step q before x) (diverted_step q before x here)
    (inside_step q x before here inside (of_itself q.origin q.sets x q.record_type (ap (option_map diversion_of) (sym c.in-None.is) ∙ c.in_ok-cut.ensures.ok q.record_type))) c.own_step.ensures.ok

pub returns-in-Some-Renaming-clause-ok : goal.returns-in-Some-Renaming-clause-ok
returns-in-Some-Renaming-clause-ok g c =
    let q = inquiry_of g.S.Signer.signature_of c.args.asked c.args.inner.now in
    let x = c.args.name.now in
    let before = sent_sets c.args.so_far.now.answers in
    let inside : is_at_or_above q.origin x ≡ true = sym c.is_at_or_above.ensures ∙ c.if-not-is_at_or_above.false in
    let s = c.in-Some-Renaming.dname.now in
    same_step c.target_step.result c.args.so_far.now c.target_step.new.so_far (step q before x) (target_step q.signed q.record_type before x s (dname_target s))
    (inside_step q x before (Some (renaming s)) inside
    (of_above q.origin q.sets x q.record_type (renaming s) (ap (λ t. Some (diversion_of t)) (sym c.in-Some-Renaming.field-0-is) ∙ ap (option_map diversion_of) (sym c.in-Some-Renaming.is) ∙ c.in_ok-cut.ensures.ok q.record_type))) c.target_step.ensures.ok

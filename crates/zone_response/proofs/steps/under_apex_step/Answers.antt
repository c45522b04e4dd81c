use Rattle.std.proofs.Common.{ap, ◌∙◌, sym}
use Rattle.std.specs.Prelude.{Some}
use Rattle.zone_proto.specs.Names.{wildcard_of}
use Rattle.zone_response.specs.Queries.{inquiry_of}
use Rattle.zone_response.specs.Steps.{wildcard_step}
use Rattle.zone_response.specs.Wildcards.{source_of_synthesis}
use Rattle.zone_response.proofs.StepCases.{same_step}
use Rattle.zone_response.proofs.UnderApex.{source_under_apex}
use Rattle.zone_response.proofs.steps.under_apex_step.Goals as goal

pub returns-clause-ok : goal.returns-clause-ok
returns-clause-ok g c =
    let q = inquiry_of g.S.Signer.signature_of c.args.asked c.args.inner.now in
    let x = c.args.name.now in
    let wildcard = c.into_wildcard-wildcard.result in
    same_step c.starred_step.result c.args.so_far.now c.starred_step.new.so_far (wildcard_step q x (source_of_synthesis q.sets x)) (wildcard_step q x (Some wildcard))
    (ap (wildcard_step q x)
    (sym (ap Some (c.into_wildcard-wildcard.ensures ∙ ap wildcard_of c.in_ok-clone.ensures.copy.ok) ∙ source_under_apex q.sets q.origin x c.requires)))
    c.starred_step.ensures.ok

use Rattle.std.proofs.Common.{ap}
use Rattle.std.specs.Prelude.{Some}
use Rattle.zone_response.specs.Queries.{inquiry_of}
use Rattle.zone_response.specs.Steps.{wildcard_step}
use Rattle.zone_response.proofs.StepCases.{same_step}
use Rattle.zone_response.proofs.steps.wildcard_step.Goals as goal

pub returns-clause-ok : goal.returns-clause-ok
returns-clause-ok g c =
    let q = inquiry_of g.S.Signer.signature_of c.args.asked c.args.inner.now in
    let x = c.args.name.now in
    same_step c.starred_step.result c.args.so_far.now c.starred_step.new.so_far (wildcard_step q x c.args.wildcard) (wildcard_step q x (Some c.in-Some.wildcard))
    (ap (wildcard_step q x) c.in-Some.is) c.starred_step.ensures.ok

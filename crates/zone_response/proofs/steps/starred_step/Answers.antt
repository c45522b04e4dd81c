use Rattle.std.proofs.Common.{◌≡◌, true, false, sym, ap, ◌∙◌}
use Rattle.std.specs.Prelude.{Some}
use Rattle.zone_map.specs.Wildcards.{exists}
use Rattle.zone_response.specs.Nodes.{at_node, node_of}
use Rattle.zone_response.specs.Queries.{inquiry_of}
use Rattle.zone_response.specs.Steps.{missing, wildcard_step, node_step}
use Rattle.zone_response.proofs.StepCases.{at_its_end, same_step, starred_step, starless_step}
use Rattle.zone_response.proofs.steps.starred_step.Goals as goal

pub returns-then-not-exists-clause-ok : goal.returns-then-not-exists-clause-ok
returns-then-not-exists-clause-ok g c =
    let q = inquiry_of g.S.Signer.signature_of c.args.asked c.args.inner.now in
    let x = c.args.name.now in
    let wildcard = c.args.wildcard in
    let absent : exists q.sets wildcard ≡ false = sym (ap (exists q.sets) c.requires.name) ∙ sym c.exists.ensures.exists ∙ c.if-not-exists.true in
    at_its_end (wildcard_step q x (Some wildcard)) (missing x (Some wildcard) false) c.args.so_far.now _
    (starless_step q x wildcard absent) c.in_ok-at_missing.ensures.ok

pub returns-clause-ok : goal.returns-clause-ok
returns-clause-ok g c =
    let q = inquiry_of g.S.Signer.signature_of c.args.asked c.args.inner.now in
    let x = c.args.name.now in
    let wildcard = c.args.wildcard in
    let there : exists q.sets wildcard ≡ true = sym (ap (exists q.sets) c.requires.name) ∙ sym c.exists.ensures.exists ∙ c.if-not-exists.false in
    let node = node_of c.in_ok-node.node in
    same_step c.node_step.result c.args.so_far.now c.node_step.new.so_far (wildcard_step q x (Some wildcard)) (node_step q (Some wildcard) x node)
    (starred_step q x wildcard node there (c.in_ok-node.ensures.node ∙ ap (λ n. at_node q.sets n q.record_type) c.requires.name)) c.node_step.ensures.ok

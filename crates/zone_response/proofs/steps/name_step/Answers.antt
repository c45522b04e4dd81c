use Rattle.std.proofs.Common.{◌≡◌, true, false, refl, sym, ap, ◌∙◌}
use Rattle.std.specs.Prelude.{None}
use Rattle.zone_map.specs.Wildcards.{exists}
use Rattle.zone_response.specs.Nodes.{at_node, node_of}
use Rattle.zone_response.specs.Queries.{inquiry_of}
use Rattle.zone_response.specs.Steps.{name_step, wildcard_step, node_step}
use Rattle.zone_response.specs.Wildcards.{source_of_synthesis}
use Rattle.zone_response.proofs.StepCases.{same_step, own_step, absent_step}
use Rattle.zone_response.proofs.steps.name_step.Goals as goal

pub returns-then-exists-clause-ok : goal.returns-then-exists-clause-ok
returns-then-exists-clause-ok g c =
    let q = inquiry_of g.S.Signer.signature_of c.args.asked c.args.inner.now in
    let x = c.args.name.now in
    let there : exists q.sets x ≡ true = sym (ap (exists q.sets) c.requires.name) ∙ sym c.exists.ensures.exists ∙ c.if-exists.true in
    let node = node_of c.in_ok-node.node in
    same_step c.node_step.result c.args.so_far.now c.node_step.new.so_far (name_step q x) (node_step q None x node)
    (own_step q x node there (c.in_ok-node.ensures.node ∙ ap (λ n. at_node q.sets n q.record_type) c.requires.name)) c.node_step.ensures.ok

pub returns-then-under_apex-clause-ok : goal.returns-then-under_apex-clause-ok
returns-then-under_apex-clause-ok g c =
    let q = inquiry_of g.S.Signer.signature_of c.args.asked c.args.inner.now in
    let x = c.args.name.now in
    let absent : exists q.sets x ≡ false = sym (ap (exists q.sets) c.requires.name) ∙ sym c.exists.ensures.exists ∙ c.if-exists.false in
    same_step c.under_apex_step.result c.args.so_far.now c.under_apex_step.new.so_far (name_step q x) (wildcard_step q x (source_of_synthesis q.sets x))
    (absent_step q x (source_of_synthesis q.sets x) absent refl) c.under_apex_step.ensures.ok

pub returns-clause-ok : goal.returns-clause-ok
returns-clause-ok g c =
    let q = inquiry_of g.S.Signer.signature_of c.args.asked c.args.inner.now in
    let x = c.args.name.now in
    let absent : exists q.sets x ≡ false = sym (ap (exists q.sets) c.requires.name) ∙ sym c.exists.ensures.exists ∙ c.if-exists.false in
    same_step c.wildcard_step.result c.args.so_far.now c.wildcard_step.new.so_far (name_step q x) (wildcard_step q x c.in_ok-wildcard.wildcard)
    (absent_step q x c.in_ok-wildcard.wildcard absent c.in_ok-wildcard.ensures.wildcard) c.wildcard_step.ensures.ok

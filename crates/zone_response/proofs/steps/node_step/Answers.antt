use Rattle.std.proofs.Common.{true, [], ◌∷◌, ◌++◌, refl, sym, ap, ◌∙◌, subst}
use Rattle.zone_response.specs.declared.nodes.Node.{Node}
use Rattle.zone_response.specs.Nodes.{node_of}
use Rattle.zone_response.specs.Queries.{inquiry_of}
use Rattle.zone_response.specs.Sections.{as_it_is, sent_sets}
use Rattle.zone_response.specs.Steps.{missing, as_found_for, stand_in_step, node_step, Takes}
use Rattle.zone_response.proofs.StepCases.{at_its_end, same_step}
use Rattle.zone_response.proofs.steps.node_step.Goals as goal

pub returns-in_ok-answer-in-Own-clause-ok : goal.returns-in_ok-answer-in-Own-clause-ok
returns-in_ok-answer-in-Own-clause-ok g c =
    let x = c.args.name.now in
    subst (λ n. Takes (node_step (inquiry_of g.S.Signer.signature_of c.args.asked c.args.inner.now) c.args.wildcard x (node_of n)) c.args.so_far.now c.answer.new.so_far _) (sym c.in-Own.is)
    (record {
      answers =
          c.in_ok-answer-in-Own.ensures.answers
          ∙ (λ i. sent_sets c.args.so_far.now.answers ++ as_it_is (c.own_part-part.ensures i) (as_found_for (c.keeps.ensures i) c.args.wildcard x c.in-Own.set.now) ∷ []);
      made = c.in_ok-answer-in-Own.ensures.made;
      next = refl;
    })

pub returns-in_ok-after_alias-in-Alias-clause-ok : goal.returns-in_ok-after_alias-in-Alias-clause-ok
returns-in_ok-after_alias-in-Alias-clause-ok g c =
    let x = c.args.name.now in
    subst (λ n. Takes (node_step (inquiry_of g.S.Signer.signature_of c.args.asked c.args.inner.now) c.args.wildcard x (node_of n)) c.args.so_far.now c.answer-in-Alias.new.so_far c.in_ok-after_alias-in-Alias.field-0) (sym c.in-Alias.is)
    (record {
      answers =
          c.in_ok-answer-in-Alias.ensures.answers
          ∙ (λ i. sent_sets c.args.so_far.now.answers ++ as_it_is (c.part_for-part.ensures i) (as_found_for (c.keeps-in-Alias.ensures i) c.args.wildcard x c.in-Alias.set.now) ∷ []);
      made = c.in_ok-answer-in-Alias.ensures.made;
      next = c.in_ok-after_alias-in-Alias.ensures.ok;
    })

pub returns-in_ok-at_missing-in-Nothing-clause-ok : goal.returns-in_ok-at_missing-in-Nothing-clause-ok
returns-in_ok-at_missing-in-Nothing-clause-ok g c =
    let step_of = λ (n : Node). node_step (inquiry_of g.S.Signer.signature_of c.args.asked c.args.inner.now) c.args.wildcard c.args.name.now (node_of n) in
    at_its_end (step_of c.args.node) (missing c.args.name.now c.args.wildcard true) c.args.so_far.now c.in_ok-at_missing-in-Nothing.field-0 (ap step_of c.in-Nothing.is) c.in_ok-at_missing-in-Nothing.ensures.ok

pub returns-in-StandIn-clause-ok : goal.returns-in-StandIn-clause-ok
returns-in-StandIn-clause-ok g c =
    let q = inquiry_of g.S.Signer.signature_of c.args.asked c.args.inner.now in
    let step_of = λ (n : Node). node_step q c.args.wildcard c.args.name.now (node_of n) in
    same_step c.stand_in_step.result c.args.so_far.now c.stand_in_step.new.so_far (step_of c.args.node) (stand_in_step q c.args.wildcard c.args.name.now c.in-StandIn.set.now)
    (ap step_of c.in-StandIn.is) c.stand_in_step.ensures.ok

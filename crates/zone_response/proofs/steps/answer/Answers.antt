use Rattle.std.proofs.Common.{◌≡◌, [], ◌∷◌, ◌++◌, ap, ◌∙◌}
use Rattle.std.proofs.lemmas.Result.{on_ok_weaker}
use Rattle.zone_proto.specs.Sets.{RRset}
use Rattle.zone_response.specs.Sections.{sent, sent_sets}
use Rattle.zone_response.specs.Steps.{as_found_for}
use Rattle.zone_response.proofs.steps.answer.Goals as goal

pub returns-clause-answers : goal.returns-clause-answers
returns-clause-answers c =
    let made = as_found_for c.args.keep c.args.wildcard c.args.name.now c.args.set.now in
    let ttl : c.ttl-ttl.result ≡ made.ttl = c.ttl-ttl.ensures ∙ ap (λ (s : RRset). s.ttl) (c.set.ensures ∙ c.in_ok-found.ensures.ok) in
    on_ok_weaker c.send.result
    (λ e. e ∙ (λ i. sent_sets c.args.so_far.now.answers ++ sent c.args.part (ttl i) (c.in_ok-found.ensures.ok i) ∷ [])) c.send.ensures.ok

pub returns-clause-made : goal.returns-clause-made
returns-clause-made c = on_ok_weaker c.send.result (λ e. c.in_ok-add_made.ensures.ok) c.send.ensures.ok

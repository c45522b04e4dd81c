use Rattle.std.proofs.Common.{◌≡◌, refl, sym, ap, ◌∙◌}
use Rattle.std.specs.Prelude.{Some, None, option_copied}
use Rattle.zone_proto.specs.declared.rr_key.RrKey.{RrKey}
use Rattle.zone_proto.specs.Types.{NS}
use Rattle.zone_map.specs.Zones.{set_at}
use Rattle.zone_response.specs.Queries.{inquiry_of}
use Rattle.zone_response.specs.Sections.{sent_sets}
use Rattle.zone_response.specs.Steps.{referred, name_step, diverted_step}
use Rattle.zone_response.specs.Descent.{diversion_at}
use Rattle.zone_response.proofs.StepCases.{at_its_end, same_step}
use Rattle.zone_response.proofs.TurnWalk.{own_turn}
use Rattle.zone_response.proofs.steps.own_step.Goals as goal

pub returns-in-Some-clause-ok : goal.returns-in-Some-clause-ok
returns-in-Some-clause-ok g c =
    let m = c.args.inner.now.records in
    let q = inquiry_of g.S.Signer.signature_of c.args.asked c.args.inner.now in
    let x = c.args.name.now in
    let before = sent_sets c.args.so_far.now.answers in
    let s = c.in-Some.cut.now in
    let ns : option_copied c.read_node_sets-here.result.ns ≡ set_at m x NS = c.read_node_sets-here.ensures.ns ∙ ap (λ (k : RrKey). set_at m k.name NS) c.in_ok-key.ensures.copy.ok in
    at_its_end (diverted_step q before x (diversion_at q.origin m x q.record_type x)) (referred s) c.args.so_far.now _
    (ap (diverted_step q before x) (sym (own_turn q.origin m x q.record_type (Some s) c.requires.inside (ap option_copied (sym c.in-Some.is) ∙ c.own_cut.ensures m ns)))) refl

pub returns-clause-ok : goal.returns-clause-ok
returns-clause-ok g c =
    let m = c.args.inner.now.records in
    let q = inquiry_of g.S.Signer.signature_of c.args.asked c.args.inner.now in
    let x = c.args.name.now in
    let before = sent_sets c.args.so_far.now.answers in
    let ns : option_copied c.read_node_sets-here.result.ns ≡ set_at m x NS = c.read_node_sets-here.ensures.ns ∙ ap (λ (k : RrKey). set_at m k.name NS) c.in_ok-key.ensures.copy.ok in
    same_step c.name_step.result c.args.so_far.now c.name_step.new.so_far (diverted_step q before x (diversion_at q.origin m x q.record_type x)) (name_step q x)
    (ap (diverted_step q before x) (sym (own_turn q.origin m x q.record_type None c.requires.inside (ap option_copied (sym c.in_default.is) ∙ c.own_cut.ensures m ns)))) c.name_step.ensures.ok

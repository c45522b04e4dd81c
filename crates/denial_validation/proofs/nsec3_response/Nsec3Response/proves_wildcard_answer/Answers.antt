use Rattle.std.proofs.Common.{◌≡◌, ◌≤◌, ◌<◌, ◌-◌, suc, length, drop, sym, ap, ◌∙◌, arith}
use Rattle.std.proofs.lemmas.Result.{IfOk-weaker}
use Rattle.zone_proto.specs.Names.{is_above}
use Rattle.denial_validation.specs.Nsec3Proofs.{is_covered}
use Rattle.denial_validation.specs.Nsec3Responses.{hash_of}
use Rattle.denial_validation.proofs.WildcardAnswers.{answer_by_closer, no_answer, no_answer_outside}
use Rattle.denial_validation.proofs.nsec3_response.Nsec3Response.proves_wildcard_answer.Goals as goal

pub returns-then-count-encloser_labels-clause-ok : goal.returns-then-count-encloser_labels-clause-ok
returns-then-count-encloser_labels-clause-ok g c =
    let few : length c.args.self.now.name ≤ c.args.encloser_labels = omega (arith, ap length c.name.ensures, c.num_labels-count.ensures.count, c.if-count-encloser_labels.true) in
    sym (no_answer c.args.self.now.apex (hash_of g.H.Nsec3Hash.digest_of c.args.self.now) c.args.self.now.records c.args.self.now.name c.args.encloser_labels few)

pub returns-then-is_below_apex-clause-ok : goal.returns-then-is_below_apex-clause-ok
returns-then-is_below_apex-clause-ok g c =
    let apex = c.args.self.now.apex in
    let hash = hash_of g.H.Nsec3Hash.digest_of c.args.self.now in
    let rs = c.args.self.now.records in
    let x = c.args.self.now.name in
    let k = c.args.encloser_labels in
    let many : k < length x = omega (arith, ap length c.name.ensures, c.num_labels-count.ensures.count, c.if-count-encloser_labels.false) in
    let closer = c.in_ok-closer.ensures.ok ∙ (λ i. drop (length (c.name-2.ensures i) - suc k) (c.name-2.ensures i)) in
    IfOk-weaker c.covers.result _ _
    (λ b is. is ∙ ap (is_covered apex hash rs) closer ∙ sym (answer_by_closer apex hash rs x k many (ap (is_above apex) (sym closer) ∙ sym c.is_below_apex.ensures ∙ c.if-is_below_apex.true))) c.covers.ensures.ok

pub returns-clause-ok : goal.returns-clause-ok
returns-clause-ok g c =
    let apex = c.args.self.now.apex in
    let hash = hash_of g.H.Nsec3Hash.digest_of c.args.self.now in
    let rs = c.args.self.now.records in
    let x = c.args.self.now.name in
    let k = c.args.encloser_labels in
    let many : k < length x = omega (arith, ap length c.name.ensures, c.num_labels-count.ensures.count, c.if-count-encloser_labels.false) in
    let closer = c.in_ok-closer.ensures.ok ∙ (λ i. drop (length (c.name-2.ensures i) - suc k) (c.name-2.ensures i)) in
    sym (no_answer_outside apex hash rs x k many (ap (is_above apex) (sym closer) ∙ sym c.is_below_apex.ensures ∙ c.if-is_below_apex.false))

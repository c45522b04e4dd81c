use Rattle.std.proofs.Common.{ap, sym, ◌∙◌, subst, List}
use Rattle.std.specs.Prelude.{Some}
use Rattle.std.proofs.lemmas.Result.{IfOk-weaker}
use Rattle.zone_proto.specs.Sets.{RRset}
use Rattle.zone_handler.specs.declared.auth_lookup.AuthLookup.{AuthLookup}
use Rattle.zone_lookup.specs.Flattening.{last_set, alone, beside}
use Rattle.zone_lookup.specs.FoundSets.{found_set}
use Rattle.zone_lookup.specs.Replies.{one_set, chained, is_followed, AreFrom, IsAnswer}
use Rattle.zone_in_memory.specs.KeptReplies.{HasSections, SaysAnswer}
use Rattle.zone_signing.specs.Signatures.{answer_signatures}
use Rattle.zone_in_memory.proofs.AnswerSections.{alone_answers, chain_answers}
use Rattle.zone_in_memory.proofs.answering.answer.Goals as goal

pub returns-clause-answer : goal.returns-clause-answer
returns-clause-answer g c =
    let sign = answer_signatures g.S.Signer.signature_of c.args.now c.args.lookup_options.dnssec_ok c.args.zone.now.signers in
    let m = c.args.zone.now.records in
    let t = c.args.record_type.0 in
    let n = c.args.name.now in
    let s = c.in_ok-set.set in
    let options = c.args.lookup_options in
    IfOk-weaker c.answer_alone.result
    (λ (a : AuthLookup). (more : List RRset) × AreFrom m options.dnssec_ok n t (Some s) more × HasSections options (one_set (alone sign t s (last_set more))) (beside t (Some s) more) a)
    (λ (a : AuthLookup). SaysAnswer options (IsAnswer sign m options.dnssec_ok n t (found_set c.args.found)) a)
    (λ a h.
    subst (λ (x : RRset). SaysAnswer options (IsAnswer sign m options.dnssec_ok n t x) a) c.in_ok-set.ensures.ok
    (alone_answers sign m n t options s a (ap (is_followed t) (c.in_ok-set.ensures.ok ∙ sym c.set.ensures) ∙ sym c.is_followed.ensures ∙ c.if-is_followed.false) h))
    c.answer_alone.ensures.answer

pub returns-then-is_followed-clause-answer : goal.returns-then-is_followed-clause-answer
returns-then-is_followed-clause-answer g c =
    let sign = answer_signatures g.S.Signer.signature_of c.args.now c.args.lookup_options.dnssec_ok c.args.zone.now.signers in
    let m = c.args.zone.now.records in
    let t = c.args.record_type.0 in
    let n = c.args.name.now in
    let s = found_set c.args.found in
    let options = c.args.lookup_options in
    IfOk-weaker c.answer_by_chain.result
    (λ (a : AuthLookup). (more : List RRset) × AreFrom m options.dnssec_ok n t (last_set c.in_ok-sets.sets.items) more × HasSections options (chained c.in_ok-sets.sets.items) (beside t (last_set c.in_ok-sets.sets.items) more) a)
    (λ (a : AuthLookup). SaysAnswer options (IsAnswer sign m options.dnssec_ok n t s) a)
    (λ a h.
    chain_answers sign m n t options s a (ap (is_followed t) (sym c.set.ensures) ∙ sym c.is_followed.ensures ∙ c.if-is_followed.true)
    (subst (λ ss. (more : List RRset) × AreFrom m options.dnssec_ok n t (last_set ss) more × HasSections options (chained ss) (beside t (last_set ss) more) a) (c.in_ok-sets.ensures.sets ∙ c.in_ok-chain.ensures.chain) h))
    c.answer_by_chain.ensures.answer

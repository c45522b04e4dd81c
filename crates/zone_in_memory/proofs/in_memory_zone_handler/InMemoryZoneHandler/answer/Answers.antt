use Rattle.std.proofs.Common.{◌≡◌, ap, sym, ◌∙◌, cond, subst}
use Rattle.std.specs.Prelude.{Ok, Err, option_map}
use Rattle.zone_handler.specs.declared.control_flow.LookupControlFlow.TheVariants.{Continue}
use Rattle.zone_lookup.specs.FoundSets.{exists_or_wildcard, found_set, outcome_found, SaysExists}
use Rattle.zone_lookup.specs.Replies.{name_exists, absent, IsAnswer, IsReplyFor}
use Rattle.zone_in_memory.specs.KeptReplies.{SaysAnswer}
use Rattle.zone_in_memory.specs.Lookup.{error_of, SaysOrMemory}
use Rattle.zone_signing.specs.Signatures.{answer_signatures}
use Rattle.zone_map.specs.Wildcards.{found}
use Rattle.zone_map.specs.Zones.{Sets}
use Rattle.zone_in_memory.proofs.Lookups.{existing_is_present, no_wildcard_exists, says_found, says_none}
use Rattle.zone_in_memory.proofs.in_memory_zone_handler.InMemoryZoneHandler.answer.Goals as goal

pub returns-in_ok-answer-in-Found : goal.returns-in_ok-answer-in-Found
returns-in_ok-answer-in-Found g c =
    let sign = (answer_signatures g.S.Signer.signature_of c.args.now c.args.lookup_options.dnssec_ok c.args.self.now.inner.signers) in
    let inside : c.self.inside.inner.records ≡ c.args.self.now.inner.records = ap (λ z. z.inner.records) c.self.view_is in
    subst (λ t. SaysOrMemory c.args.lookup_options (IsReplyFor sign c.args.self.now.origin c.args.self.now.inner.records c.args.lookup_options.dnssec_ok c.args.name.now t) (Continue (Ok c.in_ok-answer-in-Found.field-0))) c.in_ok-record_type.ensures.searched
    (says_found sign c.args.self.now.inner.records c.args.name.now c.in_ok-record_type.record_type.0 c.args.lookup_options c.args.self.now.origin (found_set c.in-Found.found) c.in_ok-answer-in-Found.field-0
    (ap (λ (m : Sets). found m c.args.lookup_options.dnssec_ok c.args.name.now c.in_ok-record_type.record_type.0) (sym inside) ∙ sym c.in_ok-found.ensures.outcome.set ∙ ap (λ s. option_map found_set (outcome_found s)) c.in-Found.is)
    (subst (λ (m : Sets). SaysAnswer c.args.lookup_options (IsAnswer sign m c.args.lookup_options.dnssec_ok c.args.name.now c.in_ok-record_type.record_type.0 (found_set c.in-Found.found)) c.in_ok-answer-in-Found.field-0) inside
    (subst (λ ss. SaysAnswer c.args.lookup_options (IsAnswer (answer_signatures g.S.Signer.signature_of c.args.now c.args.lookup_options.dnssec_ok ss) c.self.inside.inner.records c.args.lookup_options.dnssec_ok c.args.name.now c.in_ok-record_type.record_type.0 (found_set c.in-Found.found)) c.in_ok-answer-in-Found.field-0) (ap (λ z. z.inner.signers) c.self.view_is)
    c.in_ok-answer-in-Found.ensures.answer)))

pub returns-in-NoData : goal.returns-in-NoData
returns-in-NoData g c =
    let sign = (answer_signatures g.S.Signer.signature_of c.args.now c.args.lookup_options.dnssec_ok c.args.self.now.inner.signers) in
    let inside : c.self.inside.inner.records ≡ c.args.self.now.inner.records = ap (λ z. z.inner.records) c.self.view_is in
    let exists = subst (SaysExists (exists_or_wildcard c.self.inside.inner.records c.args.name.now)) c.in-NoData.is c.in_ok-found.ensures.outcome.existence in
    let there = existing_is_present c.args.self.now.inner.records c.args.name.now (ap (λ (m : Sets). exists_or_wildcard m c.args.name.now) (sym inside) ∙ exists) in
    subst (λ t. SaysOrMemory c.args.lookup_options (IsReplyFor sign c.args.self.now.origin c.args.self.now.inner.records c.args.lookup_options.dnssec_ok c.args.name.now t) (Continue (Err c.for_name_exists.result))) c.in_ok-record_type.ensures.searched
    (says_none sign c.args.self.now.inner.records c.args.name.now c.in_ok-record_type.record_type.0 c.args.lookup_options c.args.self.now.origin c.for_name_exists.result
    (ap (λ (m : Sets). found m c.args.lookup_options.dnssec_ok c.args.name.now c.in_ok-record_type.record_type.0) (sym inside) ∙ sym c.in_ok-found.ensures.outcome.set ∙ ap (λ s. option_map found_set (outcome_found s)) c.in-NoData.is)
    (c.for_name_exists.ensures ∙ ap (λ b. error_of (cond b name_exists (absent c.args.self.now.origin c.args.name.now))) (sym there)))

pub negative_answer-requires : goal.negative_answer-requires
negative_answer-requires g c =
    let inside : c.self.inside.inner.records ≡ c.args.self.now.inner.records = ap (λ z. z.inner.records) c.self.view_is in
    let exists = subst (SaysExists (exists_or_wildcard c.self.inside.inner.records c.args.name.now)) c.in-NoName.is c.in_ok-found.ensures.outcome.existence in
    record { no_wildcard = no_wildcard_exists c.args.self.now.inner.records c.args.name.now (ap (λ (m : Sets). exists_or_wildcard m c.args.name.now) (sym inside) ∙ exists) }

pub returns-in_ok-negative_answer-in-NoName : goal.returns-in_ok-negative_answer-in-NoName
returns-in_ok-negative_answer-in-NoName g c =
    let sign = (answer_signatures g.S.Signer.signature_of c.args.now c.args.lookup_options.dnssec_ok c.args.self.now.inner.signers) in
    let inside : c.self.inside.inner.records ≡ c.args.self.now.inner.records = ap (λ z. z.inner.records) c.self.view_is in
    subst (λ t. SaysOrMemory c.args.lookup_options (IsReplyFor sign c.args.self.now.origin c.args.self.now.inner.records c.args.lookup_options.dnssec_ok c.args.name.now t) (Continue (Err c.in_ok-negative_answer-in-NoName.field-0))) c.in_ok-record_type.ensures.searched
    (says_none sign c.args.self.now.inner.records c.args.name.now c.in_ok-record_type.record_type.0 c.args.lookup_options c.args.self.now.origin c.in_ok-negative_answer-in-NoName.field-0
    (ap (λ (m : Sets). found m c.args.lookup_options.dnssec_ok c.args.name.now c.in_ok-record_type.record_type.0) (sym inside) ∙ sym c.in_ok-found.ensures.outcome.set ∙ ap (λ s. option_map found_set (outcome_found s)) c.in-NoName.is)
    c.in_ok-negative_answer-in-NoName.ensures.answer)

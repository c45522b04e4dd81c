use Rattle.std.proofs.Common.{sym, subst}
use Rattle.std.specs.Prelude.{Ok, Err}
use Rattle.zone_proto.specs.Names.{Name}
use Rattle.zone_proto.specs.Types.{SOA}
use Rattle.zone_handler.specs.declared.control_flow.LookupControlFlow.TheVariants.{Continue}
use Rattle.zone_lookup.specs.Replies.{Reply, IsReplyFor}
use Rattle.zone_in_memory.specs.Lookup.{SaysOrMemory}
use Rattle.zone_signing.specs.Signatures.{answer_signatures}
use Rattle.zone_in_memory.specs.Transfers.{HasAnswers}
use Rattle.zone_in_memory.proofs.Transferring.{part_answered, part_denied}
use Rattle.zone_in_memory.proofs.in_memory_zone_handler.InMemoryZoneHandler.soa_part.Goals as goal

pub returns-in-Ok-clause-ok : goal.returns-in-Ok-clause-ok
returns-in-Ok-clause-ok g c =
    let sign = answer_signatures g.S.Signer.signature_of c.args.now c.args.lookup_options.dnssec_ok c.args.self.now.inner.signers in
    let IsTheReply = λ (n : Name). IsReplyFor sign c.args.self.now.origin c.args.self.now.inner.records c.args.lookup_options.dnssec_ok n SOA in
    let says : SaysOrMemory c.args.lookup_options (IsTheReply c.args.self.now.origin) (Continue (Ok c.in-Ok.answer)) =
    subst (λ n. SaysOrMemory c.args.lookup_options (IsTheReply n) (Continue (Ok c.in-Ok.answer))) c.origin.ensures
    (subst (λ r. SaysOrMemory c.args.lookup_options (IsTheReply c.origin.result.now) (Continue r)) c.in-Ok.is c.answer.ensures) in
    subst (λ s. (r : Reply) × IsTheReply c.args.self.now.origin r × HasAnswers c.args.lookup_options r s) (sym c.unwrap_records.ensures)
    (part_answered c.args.lookup_options (IsTheReply c.args.self.now.origin) c.in-Ok.answer says)

pub returns-in-Err-clause-ok : goal.returns-in-Err-clause-ok
returns-in-Err-clause-ok g c =
    let sign = answer_signatures g.S.Signer.signature_of c.args.now c.args.lookup_options.dnssec_ok c.args.self.now.inner.signers in
    let IsTheReply = λ (n : Name). IsReplyFor sign c.args.self.now.origin c.args.self.now.inner.records c.args.lookup_options.dnssec_ok n SOA in
    let says : SaysOrMemory c.args.lookup_options (IsTheReply c.args.self.now.origin) (Continue (Err c.in-Err.error)) =
    subst (λ n. SaysOrMemory c.args.lookup_options (IsTheReply n) (Continue (Err c.in-Err.error))) c.origin.ensures
    (subst (λ r. SaysOrMemory c.args.lookup_options (IsTheReply c.origin.result.now) (Continue r)) c.in-Err.is c.answer.ensures) in
    part_denied c.args.lookup_options (IsTheReply c.args.self.now.origin) c.no_records.result c.in-Err.error c.no_records.ensures.ok says

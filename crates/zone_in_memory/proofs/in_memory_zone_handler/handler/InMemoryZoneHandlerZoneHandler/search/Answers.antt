use Rattle.std.proofs.Common.{ap, sym, true≢false}
use Rattle.zone_proto.specs.declared.record_type.RecordType.{RecordType}
use Rattle.zone_in_memory.specs.Lookup.{IsLookup}
use Rattle.zone_in_memory.proofs.Requesting.{one_answered, others_refused}
use Rattle.zone_in_memory.proofs.in_memory_zone_handler.handler.InMemoryZoneHandlerZoneHandler.search.Goals as goal

pub returns-in-Err : goal.returns-in-Err
returns-in-Err g c =
    others_refused (λ n t step. IsLookup g.S.Signer.signature_of c.args.self.now n t c.args.lookup_options c.args.now step) c.args.request.now.queries.items c.in-Err.error
    (λ one. true≢false (sym (c.in-Err.ensures.one.1 one))) c.in-Err.ensures.err

pub returns : goal.returns
returns g c =
    one_answered (λ n t step. IsLookup g.S.Signer.signature_of c.args.self.now n t c.args.lookup_options c.args.now step) c.args.request.now.queries.items c.in-Ok.info.query.now c.name.result.now c.query_type.result.0 c.lookup-step.result
    c.in-Ok.ensures.ok c.name.ensures (ap (λ (t : RecordType). t.0) c.query_type.ensures) c.lookup-step.ensures.answer

use Rattle.std.specs.Prelude.{map}
use Rattle.std.specs.List.{All}
use Rattle.zone_proto.specs.declared.record.Record.{Record}
use Rattle.zone_planning.specs.Canonical.{in_order}
use Rattle.zone_planning.specs.Faults.{AreShort}
use Rattle.zone_digest.specs.Faults.{IsWritableSignature}
use Rattle.zone_digest.specs.ZoneText.{signature_octets}
use Rattle.zone_digest.proofs.Refusals.{refused_at}
use Rattle.zone_digest.proofs.owners.push_all_signatures.Goals as goal

pub returns-in_err-push_signatures-clause-err : goal.returns-in_err-push_signatures-clause-err
returns-in_err-push_signatures-clause-err c =
    let set = c.set-item.result.now in
    refused_at c.from_residual.result c.args.sets.now c.loop-set.set-index c.set-item.result c.in_err-push_signatures.field-0.0
    (All (λ (r : Record). IsWritableSignature r.rdata) set.signatures × AreShort (in_order (map (λ (r : Record). signature_octets r.rdata) set.signatures)))
    c.loop-set-test.true c.set-item.is
    (λ d. (d.signatures, d.signature_texts)) c.in_err-push_signatures.ensures.err c.from_residual.ensures.1

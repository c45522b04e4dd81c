use Rattle.zone_planning.specs.Canonical.{canonical_set}
use Rattle.zone_planning.specs.Faults.{AreShort, AreWritable}
use Rattle.zone_digest.proofs.Refusals.{refused_at}
use Rattle.zone_digest.proofs.owners.push_past_signatures.Goals as goal

pub returns-in_err-push_set-clause-err : goal.returns-in_err-push_set-clause-err
returns-in_err-push_set-clause-err c =
    let set = c.set-item.result.now in
    refused_at c.from_residual.result c.args.sets.now c.loop-set.set-index c.set-item.result c.in_err-push_set.field-0.0
    (AreWritable set.records × AreShort (canonical_set set.records)) c.loop-set-test.true c.set-item.is
    (λ d. (d.records, d.texts)) c.in_err-push_set.ensures.err c.from_residual.ensures.1

use Rattle.std.proofs.Common.{arith}
use Rattle.message_writing.specs.Responses.{with_ttl}
use Rattle.message_writing.proofs.KeptBack.{behind_all, behind_more, some_is}
use Rattle.message_writing.proofs.kept_records.with_records.Goals as goal

pub loop-record-preserved : goal.loop-record-preserved
loop-record-preserved c =
    behind_more (with_ttl c.args.ttl) c.args.records.now c.loop-record.record-index c.record-item.result c.args.origin.now c.args.text c.loop-record.text
    c.in-Some.longer c.loop-record-test.true c.record-item.is c.loop-record.invariant
    (some_is _ _ _ c.in-Some.is c.in_ok-longer.ensures)

pub returns : goal.returns
returns c =
    behind_all (with_ttl c.args.ttl) c.args.records.now c.loop-record.record-index c.args.origin.now c.args.text c.loop-record.text
    (omega (arith, c.loop-record-test.false)) c.loop-record.invariant

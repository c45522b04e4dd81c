use Rattle.std.proofs.Common.{◌≡◌, ◌+◌, ap, length, arith}
use Rattle.message_writing.specs.Responses.{records_of, records_together}
use Rattle.zone_server.specs.Transfers.{soa_alone}
use Rattle.transfer_messages.proofs.Lists.{both_over}
use Rattle.transfer_messages.proofs.advancing.advance_last.Goals as goal

pub returns-in-Behind : goal.returns-in-Behind
returns-in-Behind c =
    let soa = records_together (soa_alone c.args.transfer.now.soa.now) in
    let same : length (records_of c.soa_alone-last.result) ≡ length soa = ap length c.soa_alone-last.ensures in
    let passed : (c.in-Behind.field-0 + c.in-Behind.field-1) + length (records_of c.soa_alone-last.result) ≡ c.args.sent + c.args.count = c.in-Behind.ensures in
    let size : c.size_of.result ≡ length (records_of c.soa_alone-last.result) = c.size_of.ensures in
    both_over c.size_of.result c.args.sent c.args.count soa (omega (arith, size, same)) (omega (arith, passed, same))

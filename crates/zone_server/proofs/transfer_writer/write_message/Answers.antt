use Rattle.std.proofs.Common.{ap, refl, append-nil, arith}
use Rattle.message_writing.specs.Responses.{all_records}
use Rattle.zone_server.proofs.TransferRuns.{writes}
use Rattle.zone_server.proofs.transfer_writer.write_message.Goals as goal

pub returns : goal.returns
returns c =
    writes c.args.query.now _ c.args.groups.now c.write_front.new.out.items c.write_front.result c.write_front.ensures.written
    (c.write_front.ensures.room (omega arith)) refl refl (ap all_records (append-nil c.args.groups.now)) refl (λ rs. refl)

use Rattle.std.proofs.Common.{codes}
use Rattle.zone_handler.specs.Transfers.{transfer_records}
use Rattle.line_text.specs.Records.{record_text}
use Rattle.zonectl_session.proofs.Listing.{counting_done, listing_begun}
use Rattle.zonectl_session.proofs.replies.write_transfer.Goals as goal

pub loop-record-init : goal.loop-record-init
loop-record-init c =
    listing_begun (codes "transfer") record_text (transfer_records c.args.transfer.now) _ c.loop.count _ _
    (counting_done _ _ c.loop.count c.loop.invariant c.in-None.ensures.steps.0) c.in_ok-writeln.ensures.bytes
    c.into_iter-record-iterator.ensures.into_iter_gives

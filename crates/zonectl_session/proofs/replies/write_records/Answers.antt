use Rattle.std.proofs.Common.{ap, ◌∙◌}
use Rattle.zone_handler.specs.AuthLookup.{records_of, left_of}
use Rattle.line_text.specs.Records.{record_text}
use Rattle.zonectl_session.proofs.Listing.{counting_done, listing_begun}
use Rattle.zonectl_session.proofs.replies.write_records.Goals as goal

pub loop-record-init : goal.loop-record-init
loop-record-init c =
    listing_begun c.args.word.now record_text (records_of c.args.found.now) _ c.loop.count _ _
    (counting_done _ _ c.loop.count c.loop.invariant c.in-None.ensures.steps.0) c.in_ok-writeln.ensures.bytes
    (ap left_of c.into_iter-record-iterator.ensures.into_iter_gives ∙ c.iter-record-items.ensures)

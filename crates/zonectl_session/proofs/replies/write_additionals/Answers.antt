use Rattle.std.proofs.Common.{codes, ap, ◌∙◌}
use Rattle.zone_handler.specs.Answers.{left_in}
use Rattle.line_text.specs.Records.{record_text}
use Rattle.zonectl_session.specs.Steps.{additionals_beside}
use Rattle.zonectl_session.proofs.Listing.{counting_done, listing_begun}
use Rattle.zonectl_session.proofs.replies.write_additionals.Goals as goal

pub loop-record-init : goal.loop-record-init
loop-record-init c =
    listing_begun (codes "additional") record_text (additionals_beside c.args.found.now) _ c.loop.count _ _
    (counting_done _ _ c.loop.count c.loop.invariant c.in-None.ensures.steps.0) c.in_ok-writeln.ensures.bytes
    (ap left_in c.into_iter-record-iterator.ensures.into_iter_gives ∙ c.additionals_of-record-items.ensures)

use Rattle.std.proofs.Common.{codes, string_bytes}
use Rattle.zone_handler.specs.Transfers.{transfer_records}
use Rattle.line_text.specs.Records.{record_text}
use Rattle.zonectl_session.proofs.Listing.{Counting, Listing}
use Rattle.zonectl_session.proofs.replies.write_transfer.Given as goal

abbrev pub invariant-loop : goal.invariant-loop
invariant-loop l = Counting (transfer_records l.transfer) l.iterator' l.count

abbrev pub invariant-loop-record : goal.invariant-loop-record
invariant-loop-record l = Listing (codes "transfer") record_text (transfer_records l.transfer) l.record-iterator (string_bytes l.fn.answer) (string_bytes l.answer)

use Rattle.std.proofs.Common.{string_bytes}
use Rattle.zone_handler.specs.AuthLookup.{records_of, left_of}
use Rattle.line_text.specs.Records.{record_text}
use Rattle.zonectl_session.proofs.Listing.{Counting, Listing}
use Rattle.zonectl_session.proofs.replies.write_records.Given as goal

abbrev pub invariant-loop : goal.invariant-loop
invariant-loop l = Counting (records_of l.found) (left_of l.iterator') l.count

abbrev pub invariant-loop-record : goal.invariant-loop-record
invariant-loop-record l = Listing l.word record_text (records_of l.found) (left_of l.record-iterator) (string_bytes l.fn.answer) (string_bytes l.answer)

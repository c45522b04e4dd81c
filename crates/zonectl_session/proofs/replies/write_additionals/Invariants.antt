use Rattle.std.proofs.Common.{codes, string_bytes}
use Rattle.zone_handler.specs.Answers.{left_in}
use Rattle.line_text.specs.Records.{record_text}
use Rattle.zonectl_session.specs.Steps.{additionals_beside}
use Rattle.zonectl_session.proofs.Listing.{Counting, Listing}
use Rattle.zonectl_session.proofs.replies.write_additionals.Given as goal

abbrev pub invariant-loop : goal.invariant-loop
invariant-loop l = Counting (additionals_beside l.found) (left_in l.iterator') l.count

abbrev pub invariant-loop-record : goal.invariant-loop-record
invariant-loop-record l = Listing (codes "additional") record_text (additionals_beside l.found) (left_in l.record-iterator) (string_bytes l.fn.answer) (string_bytes l.answer)

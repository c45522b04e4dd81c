use Rattle.std.proofs.Common.{◌≡◌, ◌++◌, List, drop, sym, ap, ◌∙◌}
use Rattle.zone_proto.specs.declared.record.Record.{Record}
use Rattle.message_writing.specs.Responses.{records_of, records_together}
use Rattle.transfer_messages.specs.declared.place.Place.{Place}
use Rattle.transfer_messages.specs.Transfers.{left_at, sets_records}
use Rattle.zone_server.specs.Transfers.{soa_alone}
use Rattle.transfer_messages.proofs.Lists.{dropped_over, if_ok}
use Rattle.transfer_messages.proofs.advancing.advance.Goals as goal

pub returns-in-Behind : goal.returns-in-Behind
returns-in-Behind c =
    let m = c.args.transfer.now.sets.now in
    let s = c.args.transfer.now.soa.now in
    let soa = records_together (soa_alone s) in
    let own = records_of c.soa_alone.result in
    let n = c.args.count in
    let sent = c.in-Opening.sent in
    let over = dropped_over own (sets_records m ++ soa) c.in-Behind.sent c.in-Behind.count sent n c.in-Behind.ensures in
    let path =
    over ∙ ap (λ (x : List Record). drop n (drop sent (x ++ (sets_records m ++ soa)))) c.soa_alone.ensures
    ∙ ap (λ (p : Place). drop n (left_at s m p)) (sym c.in-Opening.is) in
    if_ok c.advance_in.result (λ next. left_at s m next ≡ drop c.in-Behind.count (drop c.in-Behind.sent (sets_records m ++ soa))) (λ next. left_at s m next ≡ drop n (left_at s m c.args.place.now))
    (λ next h. h ∙ path) c.advance_in.ensures

use Rattle.std.proofs.Common.{inl, List, ℕ, ◌++◌, drop, map, take, sym, subst, rules}
use Rattle.std.specs.Prelude.{Err}
use Rattle.message_writing.specs.declared.error.WriteError.{WriteError}
use Rattle.message_writing.specs.Responses.{all_records, records_of}
use Rattle.zone_server.specs.Frames.{framed}
use Rattle.zone_server.specs.Serving.{Moves}
use Rattle.zone_server.specs.Stopping.{MovesFront}
use Rattle.zone_server.specs.Transfers.{IsTransferMessage}
use Rattle.zone_server.specs.TransferSteps.{WritesMessage}
use Rattle.zone_server.proofs.TransferFacts.{broken_at_once, groups_parted, joined_groups, message_stopped, none_sent, one_sent, some_first, stopped_at_once}
use Rattle.zone_server.proofs.transfer_writer.send_message.Goals as goal

pub returns-in-Ok-eq0-clause-sent : goal.returns-in-Ok-eq0-clause-sent
returns-in-Ok-eq0-clause-sent g c = none_sent c.args.query.now c.args.answers.now.items (g.W.Write.contents c.args.output.now)

pub returns-in_ok-put_answer-in-Ok-clause-sent : goal.returns-in_ok-put_answer-in-Ok-clause-sent
returns-in_ok-put_answer-in-Ok-clause-sent g c =
    let q = c.args.query.now in
    let first = take c.in-Ok.count c.args.groups.now in
    let octets = c.write_message.new.out.items in
    let u = g.W.Write.contents c.args.output.now in
    let v = g.W.Write.contents c.put_answer.new.output in
    one_sent q (map records_of first) octets c.args.answers.now.items c.put_answer.new.answers.items u v
    (some_first c.in-Ok.count c.args.groups.now c.in-Ok.count-test.1 c.in-Ok.ensures.at_most)
    (subst (λ rs. IsTransferMessage q rs octets) (sym (joined_groups first)) c.in-Ok.ensures.message)
    (subst (λ (o : List ℕ). Moves (c.args.answers.now.items ++ framed o) u v c.put_answer.new.answers.items) c.as_slice.ensures.value
    c.in_ok-put_answer-in-Ok.ensures.put)

pub returns-in_err-put_answer-in-Ok-clause-halted : goal.returns-in_err-put_answer-in-Ok-clause-halted
returns-in_err-put_answer-in-Ok-clause-halted g c =
    let q = c.args.query.now in
    let gs = c.args.groups.now in
    let count = c.in-Ok.count in
    let first = take count gs in
    let octets = c.write_message.new.out.items in
    let u = g.W.Write.contents c.args.output.now in
    let v = g.W.Write.contents c.put_answer.new.output in
    let reported = message_stopped q (map records_of first) (all_records gs) (all_records (drop count gs)) octets c.args.answers.now.items u v
    (some_first count gs c.in-Ok.count-test.1 c.in-Ok.ensures.at_most) (groups_parted count gs)
    (subst (λ rs. IsTransferMessage q rs octets) (sym (joined_groups first)) c.in-Ok.ensures.message)
    (subst (λ (o : List ℕ). MovesFront (c.args.answers.now.items ++ framed o) u v) c.as_slice.ensures.value c.in_err-put_answer-in-Ok.ensures.front) in
    search (rules, reported)

pub returns-in-Err-Memory-clause-halted : goal.returns-in-Err-Memory-clause-halted
returns-in-Err-Memory-clause-halted g c =
    stopped_at_once c.args.query.now (all_records c.args.groups.now) c.args.answers.now.items (g.W.Write.contents c.args.output.now)

pub returns-in-Err-Unwritable-clause-halted : goal.returns-in-Err-Unwritable-clause-halted
returns-in-Err-Unwritable-clause-halted g c =
    broken_at_once c.args.query.now (all_records c.args.groups.now) c.args.answers.now.items (g.W.Write.contents c.args.output.now)
    (inl (subst (λ (e : WriteError). WritesMessage c.args.query.now c.args.groups.now c.write_message.new.out.items (Err e)) c.in-Err-Unwritable.field-0-is
    c.in-Err-Unwritable.ensures))

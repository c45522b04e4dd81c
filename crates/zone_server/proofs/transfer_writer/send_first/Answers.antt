use Rattle.std.proofs.Common.{◌≡◌, ◌∷◌, drop, map, take, sym, ap, ◌∙◌, arith, rules}
use Rattle.std.proofs.lemmas.List.{drop_more}
use Rattle.message_writing.specs.Responses.{all_records, records_of}
use Rattle.zone_server.specs.Transfers.{joined}
use Rattle.zone_server.proofs.TransferFacts.{joined_groups, sets_sent_whole}
use Rattle.zone_server.proofs.TransferRuns.{first_alone, first_halts, halts_of}
use Rattle.zone_server.proofs.transfer_writer.send_first.Goals as goal

pub returns-in_err-count-clause-halted : goal.returns-in_err-count-clause-halted
returns-in_err-count-clause-halted g c =
    let gs = c.args.waiting.now in
    let reported = halts_of c.args.query.now (all_records gs) (joined (map records_of gs)) c.args.answers.now.items c.send_message.new.answers.items
    (g.W.Write.contents c.args.output.now) (g.W.Write.contents c.send_message.new.output) c.in_err-count.field-0.0 (sym (joined_groups gs))
    c.in_err-count.ensures.halted in
    search (rules, reported)

pub returns-then-count-gt0-clause-sent : goal.returns-then-count-gt0-clause-sent
returns-then-count-gt0-clause-sent g c =
    sets_sent_whole c.args.query.now (map records_of (take c.in_ok-count.count c.args.waiting.now)) c.args.answers.now.items
    c.send_message.new.answers.items (g.W.Write.contents c.args.output.now) (g.W.Write.contents c.send_message.new.output) c.in_ok-count.ensures.sent

pub returns-in_err-send_one_by_one-in-len1-up-clause-halted : goal.returns-in_err-send_one_by_one-in-len1-up-clause-halted
returns-in_err-send_one_by_one-in-len1-up-clause-halted g c =
    let gs = c.args.waiting.now in
    let first = c.first-item.result in
    let split : gs ≡ first ∷ drop 1 gs = drop_more gs 0 first (omega (arith, c.in-len1-up.len_at_least)) ∙ ap (λ x. x ∷ drop 1 gs) (sym c.first-item.is) in
    let reported = first_halts c.args.query.now gs (drop 1 gs) first c.args.answers.now.items c.send_message.new.answers.items
    c.send_one_by_one.new.answers.items (g.W.Write.contents c.args.output.now) (g.W.Write.contents c.send_message.new.output)
    (g.W.Write.contents c.send_one_by_one.new.output) c.in_ok-count.count c.in_err-send_one_by_one-in-len1-up.field-0.0 split
    (omega (arith, c.if-count-gt0.false)) c.in_ok-count.ensures.sent c.in_err-send_one_by_one-in-len1-up.ensures.halted in
    search (rules, reported)

pub returns-in_ok-send_one_by_one-in-len1-up-clause-sent : goal.returns-in_ok-send_one_by_one-in-len1-up-clause-sent
returns-in_ok-send_one_by_one-in-len1-up-clause-sent g c =
    let gs = c.args.waiting.now in
    let first = c.first-item.result in
    let split : gs ≡ first ∷ drop 1 gs = drop_more gs 0 first (omega (arith, c.in-len1-up.len_at_least)) ∙ ap (λ x. x ∷ drop 1 gs) (sym c.first-item.is) in
    let zero : c.in_ok-count.count ≡ 0 = omega (arith, c.if-count-gt0.false) in
    first_alone c.args.query.now gs (drop 1 gs) first c.args.answers.now.items c.send_message.new.answers.items c.send_one_by_one.new.answers.items
    (g.W.Write.contents c.args.output.now) (g.W.Write.contents c.send_message.new.output) (g.W.Write.contents c.send_one_by_one.new.output)
    c.in_ok-count.count split zero (c.in_ok-count.ensures.none zero) c.in_ok-count.ensures.sent c.in_ok-send_one_by_one-in-len1-up.ensures.sent

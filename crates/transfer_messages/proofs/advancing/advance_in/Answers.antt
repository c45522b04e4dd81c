use Rattle.std.proofs.Common.{◌++◌, drop, sym, ap, subst, ◌∙◌}
use Rattle.std.specs.Prelude.{option_copied}
use Rattle.zone_map.specs.Zones.{Sets}
use Rattle.message_writing.specs.Responses.{records_of, records_together}
use Rattle.transfer_messages.specs.Transfers.{ahead_of, sets_records}
use Rattle.zone_server.specs.Transfers.{soa_alone}
use Rattle.transfer_messages.proofs.Tails.{IsTailOf, ahead_is_tail, place_behind, place_here, tail_behind}
use Rattle.transfer_messages.proofs.advancing.advance_in.Goals as goal

pub loop-key-init : goal.loop-key-init
loop-key-init c =
    let m = c.args.transfer.now.sets.now in
    let soa = records_together (soa_alone c.args.transfer.now.soa.now) in
    let is = c.into_iter-key-iterator.ensures.into_iter_gives ∙ c.sets_ahead-key-items.ensures.value in
    record {
      left = ap (λ (x : Sets). drop c.args.further (drop c.args.passed (sets_records x ++ soa))) is;
      tail = subst (λ (x : Sets). IsTailOf x m) (sym is) (ahead_is_tail m (option_copied c.args.from) c.sets_ahead-key-items.ensures.ordered);
    }

pub returns-in-Here : goal.returns-in-Here
returns-in-Here c =
    let m = c.args.transfer.now.sets.now in
    let soa = records_together (soa_alone c.args.transfer.now.soa.now) in
    let whole = drop c.args.further (drop c.args.passed (sets_records (ahead_of m (option_copied c.args.from)) ++ soa)) in
    place_here m c.loop-key.key-iterator c.next.new.self (c.in-Some.key.now, c.in-Some.set.now) c.in-Some.ensures.steps soa (records_of c.between.result) whole
    c.loop-key.sent c.loop-key.count c.sets_ahead-key-items.ensures.ordered c.loop-key.invariant.tail c.in_ok-clone-in-Here.field-0 c.in_ok-clone-in-Here.ensures.copy.ok
    c.in-Here.here c.in-Here.ensures.0 c.loop-key.invariant.left

pub loop-key-preserved : goal.loop-key-preserved
loop-key-preserved c =
    let m = c.args.transfer.now.sets.now in
    let soa = records_together (soa_alone c.args.transfer.now.soa.now) in
    let whole = drop c.args.further (drop c.args.passed (sets_records (ahead_of m (option_copied c.args.from)) ++ soa)) in
    record {
      left =
          place_behind m c.loop-key.key-iterator c.next.new.self (c.in-Some.key.now, c.in-Some.set.now) c.in-Some.ensures.steps soa (records_of c.between.result) whole
          c.loop-key.sent c.loop-key.count c.between.ensures c.in-Behind.sent_behind c.in-Behind.count_behind c.in-Behind.ensures c.loop-key.invariant.left;
      tail = tail_behind m c.loop-key.key-iterator c.next.new.self (c.in-Some.key.now, c.in-Some.set.now) c.in-Some.ensures.steps c.loop-key.invariant.tail;
    }

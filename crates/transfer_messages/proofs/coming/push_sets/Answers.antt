use Rattle.std.proofs.Common.{◌≤◌, [], ◌++◌, length, drop, sym, subst, arith}
use Rattle.zone_map.specs.Zones.{Sets}
use Rattle.message_writing.specs.Responses.{records_of, records_together}
use Rattle.transfer_messages.specs.Gathering.{Gathers}
use Rattle.transfer_messages.specs.Transfers.{sets_records}
use Rattle.zone_server.specs.Transfers.{soa_alone}
use Rattle.transfer_messages.proofs.Gathered.{gathered_full, none_gathered, set_gathered, soa_gathered}
use Rattle.transfer_messages.proofs.coming.push_sets.Goals as goal

pub loop-set-init : goal.loop-set-init
loop-set-init c =
    let soa = records_together (soa_alone c.args.soa.now) in
    let a = c.args.groups.now.items in
    let all = drop c.args.passed (sets_records c.args.sets ++ soa) in
    subst (λ (m : Sets). Gathers a a all (drop c.args.passed (sets_records m ++ soa))) (sym c.into_iter-set-iterator.ensures.into_iter_gives) (none_gathered a all)

pub returns-then-len-ge-MOST : goal.returns-then-len-ge-MOST
returns-then-len-ge-MOST c =
    let soa = records_together (soa_alone c.args.soa.now) in
    let b = c.loop-set.groups.items in
    let many : 4096 ≤ length b = omega (arith, c.if-len-ge-MOST.true, c.len.ensures) in
    gathered_full c.args.groups.now.items b (drop c.args.passed (sets_records c.args.sets ++ soa)) (drop c.loop-set.skip (sets_records c.loop-set.set-iterator ++ soa))
    c.loop-set.invariant many

pub loop-set-preserved : goal.loop-set-preserved
loop-set-preserved c =
    let soa = records_together (soa_alone c.args.soa.now) in
    set_gathered c.args.groups.now.items c.loop-set.groups.items c.push_group.new.groups.items (drop c.args.passed (sets_records c.args.sets ++ soa)) soa (records_of c.between.result)
    c.loop-set.set-iterator c.next.new.self c.loop-set.skip c.in_ok-skip.skip (c.in-Some.field-0-0.now, c.in-Some.set.now) c.in-Some.ensures.steps c.between.ensures
    c.loop-set.invariant c.in_ok-skip.ensures.taken c.in_ok-skip.ensures.behind

pub returns : goal.returns
returns c =
    let soa = records_together (soa_alone c.args.soa.now) in
    soa_gathered c.args.groups.now.items c.loop-set.groups.items c.push_group-2.new.groups.items (drop c.args.passed (sets_records c.args.sets ++ soa)) soa (records_of c.soa_alone.result)
    c.loop-set.set-iterator [] c.loop-set.skip 0 c.in-None.ensures.steps.0 c.soa_alone.ensures c.loop-set.invariant c.in_ok-push_group.ensures.taken

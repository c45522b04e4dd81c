use Rattle.std.proofs.Common.{drop, ap, sym, ◌+◌, ◌∙◌, length}
use Rattle.zone_planning.specs.Filling.{filled_list, first_fault, numbers_in}
use Rattle.zone_planning.proofs.HandedOver.{handed_all, filling_next, filling_fault, faulted}
use Rattle.zone_planning.proofs.finishing.fill.Goals as goal

pub returns-in-Err-clause-fault : goal.returns-in-Err-clause-fault
returns-in-Err-clause-fault c =
    filling_fault c.args.keys.now c.args.records.now c.loop-set.set-iterator c.next.new.self (c.in-Some.field-0-0.now, c.in-Some.set.now) c.args.signatures.now
    c.loop-set.lists.items c.rrsigs.result.now c.loop-set.place c.in-Err.fault c.in-Some.ensures.steps c.rrsigs.ensures.value
    (faulted c.args.keys.now c.loop-set.place c.rrsigs.result.now c.split_at.result.1.now (drop c.loop-set.place c.args.signatures.now) c.in-Err.fault c.split_at.ensures.back c.in-Err.ensures.fault)
    c.loop-set.invariant

pub loop-set-preserved : goal.loop-set-preserved
loop-set-preserved c =
    filling_next c.args.keys.now c.args.records.now c.loop-set.set-iterator c.next.new.self (c.in-Some.field-0-0.now, c.in-Some.set.now) c.args.signatures.now
    c.loop-set.lists.items c.push.new.self.items c.in-Ok.list c.rrsigs.result.now c.loop-set.place (c.loop-set.place + c.count_of-place.result)
    c.in-Some.ensures.steps c.in_ok-push.ensures.items c.rrsigs.ensures.value (c.in-Ok.ensures.ok ∙ ap (filled_list c.rrsigs.result.now) c.split_at.ensures.back)
    (ap (first_fault c.args.keys.now c.loop-set.place (numbers_in c.rrsigs.result.now)) (sym c.split_at.ensures.back) ∙ c.in-Ok.ensures.faultless)
    (ap (λ n. c.loop-set.place + n) (c.count_of-place.ensures ∙ ap (λ rs. length (numbers_in rs)) (c.rrsigs-in-loop-set.ensures.value ∙ sym c.rrsigs.ensures.value)))
    c.loop-set.invariant

pub returns-clause-handed : goal.returns-clause-handed
returns-clause-handed c =
    handed_all c.args.records.now c.loop-set.set-iterator c.args.signatures.now (drop c.loop-set.place c.args.signatures.now) c.loop-set.lists.items c.in-None.ensures.steps.0 c.loop-set.invariant.handed

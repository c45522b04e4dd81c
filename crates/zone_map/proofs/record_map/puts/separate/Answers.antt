use Rattle.std.proofs.Common.{length, refl, ap, arith}
use Rattle.std.specs.Prelude.{not}
use Rattle.std.proofs.lemmas.List.Filters.{length-filter_both}
use Rattle.std.proofs.lemmas.Map.Entries.{length-keys_of}
use Rattle.std.specs.Map.{keys_of}
use Rattle.zone_map.proofs.Parting.{fresh_more, common_more}
use Rattle.zone_map.proofs.record_map.puts.separate.Goals as goal

pub overflow_sub-len : goal.overflow_sub-len
overflow_sub-len c =
    let stands = c.requires.0 in
    let more = c.args.more.entries in
    omega (arith, ap length c.requires.1, length-filter_both stands (λ k. not (stands k)) (λ k. refl) (keys_of more), length-keys_of more, c.len.ensures.len)

pub loop-key-preserved-in-Some-behind : goal.loop-key-preserved-in-Some-behind
loop-key-preserved-in-Some-behind c = λ stands are.
    fresh_more stands c.args.more.entries c.loop-key.key-iterator c.next.new.self c.loop-key.left.now c.loop-key.common.items c.loop-key.fresh.items c.in-Some.key c.in-Some.set
    (c.loop-key.invariant stands are) c.in-Some.ensures.steps c.in-Some-behind.others.now c.push.new.self.items c.in-Some-behind.ensures c.in_ok-push-in-Some-behind.ensures.items

pub loop-key-preserved : goal.loop-key-preserved
loop-key-preserved c = λ stands are.
    common_more stands c.args.more.entries c.loop-key.key-iterator c.next.new.self c.loop-key.left.now c.loop-key.common.items c.loop-key.fresh.items c.in-Some.key c.in-Some.set
    (c.loop-key.invariant stands are) c.in-Some.ensures.steps c.push-in-None-behind.new.self.items c.in-None-behind.ensures c.in_ok-push-in-None-behind.ensures.items

use Rattle.std.proofs.Common.{◌≡◌, refl}
use Rattle.std.specs.Prelude.{option_map}
use Rattle.zone_planner.proofs.Passes.{checking_begun, checking_next}
use Rattle.zone_planner.proofs.zone.check_sets.Goals as goal

pub loop-key-init : goal.loop-key-init
loop-key-init c =
    let all : c.into_iter-key-iterator.result ≡ c.args.records.now = cc in
    checking_begun c.args.origin.now c.args.records.now c.into_iter-key-iterator.result _ c.iter-key-items.ensures.zone.ordered all refl

pub loop-key-preserved : goal.loop-key-preserved
loop-key-preserved c =
    checking_next c.args.origin.now c.args.records.now c.loop-key.key-iterator c.next.new.self (c.in-Some.key.now, c.in-Some.field-0-1.now) (option_map (λ a. a.now) c.loop-key.dname)
    c.in-Some.ensures.steps c.loop-key.invariant (option_map (λ a. a.now) c.next_dname-dname.result) c.in_ok-check_set.ensures.ok c.next_dname-dname.ensures

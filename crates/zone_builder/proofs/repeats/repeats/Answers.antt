use Rattle.std.proofs.Common.{[], ◌++◌, ap}
use Rattle.zone_builder.specs.Repeats.{repeats_behind}
use Rattle.zone_builder.proofs.RepeatedValues.{all_said, one_said, seen_more, seen_none, values}
use Rattle.zone_builder.proofs.repeats.repeats.Goals as goal

pub loop-value-init : goal.loop-value-init
loop-value-init g c = record {
  seen = seen_none g.T.PartialEq.eq g.T.Ord.cmp c.new-seen.result c.new-seen.ensures.empty;
  said = ap (λ said. said ++ repeats_behind g.T.PartialEq.eq [] (values c.args.values.now)) c.in_ok-repeats.ensures.items;
}

pub loop-value-preserved : goal.loop-value-preserved
loop-value-preserved g c = record {
  seen =
      seen_more g.T.PartialEq.eq g.T.Ord.cmp g.met.T.Ord.matches_eq c.args.values.now c.loop-value.value-index c.value-item.result c.loop-value-test.true c.value-item.is
      c.loop-value.seen c.insert.new.self c.in_ok-is_new.ensures.updates.0 c.loop-value.invariant.seen;
  said =
      one_said g.T.PartialEq.eq g.T.Ord.cmp g.met.T.Ord.matches_eq c.args.values.now c.loop-value.value-index c.value-item.result c.loop-value-test.true c.value-item.is
      c.loop-value.seen c.in_ok-is_new.is_new c.loop-value.repeats.items c.push.new.self.items _ c.loop-value.invariant.seen c.in_ok-is_new.ensures.added c.in_ok-push.ensures.items c.loop-value.invariant.said;
}

pub returns : goal.returns
returns g c =
    all_said g.T.PartialEq.eq g.T.Ord.cmp c.args.values.now c.loop-value.value-index c.loop-value.repeats.items _ c.loop-value-test.false c.loop-value.invariant.said

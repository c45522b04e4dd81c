use Rattle.std.proofs.Common.{◌≡◌, [], ◌++◌, take, drop}
use Rattle.zone_builder.specs.Repeats.{repeats_behind}
use Rattle.zone_builder.proofs.RepeatedValues.{values, HasSeen}
use Rattle.zone_builder.proofs.repeats.repeats.Given as goal

-- the values so far are seen, and what is said of these goes on with what is said of those that are left
abbrev pub invariant-loop-value : goal.invariant-loop-value
invariant-loop-value g l = record {
  seen : HasSeen {T = g.row.T.Denot} g.T.PartialEq.eq g.T.Ord.cmp l.seen (values (take l.value-index l.values));
  said : l.repeats.items ++ repeats_behind g.T.PartialEq.eq (values (take l.value-index l.values)) (values (drop l.value-index l.values)) ≡ repeats_behind g.T.PartialEq.eq [] (values l.values);
}

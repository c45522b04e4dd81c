use Rattle.std.proofs.Common.{List, ◌++◌}
use Rattle.std.specs.List.{AllZip}
use Rattle.std.specs.Vec.Iter.{into_iter_items}
use Rattle.zone_difference.specs.declared.difference.Difference.{Difference}
use Rattle.shown_zones.specs.Agreeing.{IsOfStep}
use Rattle.shown_zones.proofs.stepping.differences_of.Given as goal

-- with the differences of the steps that are left they are those of all
abbrev pub invariant-loop-step : goal.invariant-loop-step
invariant-loop-step l = (ds : List Difference) → AllZip IsOfStep (into_iter_items l.step-iterator) ds → AllZip IsOfStep l.fn.steps.items (l.differences.items ++ ds)

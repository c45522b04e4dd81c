use Rattle.std.proofs.Common.{◌≡◌, ◌++◌, map}
use Rattle.std.specs.Vec.Iter.{into_iter_items}
use Rattle.zone_builder.specs.Repeats.{flagged, unflagged}
use Rattle.zone_builder.specs.Warnings.{repeated_warning}
use Rattle.zone_builder.proofs.repeats.parted.Given as goal

-- those so far, and then those that are left
abbrev pub invariant-loop-given : goal.invariant-loop-given
invariant-loop-given l = record {
  kept : l.kept.items ++ unflagged (into_iter_items l.given-iterator) (into_iter_items l.repeats) ≡ unflagged l.fn.records.items l.fn.repeats.items;
  warned :
      l.warnings.items ++ map repeated_warning (flagged (into_iter_items l.given-iterator) (into_iter_items l.repeats))
      ≡ l.fn.warnings.items ++ map repeated_warning (flagged l.fn.records.items l.fn.repeats.items);
}

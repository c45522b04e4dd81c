use Rattle.std.proofs.Common.{◌≡◌, []}
use Rattle.std.specs.Prelude.{None}
use Rattle.std.specs.Vec.Iter.{into_iter_items}
use Rattle.zone_journal.specs.Grouping.{grouped}
use Rattle.zone_journal.specs.Standing.{grouped_of}
use Rattle.zone_journal.proofs.grouping.sets_in.Given as goal

abbrev pub invariant-loop-next : goal.invariant-loop-next
invariant-loop-next l = grouped (grouped_of l.groups) (into_iter_items l.next-iterator) ≡ grouped ([], None) l.fn.records.items

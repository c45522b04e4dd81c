use Rattle.std.proofs.Common.{◌≡◌, ◌≤◌, ◌+◌, ◌++◌, length, vec_len}
use Rattle.std.specs.Prelude.{vec_capacity}
use Rattle.std.specs.BTreeMap.{btree_map_len}
use Rattle.zone_frozen.proofs.thawing.move_back.Given as goal

-- those of the list and those that are left are together all, and there is room for them in the list
abbrev pub invariant-loop-row : goal.invariant-loop-row
invariant-loop-row l = record {
  same : l.rows.items ++ l.map.entries ≡ l.fn.rows.items ++ l.fn.map.entries;
  room : vec_len l.rows + length l.map.entries ≤ vec_capacity l.rows;
}

abbrev pub decreases-loop-row : goal.decreases-loop-row
decreases-loop-row l = btree_map_len l.map

use Rattle.std.proofs.Common.{◌≡◌, ◌≤◌, ◌+◌, ◌++◌, length, vec_len}
use Rattle.std.specs.Prelude.{vec_capacity}
use Rattle.zone_frozen.proofs.thawing.move_rows.Given as goal

-- those that are left and those of the map are together all, and there is room for them in the list
abbrev pub invariant-loop-key : goal.invariant-loop-key
invariant-loop-key l = record {
  same : l.rows.items ++ l.map.entries ≡ l.fn.rows.items ++ l.fn.map.entries;
  room : vec_len l.rows + length l.map.entries ≤ vec_capacity l.rows;
}

abbrev pub decreases-loop-key : goal.decreases-loop-key
decreases-loop-key l = vec_len l.rows

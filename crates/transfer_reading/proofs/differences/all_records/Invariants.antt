use Rattle.std.proofs.Common.{◌≡◌, ◌++◌}
use Rattle.std.specs.List.{flat_map}
use Rattle.transfer_reading.specs.Differences.{all_records}
use Rattle.transfer_reading.proofs.differences.all_records.Given as goal

-- those so far and those that are left are all
abbrev pub invariant-loop-set : goal.invariant-loop-set
invariant-loop-set l = l.all.items ++ flat_map (λ rs. rs) l.set-iterator ≡ all_records l.fn.held.entries

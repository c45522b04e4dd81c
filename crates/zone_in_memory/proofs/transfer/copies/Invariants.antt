use Rattle.std.proofs.Common.{◌≡◌, ◌++◌}
use Rattle.std.specs.Map.{values_of}
use Rattle.zone_handler.specs.Sets.{sets_records}
use Rattle.zone_in_memory.proofs.transfer.copies.Given as goal

-- the copies and the records of the sets that are left are the records of all sets
abbrev pub invariant-loop-set : goal.invariant-loop-set
invariant-loop-set l = l.copies.items ++ sets_records l.options l.set-iterator ≡ sets_records l.options (values_of l.sets)

use Rattle.std.proofs.Common.{◌≡◌, ◌++◌}
use Rattle.transferred_zones.specs.HeldRecords.{records_in}
use Rattle.transferred_zones.proofs.held.records_of.Given as goal

-- those so far, and those of the sets that are left
abbrev pub invariant-loop-set : goal.invariant-loop-set
invariant-loop-set l = l.records.items ++ records_in l.set-iterator ≡ records_in l.zone

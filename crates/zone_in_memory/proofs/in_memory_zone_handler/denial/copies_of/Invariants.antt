use Rattle.std.proofs.Common.{◌≡◌, map, take}
use Rattle.zone_in_memory.proofs.in_memory_zone_handler.denial.copies_of.Given as goal

-- the copies are of the sets passed
abbrev pub invariant-loop-set : goal.invariant-loop-set
invariant-loop-set l = l.copies.items ≡ map (λ s. s.now) (take l.set-index l.sets)

use Rattle.std.proofs.Common.{length, ◌-◌, ◌≡◌, map, drop}
use Rattle.denial_validation.specs.Nsec3Parameters.{records_with}
use Rattle.denial_validation.proofs.nsec3_records.Nsec3RecordsIterator.next.Given as goal

-- what is left is what was left at the call
abbrev pub invariant-loop-self : goal.invariant-loop-self
invariant-loop-self l = records_with l.self-inside.apex.now l.self-inside.parameters.now (map (λ r. r.now) (drop l.self-inside.next l.self-inside.records.now)) ≡ l.fn.self

abbrev pub decreases-loop-self : goal.decreases-loop-self
decreases-loop-self l = length l.self-inside.records.now - l.self-inside.next

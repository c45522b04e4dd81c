use Rattle.std.proofs.Common.{length, ◌-◌, ◌≡◌, map, drop}
use Rattle.denial_validation.specs.NsecRecords.{nsec_records}
use Rattle.denial_validation.proofs.nsec_records.NsecRecordsIterator.next.Given as goal

-- what is left is what was left at the call
abbrev pub invariant-loop-self : goal.invariant-loop-self
invariant-loop-self l = nsec_records (map (λ r. r.now) (drop l.self-inside.next l.self-inside.records.now)) ≡ l.fn.self

abbrev pub decreases-loop-self : goal.decreases-loop-self
decreases-loop-self l = length l.self-inside.records.now - l.self-inside.next

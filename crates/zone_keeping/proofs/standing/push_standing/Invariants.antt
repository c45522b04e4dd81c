use Rattle.std.proofs.Common.{◌≡◌, ◌++◌, drop}
use Rattle.zone_keeping.specs.Standing.{standing_texts, standing_from, standing_of}
use Rattle.zone_keeping.proofs.standing.push_standing.Given as goal

abbrev pub invariant-loop-record : goal.invariant-loop-record
invariant-loop-record l =
    l.out.items ++ standing_texts (standing_from l.set (drop l.record-index l.record-items)) ≡ l.fn.out.items ++ standing_texts (standing_of l.set)

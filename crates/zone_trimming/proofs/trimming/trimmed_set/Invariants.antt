use Rattle.std.proofs.Common.{◌≡◌, take}
use Rattle.zone_trimming.proofs.TrimmedSets.{made_of}
use Rattle.zone_trimming.proofs.trimming.trimmed_set.Given as goal

-- the records so far are put in
abbrev pub invariant-loop-stored : goal.invariant-loop-stored
invariant-loop-stored l = l.trimmed ≡ made_of l.set (take l.stored-index l.set.records)

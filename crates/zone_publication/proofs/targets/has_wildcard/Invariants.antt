use Rattle.std.proofs.Common.{◌≡◌, length}
use Rattle.zone_publication.specs.Targets.{has_wildcard}
use Rattle.zone_publication.proofs.targets.has_wildcard.Given as goal

abbrev pub invariant-loop-below : goal.invariant-loop-below
invariant-loop-below l = has_wildcard l.zone.records.now l.below ≡ has_wildcard l.zone.records.now l.name

abbrev pub decreases-loop-below : goal.decreases-loop-below
decreases-loop-below l = length l.below

use Rattle.std.proofs.Common.{◌≡◌, ◌++◌, drop}
use Rattle.zone_publication.specs.Targets.{targets}
use Rattle.zone_publication.proofs.targets.push_targets.Given as goal

abbrev pub invariant-loop-given : goal.invariant-loop-given
invariant-loop-given l =
    l.out.items ++ targets l.zone.origin.now l.zone.records.now l.owner l.record_type.0 (drop l.given-index l.records)
    ≡ l.fn.out.items ++ targets l.zone.origin.now l.zone.records.now l.owner l.record_type.0 l.records

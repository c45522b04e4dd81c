use Rattle.std.proofs.Common.{◌≡◌, ◌++◌}
use Rattle.std.specs.List.{flat_map}
use Rattle.zone_publication.specs.Findings.{findings, set_findings}
use Rattle.zone_publication.proofs.checking.check.Given as goal

abbrev pub invariant-loop-key : goal.invariant-loop-key
invariant-loop-key l =
    l.found.items ++ flat_map (λ e. set_findings l.origin l.period l.algorithms.items l.records e.0.name e.0.record_type.0 e.1) l.key-iterator
    ≡ findings l.origin l.period l.records

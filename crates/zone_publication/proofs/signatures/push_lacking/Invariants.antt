use Rattle.std.proofs.Common.{◌≡◌, ◌++◌, drop}
use Rattle.std.specs.List.{flat_map}
use Rattle.zone_publication.specs.Signatures.{lacking}
use Rattle.zone_publication.proofs.signatures.push_lacking.Given as goal

abbrev pub invariant-loop-algorithm : goal.invariant-loop-algorithm
invariant-loop-algorithm l =
    l.out.items ++ flat_map (lacking l.owner l.record_type.0 l.rrsigs) (drop l.algorithm-index l.algorithms)
    ≡ l.fn.out.items ++ flat_map (lacking l.owner l.record_type.0 l.rrsigs) l.algorithms

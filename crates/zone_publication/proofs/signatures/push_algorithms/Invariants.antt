use Rattle.std.proofs.Common.{◌≡◌, drop}
use Rattle.zone_publication.specs.Signatures.{with_algorithms}
use Rattle.zone_publication.proofs.signatures.push_algorithms.Given as goal

abbrev pub invariant-loop-given : goal.invariant-loop-given
invariant-loop-given l = with_algorithms l.algorithms.items (drop l.given-index l.records) ≡ with_algorithms l.fn.algorithms.items l.records

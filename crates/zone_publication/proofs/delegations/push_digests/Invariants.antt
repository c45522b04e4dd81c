use Rattle.std.proofs.Common.{◌≡◌, ◌++◌, drop}
use Rattle.std.specs.List.{flat_map}
use Rattle.zone_publication.specs.Delegations.{record_digest}
use Rattle.zone_publication.proofs.delegations.push_digests.Given as goal

abbrev pub invariant-loop-given : goal.invariant-loop-given
invariant-loop-given l =
    l.out.items ++ flat_map (λ r. record_digest l.owner l.record_type.0 r.rdata) (drop l.given-index l.records)
    ≡ l.fn.out.items ++ flat_map (λ r. record_digest l.owner l.record_type.0 r.rdata) l.records

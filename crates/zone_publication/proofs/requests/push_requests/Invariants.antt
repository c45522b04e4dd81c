use Rattle.std.proofs.Common.{◌≡◌, ◌++◌, drop}
use Rattle.std.specs.List.{flat_map}
use Rattle.zone_publication.specs.Requests.{request_finding}
use Rattle.zone_publication.proofs.requests.push_requests.Given as goal

abbrev pub invariant-loop-given : goal.invariant-loop-given
invariant-loop-given l =
    l.out.items ++ flat_map (λ r. request_finding l.owner l.record_type.0 l.zone.origin.now l.keys r.rdata) (drop l.given-index l.records)
    ≡ l.fn.out.items ++ flat_map (λ r. request_finding l.owner l.record_type.0 l.zone.origin.now l.keys r.rdata) l.records

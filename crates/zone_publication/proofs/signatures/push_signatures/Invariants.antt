use Rattle.std.proofs.Common.{◌≡◌, ◌++◌, drop}
use Rattle.std.specs.List.{flat_map}
use Rattle.zone_proto.specs.declared.record.Record.{Record}
use Rattle.zone_publication.specs.Signatures.{signature_finding}
use Rattle.zone_publication.proofs.signatures.push_signatures.Given as goal

abbrev pub invariant-loop-given : goal.invariant-loop-given
invariant-loop-given l =
    l.out.items ++ flat_map (λ (r : Record). signature_finding l.zone.origin.now l.period l.owner l.record_type.0 l.set.ttl r.rdata) (drop l.given-index l.set.signatures)
    ≡ l.initial.out.items ++ flat_map (λ (r : Record). signature_finding l.zone.origin.now l.period l.owner l.record_type.0 l.set.ttl r.rdata) l.set.signatures

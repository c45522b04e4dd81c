use Rattle.std.proofs.Common.{◌≡◌, drop}
use Rattle.std.specs.List.{list_any}
use Rattle.zone_proto.specs.declared.record.Record.{Record}
use Rattle.zone_publication.specs.Requests.{is_request_of}
use Rattle.zone_publication.proofs.requests.has_key.Given as goal

abbrev pub invariant-loop-key : goal.invariant-loop-key
invariant-loop-key l =
    list_any (λ (k : Record). is_request_of l.origin l.record_type.0 l.octets k.rdata) (drop l.key-index l.keys)
    ≡ list_any (λ (k : Record). is_request_of l.origin l.record_type.0 l.octets k.rdata) l.keys

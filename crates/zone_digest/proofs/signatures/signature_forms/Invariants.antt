use Rattle.std.proofs.Common.{◌≡◌, ◌++◌, drop, map}
use Rattle.zone_proto.specs.declared.record.Record.{Record}
use Rattle.zone_digest.specs.ZoneText.{signature_octets}
use Rattle.zone_digest.proofs.signatures.signature_forms.Given as goal

-- those so far, and then the forms of the signatures that are left
abbrev pub invariant-loop-signature : goal.invariant-loop-signature
invariant-loop-signature l = l.forms.items ++ map (λ (r : Record). signature_octets r.rdata) (drop l.signature-index l.signatures) ≡ map (λ (r : Record). signature_octets r.rdata) l.signatures

use Rattle.std.proofs.Common.{◌≡◌, ◌++◌, drop, map}
use Rattle.zone_proto.specs.declared.record.Record.{Record}
use Rattle.zone_planning.specs.Canonical.{canonical_octets}
use Rattle.zone_planning.proofs.ordering.canonical_forms.Given as goal

-- those so far, and then the forms of the records that are left
abbrev pub invariant-loop-record : goal.invariant-loop-record
invariant-loop-record l = l.forms.items ++ map (λ (r : Record). canonical_octets r.rdata) (drop l.record-index l.records) ≡ map (λ (r : Record). canonical_octets r.rdata) l.records

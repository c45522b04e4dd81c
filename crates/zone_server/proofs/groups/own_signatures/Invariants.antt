use Rattle.std.proofs.Common.{◌≡◌, take}
use Rattle.std.specs.Prelude.{filter}
use Rattle.zone_proto.specs.declared.record.Record.{Record}
use Rattle.zone_lookup.specs.FoundSets.{found_set}
use Rattle.zone_response.specs.Sections.{covers}
use Rattle.zone_server.proofs.groups.own_signatures.Given as goal

-- those passed that cover the type
abbrev pub invariant-loop-rrsig : goal.invariant-loop-rrsig
invariant-loop-rrsig l = l.signatures.items ≡ filter (λ (r : Record). covers (found_set l.sent.set).record_type r.rdata) (take l.rrsig-index l.rrsig-items)

use Rattle.std.proofs.Common.{◌≡◌, true, take}
use Rattle.std.specs.List.{list_all}
use Rattle.zone_proto.specs.declared.record.Record.{Record}
use Rattle.zone_lookup.specs.FoundSets.{found_set}
use Rattle.zone_response.specs.Sections.{covers}
use Rattle.zone_server.proofs.groups.are_own.Given as goal

-- all of those passed cover the type
abbrev pub invariant-loop-rrsig : goal.invariant-loop-rrsig
invariant-loop-rrsig l = list_all (λ (r : Record). covers (found_set l.sent.set).record_type r.rdata) (take l.rrsig-index l.rrsig-items) ≡ true

use Rattle.std.proofs.Common.{◌≡◌, false, take}
use Rattle.std.specs.List.{list_any}
use Rattle.zone_proto.specs.declared.record.Record.{Record}
use Rattle.zone_lookup.specs.FoundSets.{found_set}
use Rattle.zone_response.specs.Sections.{covers}
use Rattle.ready_referrals.proofs.kept_sets.has_signature.Given as goal

-- none of those passed covers the type
abbrev pub invariant-loop-rrsig : goal.invariant-loop-rrsig
invariant-loop-rrsig l = list_any (λ (r : Record). covers (found_set l.sent.set).record_type r.rdata) (take l.rrsig-index l.rrsig-items) ≡ false

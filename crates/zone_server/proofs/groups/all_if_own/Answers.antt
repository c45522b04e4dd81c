use Rattle.std.proofs.Common.{sym, ap, ◌∙◌}
use Rattle.zone_proto.specs.declared.record.Record.{Record}
use Rattle.zone_proto.specs.Sets.{RRset}
use Rattle.zone_lookup.specs.FoundSets.{found_set}
use Rattle.zone_response.specs.Sections.{covers}
use Rattle.zone_server.proofs.GroupFacts.{all_pass}
use Rattle.zone_server.proofs.groups.all_if_own.Goals as goal

pub returns-then-are_own : goal.returns-then-are_own
returns-then-are_own c =
    let set = found_set c.args.sent.now.set in
    c.rrsigs.ensures.value ∙ ap (λ (s : RRset). s.signatures) c.set.ensures
    ∙ sym (all_pass (λ (r : Record). covers set.record_type r.rdata) set.signatures (sym c.are_own.ensures ∙ c.if-are_own.true))

use Rattle.std.proofs.Common.{◌++◌, drop, sym, ap, ◌∙◌}
use Rattle.zone_map.specs.Zones.{Sets}
use Rattle.message_writing.specs.Responses.{records_of, records_together}
use Rattle.transfer_messages.specs.Transfers.{left_at, sets_records, zone_records}
use Rattle.zone_server.specs.Transfers.{soa_alone}
use Rattle.transfer_messages.proofs.Gathered.{gathered_opening, in_place}
use Rattle.transfer_messages.proofs.coming.coming.Goals as goal
use Rattle.transfer_messages.proofs.coming.coming.Goals.{in-Opening+in_ok-skip-in-Opening+in_ok-push_sets-in-Opening, in-Set+in_ok-push_sets-in-Set, in-Closing+in_ok-push_group-in-Closing}

pub returns : goal.returns
returns c =
    let s = c.args.transfer.now.soa.now in
    let m = c.args.transfer.now.sets.now in
    let soa = records_together (soa_alone s) in
    let whole = left_at s m c.args.place.now in
    let none = c.new-groups.result.items in
    let all = c.match-place.groups.items in
    elim c.match-place.branch [
      | in-Opening+in_ok-skip-in-Opening+in_ok-push_sets-in-Opening w ↦
          let sent = w.in-Opening.sent in
          in_place none w.push_sets.new.groups.items all (drop sent (zone_records s m)) whole c.new-groups.ensures.items (λ i. (w.groups-is i).items) (ap (left_at s m) (sym w.in-Opening.is))
          (gathered_opening none w.push_group.new.groups.items w.push_sets.new.groups.items (records_of w.soa_alone.result) soa w.sets_ahead.result m sent w.in_ok-skip-in-Opening.skip
          w.soa_alone.ensures w.sets_ahead.ensures.value w.in_ok-skip-in-Opening.ensures.taken w.in_ok-push_sets-in-Opening.ensures w.in_ok-skip-in-Opening.ensures.behind)
      | in-Set+in_ok-push_sets-in-Set w ↦
          in_place none w.push_sets-in-Set.new.groups.items all (drop w.in-Set.sent (sets_records w.sets_ahead-in-Set.result ++ soa)) whole c.new-groups.ensures.items (λ i. (w.groups-is i).items)
          (ap (λ (x : Sets). drop w.in-Set.sent (sets_records x ++ soa)) w.sets_ahead-in-Set.ensures.value ∙ ap (left_at s m) (sym w.in-Set.is)) w.in_ok-push_sets-in-Set.ensures
      | in-Closing+in_ok-push_group-in-Closing w ↦
          in_place none w.push_group-in-Closing.new.groups.items all (drop w.in-Closing.sent (records_of w.soa_alone-in-Closing.result)) whole c.new-groups.ensures.items (λ i. (w.groups-is i).items)
          (ap (drop w.in-Closing.sent) w.soa_alone-in-Closing.ensures ∙ ap (left_at s m) (sym w.in-Closing.is)) w.in_ok-push_group-in-Closing.ensures.taken
    ]

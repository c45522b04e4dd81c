use Rattle.std.proofs.Common.{◌≡◌, ℕ, ◌++◌, ◌<◌, get_or, take}
use Rattle.std.specs.List.{flat_map}
use Rattle.message_writing.specs.Responses.{all_records}
use Rattle.zone_proto.specs.Sets.{RRset}
use Rattle.shown_zones.specs.Sending.{sent}
use Rattle.zone_journal.specs.Writing.{IsSound}
use Rattle.zone_journal.proofs.groups.push_sets.Given as goal

abbrev pub invariant-loop-set : goal.invariant-loop-set
invariant-loop-set l =
    (all_records l.groups.items ≡ all_records l.initial.groups.items ++ flat_map sent (take l.set-index l.sets))
    × ((k : ℕ) (d : RRset) → k < l.set-index → IsSound (get_or l.sets k d))

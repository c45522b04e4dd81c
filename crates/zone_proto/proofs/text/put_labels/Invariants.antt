use Rattle.std.proofs.Common.{◌≡◌, ◌≤◌, ◌++◌, length, take}
use Rattle.std.specs.List.{flat_map}
use Rattle.zone_proto.specs.Text.{label_text}
use Rattle.zone_proto.proofs.text.put_labels.Given as goal

abbrev pub invariant-loop-label : goal.invariant-loop-label
invariant-loop-label l = record {
  within : l.end ≤ length l.room;
  text : flat_map label_text l.fn.labels ≡ take l.end l.room ++ flat_map label_text l.label-iterator;
}

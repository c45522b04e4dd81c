use Rattle.std.proofs.Common.{◌≡◌, ◌++◌, ◌+◌, length, take}
use Rattle.std.specs.List.{flat_map}
use Rattle.zone_proto.specs.Text.{octet_text}
use Rattle.zone_proto.proofs.text.put_label.Given as goal

abbrev pub invariant-loop-octet : goal.invariant-loop-octet
invariant-loop-octet l = record {
  at : l.end ≡ l.front + l.octet-index;
  room : length l.room ≡ length l.fn.room;
  text : take l.end l.room ≡ take l.front l.fn.room ++ flat_map octet_text (take l.octet-index l.fn.label);
}

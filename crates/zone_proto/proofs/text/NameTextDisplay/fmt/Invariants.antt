use Rattle.std.proofs.Common.{◌≡◌, ◌++◌}
use Rattle.std.specs.Fmt.{HasWritten, IsPlainFormatter}
use Rattle.std.specs.List.{flat_map}
use Rattle.zone_proto.specs.Text.{label_text}
use Rattle.zone_proto.proofs.text.NameTextDisplay.fmt.Given as goal

abbrev pub invariant-loop-label : goal.invariant-loop-label
invariant-loop-label g l = (written : _) × (flat_map label_text l.self.0 ≡ written ++ flat_map label_text l.label-iterator)
    × (IsPlainFormatter l.initial.f → HasWritten g.W.Write.write_str_gives l.initial.f written l.f)

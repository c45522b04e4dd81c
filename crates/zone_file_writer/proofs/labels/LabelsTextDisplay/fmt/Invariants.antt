use Rattle.std.proofs.Common.{◌≡◌, ◌++◌, length}
use Rattle.std.specs.Fmt.{HasWritten, IsPlainFormatter}
use Rattle.zone_file_writer.specs.Labels.{parts_text}
use Rattle.zone_file_writer.proofs.labels.LabelsTextDisplay.fmt.Given as goal

abbrev pub invariant-loop-label : goal.invariant-loop-label
invariant-loop-label g l = (written : _) × (parts_text l.self.0.now ≡ written ++ parts_text l.rest)
    × (IsPlainFormatter l.initial.f → HasWritten g.W.Write.write_str_gives l.initial.f written l.f)

abbrev pub decreases-loop-label : goal.decreases-loop-label
decreases-loop-label g l = length l.rest

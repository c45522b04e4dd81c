use Rattle.std.proofs.Common.{◌≡◌, ◌++◌}
use Rattle.std.specs.Fmt.{HasWritten, IsPlainFormatter}
use Rattle.zone_file_writer.specs.Printing.{lines_text}
use Rattle.zone_printing.specs.ZoneRecords.{other_records}
use Rattle.zone_printing.proofs.zone_text.OthersTextDisplay.fmt.Given as goal

abbrev pub invariant-loop-key : goal.invariant-loop-key
invariant-loop-key g l = (written : _) × (lines_text (other_records l.self.1.now l.self.2.now) ≡ written ++ lines_text (other_records l.self.1.now l.key-iterator))
    × (IsPlainFormatter l.initial.f → HasWritten g.W.Write.write_str_gives l.initial.f written l.f)

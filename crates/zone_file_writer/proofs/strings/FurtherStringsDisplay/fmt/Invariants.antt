use Rattle.std.proofs.Common.{◌≡◌, ◌++◌, length}
use Rattle.std.specs.Fmt.{HasWritten, IsPlainFormatter}
use Rattle.zone_file_writer.specs.Strings.{further_text}
use Rattle.zone_file_writer.proofs.strings.FurtherStringsDisplay.fmt.Given as goal

abbrev pub invariant-loop-string : goal.invariant-loop-string
invariant-loop-string g l = (written : _) × (further_text l.self.0.now ≡ written ++ further_text l.rest)
    × (IsPlainFormatter l.initial.f → HasWritten g.W.Write.write_str_gives l.initial.f written l.f)

abbrev pub decreases-loop-string : goal.decreases-loop-string
decreases-loop-string g l = length l.rest

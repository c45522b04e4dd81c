use Rattle.std.proofs.Common.{take}
use Rattle.std.specs.Fmt.{HasWritten, IsPlainFormatter}
use Rattle.zone_file_writer.specs.Words.{types_text}
use Rattle.zone_file_writer.proofs.types.TypesTextDisplay.fmt.Given as goal

abbrev pub invariant-loop-record_type : goal.invariant-loop-record_type
invariant-loop-record_type g l =
    IsPlainFormatter l.initial.f → HasWritten g.W.Write.write_str_gives l.initial.f (types_text (take l.record_type-index l.record_type-items)) l.f

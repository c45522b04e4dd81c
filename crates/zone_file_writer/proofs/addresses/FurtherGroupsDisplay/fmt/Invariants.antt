use Rattle.std.proofs.Common.{take}
use Rattle.std.specs.Fmt.{HasWritten, IsPlainFormatter}
use Rattle.zone_file_writer.specs.Addresses.{behind_colons}
use Rattle.zone_file_writer.proofs.addresses.FurtherGroupsDisplay.fmt.Given as goal

abbrev pub invariant-loop-group : goal.invariant-loop-group
invariant-loop-group g l =
    IsPlainFormatter l.initial.f → HasWritten g.W.Write.write_str_gives l.initial.f (behind_colons (take l.group-index l.group-items)) l.f

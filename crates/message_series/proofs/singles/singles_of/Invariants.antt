use Rattle.std.proofs.Common.{◌≡◌, take}
use Rattle.message_writing.specs.Responses.{all_records}
use Rattle.message_series.specs.Singles.{AreSingle}
use Rattle.message_series.proofs.singles.singles_of.Given as goal

abbrev pub invariant-loop-group : goal.invariant-loop-group
invariant-loop-group l = (all_records l.singles.items ≡ all_records (take l.group-index l.groups)) × AreSingle l.singles.items

use Rattle.std.proofs.Common.{◌≡◌, ◌+◌, ◌++◌, take}
use Rattle.std.specs.List.{flat_map}
use Rattle.message_writing.specs.KeptText.{front_at}
use Rattle.message_writing.proofs.kept_records.PointedText.push_to.Given as goal

abbrev pub invariant-loop-front : goal.invariant-loop-front
invariant-loop-front l = l.out.items ≡ l.fn.out.items ++ flat_map (front_at l.offset) (take l.front-index l.self.fronts.items)

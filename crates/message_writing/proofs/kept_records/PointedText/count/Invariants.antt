use Rattle.std.proofs.Common.{◌≡◌, ◌+◌, ℕ, length, take}
use Rattle.std.specs.List.{flat_map}
use Rattle.message_writing.specs.KeptText.{front_at}
use Rattle.message_writing.proofs.kept_records.PointedText.count.Given as goal

abbrev pub invariant-loop-front : goal.invariant-loop-front
invariant-loop-front l = (p : ℕ) → l.count ≡ length l.self.tail.items + length (flat_map (front_at p) (take l.front-index l.self.fronts.items))

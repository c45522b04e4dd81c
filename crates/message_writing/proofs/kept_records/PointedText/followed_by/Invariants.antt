use Rattle.std.proofs.Common.{◌≡◌, ◌+◌, ◌++◌, ℕ, take}
use Rattle.std.specs.List.{flat_map}
use Rattle.message_writing.specs.KeptText.{front_at, text_at}
use Rattle.message_writing.proofs.kept_records.PointedText.followed_by.Given as goal

abbrev pub invariant-loop-front : goal.invariant-loop-front
invariant-loop-front l = (p : ℕ) → text_at p l.text ≡ text_at p l.fn.self ++ flat_map (front_at p) (take l.front-index l.other.fronts.items)

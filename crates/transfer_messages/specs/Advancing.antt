-- Records that are passed
use Rattle.std.specs.Prelude.{◌≡◌, ℕ, ◌+◌, ◌<◌}
use Rattle.transfer_messages.specs.declared.advancing.Passing.{Passing}
use Rattle.transfer_messages.specs.declared.advancing.Passing.TheVariants as passing

-- so many and so many records were passed, from the beginning of so many others on
abbrev pub Passes : ℕ → ℕ → ℕ → Passing → Type 0
Passes sent count size (passing.Here n) = (n ≡ sent + count) × (n < size)
Passes sent count size (passing.Behind s c) = (s + c) + size ≡ sent + count

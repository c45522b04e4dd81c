-- What a call about keys or transfers tells a program that isn't written in Rattle
use Rattle.std.specs.Prelude.{◌≡◌, ℕ}
use Rattle.zone_database.specs.Outcomes as zones
use Rattle.transfer_calls.specs.declared.outcome.TransferOutcome.{TransferOutcome}
use Rattle.transfer_calls.specs.declared.outcome.TransferOutcome.TheVariants.{Usual, NoKeys, NoKey, Unkeyed, Transfer, NoTransfer, NoMore, NoSteps}

-- the number by which an outcome is told
abbrev pub code_of : TransferOutcome → ℕ
code_of (Usual outcome) = zones.code_of outcome
code_of NoKeys = 32
code_of NoKey = 33
code_of Unkeyed = 34
code_of Transfer = 35
code_of NoTransfer = 36
code_of NoMore = 27
code_of NoSteps = 37

-- a code tells an outcome that this holds of
abbrev pub Codes : ℕ → (TransferOutcome → Type 0) → Type 0
Codes code holds = (outcome : TransferOutcome) × (code ≡ code_of outcome) × holds outcome

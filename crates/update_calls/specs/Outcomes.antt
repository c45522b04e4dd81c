-- What a call about updates tells a program that isn't written in Rattle
use Rattle.std.specs.Prelude.{◌≡◌, ℕ}
use Rattle.zone_database.specs.Outcomes as zones
use Rattle.update_calls.specs.declared.outcome.UpdateOutcome.{UpdateOutcome}
use Rattle.update_calls.specs.declared.outcome.UpdateOutcome.TheVariants.{Usual, NoKeys, NoKey, NoUpdate, BadScope}

-- the number by which an outcome is told
abbrev pub code_of : UpdateOutcome → ℕ
code_of (Usual outcome) = zones.code_of outcome
code_of NoKeys = 32
code_of NoKey = 33
code_of NoUpdate = 38
code_of BadScope = 39

-- a code tells an outcome that this holds of
abbrev pub Codes : ℕ → (UpdateOutcome → Type 0) → Type 0
Codes code holds = (outcome : UpdateOutcome) × (code ≡ code_of outcome) × holds outcome

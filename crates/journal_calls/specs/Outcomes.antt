-- What a call about an update with a journal tells a program that isn't written in Rattle
use Rattle.std.specs.Prelude.{◌≡◌, ℕ}
use Rattle.zone_database.specs.Outcomes as zones
use Rattle.journal_calls.specs.declared.outcome.JournalOutcome.{JournalOutcome}
use Rattle.journal_calls.specs.declared.outcome.JournalOutcome.TheVariants.{Usual, NoPlan, ZoneChanged, NoKeys, NoUpdate, NoEntry, Misfit}

-- the number by which an outcome is told
abbrev pub code_of : JournalOutcome → ℕ
code_of (Usual outcome) = zones.code_of outcome
code_of NoPlan = 20
code_of ZoneChanged = 28
code_of NoKeys = 32
code_of NoUpdate = 38
code_of NoEntry = 43
code_of Misfit = 44

-- a code tells an outcome that this holds of
abbrev pub Codes : ℕ → (JournalOutcome → Type 0) → Type 0
Codes code holds = (outcome : JournalOutcome) × (code ≡ code_of outcome) × holds outcome

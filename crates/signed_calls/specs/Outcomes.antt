-- What the call tells a program that isn't written in Rattle by which an update of a signed zone is prepared
use Rattle.std.specs.Prelude.{◌≡◌, ℕ}
use Rattle.journal_calls.specs.Outcomes as journals
use Rattle.plan_calls.specs.Outcomes as plans
use Rattle.signed_calls.specs.declared.outcome.PrepareOutcome.{PrepareOutcome}
use Rattle.signed_calls.specs.declared.outcome.PrepareOutcome.TheVariants.{Update, Plan}

-- the number by which an outcome is told
abbrev pub code_of : PrepareOutcome → ℕ
code_of (Update outcome) = journals.code_of outcome
code_of (Plan outcome) = plans.code_of outcome

-- a code tells an outcome that this holds of
abbrev pub Codes : ℕ → (PrepareOutcome → Type 0) → Type 0
Codes code holds = (outcome : PrepareOutcome) × (code ≡ code_of outcome) × holds outcome

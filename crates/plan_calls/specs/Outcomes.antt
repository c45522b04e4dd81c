-- What a call about a plan tells a program that isn't written in Rattle
use Rattle.std.specs.Prelude.{◌≡◌, ℕ}
use Rattle.zone_planning.specs.declared.fault.FinishFault.{FinishFault}
use Rattle.zone_planning.specs.declared.fault.FinishFault.TheVariants as finish
use Rattle.zone_planning.specs.declared.fault.PlanFault.{PlanFault}
use Rattle.zone_planning.specs.declared.fault.PlanFault.TheVariants as plan
use Rattle.plan_calls.specs.declared.outcome.PlanOutcome.{PlanOutcome}
use Rattle.plan_calls.specs.declared.outcome.PlanOutcome.TheVariants as outcome

-- the number by which it is told why a zone isn't planned
abbrev pub plan_code : PlanFault → ℕ
plan_code plan.Memory = 5
plan_code plan.ManyKeys = 21
plan_code (plan.BadKey place) = 21
plan_code plan.NoKey = 22
plan_code (plan.UnsignedAlgorithm algorithm) = 22
plan_code plan.Moments = 23
plan_code plan.NoSoa = 25
plan_code plan.CnameAtOrigin = 25
plan_code (plan.Outside n) = 25
plan_code (plan.Made n t) = 25
plan_code (plan.BelowDname n) = 25
plan_code plan.Hash = 26
plan_code plan.OwnerTooLong = 26
plan_code plan.Unwritable = 25

-- and why signatures aren't put in
abbrev pub finish_code : FinishFault → ℕ
finish_code finish.Memory = 5
finish_code finish.BadForm = 31
finish_code finish.TooFew = 29
finish_code finish.TooMany = 30
finish_code (finish.UnknownKey place) = 31
finish_code (finish.WrongLength place) = 31

-- the number by which an outcome is told
abbrev pub code_of : PlanOutcome → ℕ
code_of outcome.Done = 0
code_of outcome.Closed = 2
code_of outcome.BadName = 3
code_of outcome.NoMemory = 5
code_of outcome.NoRoom = 6
code_of outcome.NoZone = 7
code_of outcome.NoPlan = 20
code_of outcome.BadKeys = 21
code_of outcome.BadDenial = 24
code_of (outcome.Unplanned f) = plan_code f
code_of outcome.NoMore = 27
code_of outcome.ZoneChanged = 28
code_of (outcome.Unfinished f) = finish_code f

-- a code tells an outcome that this holds of
abbrev pub Codes : ℕ → (PlanOutcome → Type 0) → Type 0
Codes code holds = (o : PlanOutcome) × (code ≡ code_of o) × holds o

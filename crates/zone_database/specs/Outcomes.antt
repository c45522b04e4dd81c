-- What a call tells a program that isn't written in Rattle
use Rattle.std.specs.Prelude.{◌≡◌, ℕ}
use Rattle.zone_database.specs.declared.outcome.Outcome.{Outcome}
use Rattle.zone_database.specs.declared.outcome.Outcome.TheVariants.{Done, Ignored, Closed, BadName, BadText, NoMemory, NoRoom, NoZone, ZoneExists, BadTransport}

-- the number by which an outcome is told
abbrev pub code_of : Outcome → ℕ
code_of Done = 0
code_of Ignored = 1
code_of Closed = 2
code_of BadName = 3
code_of BadText = 4
code_of NoMemory = 5
code_of NoRoom = 6
code_of NoZone = 7
code_of ZoneExists = 8
code_of BadTransport = 9

-- a code tells an outcome that this holds of
abbrev pub Codes : ℕ → (Outcome → Type 0) → Type 0
Codes code holds = (outcome : Outcome) × (code ≡ code_of outcome) × holds outcome

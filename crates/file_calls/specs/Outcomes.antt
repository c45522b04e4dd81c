-- What a call about files tells a program that isn't written in Rattle, and what that tells
use Rattle.std.specs.Prelude.{◌≡◌, ◌==◌, ℕ, if◌then◌else◌}
use Rattle.included_texts.specs.declared.kept.Lack.{Lack}
use Rattle.included_texts.specs.declared.kept.Lack.TheVariants as lack
use Rattle.file_calls.specs.declared.outcome.FileOutcome.{FileOutcome}
use Rattle.file_calls.specs.declared.outcome.FileOutcome.TheVariants.{Done, Closed, BadName, BadText, NoMemory, NoRoom, WantsFiles, NoFile, BadFileName}

-- the number by which an outcome is told
abbrev pub code_of : FileOutcome → ℕ
code_of Done = 0
code_of Closed = 2
code_of BadName = 3
code_of BadText = 4
code_of NoMemory = 5
code_of NoRoom = 6
code_of WantsFiles = 40
code_of NoFile = 41
code_of BadFileName = 42

-- a code tells an outcome that this holds of
abbrev pub Codes : ℕ → (FileOutcome → Type 0) → Type 0
Codes code holds = (outcome : FileOutcome) × (code ≡ code_of outcome) × holds outcome

-- why a file can't be read, by its number
abbrev pub lack_of : ℕ → Lack
lack_of number =
    if number == 0 then lack.Absent
    else (if number == 1 then lack.Folder
    else (if number == 2 then lack.Stream
    else (if number == 3 then lack.Denied
    else lack.Unreadable)))

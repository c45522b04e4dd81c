-- The versions of a zone, the oldest one first (RFC 1995 sections 4 and 5)
use Rattle.std.specs.Prelude.{◌≡◌, ℕ, ◌==◌, if◌then◌else◌, List, [], ◌∷◌, Option, Some, None, Result, Ok, Err}
use Rattle.std.specs.Option.{option_or}
use Rattle.zone_map.specs.Zones.{Sets}
use Rattle.zone_difference.specs.Differences.{◌>>=◌, applied, sets_lacking, IsFault}
use Rattle.zone_difference.specs.declared.difference.Difference.{Difference}
use Rattle.zone_difference.specs.declared.error.DifferenceError.{DifferenceError}
use Rattle.zone_history.specs.declared.history.Version.{Version}

-- the versions from the last one of a serial on, if one has it
unfoldable pub since : ℕ → List Version → Option (List Version)
since serial [] = None
since serial (v ∷ vs) = option_or (since serial vs) (if v.serial == serial then Some (v ∷ vs) else None)

-- the zone of a version, from the next one: what was given is taken out, and what was taken out is given
abbrev pub back : Sets → Version → Result Sets DifferenceError
back m v = applied m v.difference.given.items v.difference.taken.items

-- the zone before some versions, from the one after them: each is undone, the last one first
unfoldable pub undone : Sets → List Version → Result Sets DifferenceError
undone m [] = Ok m
undone m (v ∷ vs) = undone m vs >>= λ n. back n v

-- a call gives the difference from a zone that is made to another one, or refuses it for the fault that is defined; memory may run out in
-- place of either
abbrev pub IsDifferenceFrom : Sets → Difference → Result Sets DifferenceError → Type 0
IsDifferenceFrom zone d made =
    (before : Sets) × (made ≡ Ok before) × (d.taken.items ≡ sets_lacking before zone) × (d.given.items ≡ sets_lacking zone before)

abbrev pub GivesDifference : Result Difference DifferenceError → Sets → Result Sets DifferenceError → Type 0
GivesDifference (Ok d) zone made = IsDifferenceFrom zone d made
GivesDifference (Err e) zone made = IsFault e made

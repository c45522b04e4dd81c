-- The kept steps that a secondary lacks (RFC 1995 section 4)
use Rattle.std.specs.Prelude.{ℕ, not, ◌||◌, if◌then◌else◌, List, [], ◌∷◌, Option, Some, None}
use Rattle.std.specs.List.{list_any}
use Rattle.zone_proto.specs.Serials.{is_newer}
use Rattle.shown_zones.specs.declared.step.ZoneStep.{ZoneStep}
use Rattle.difference_messages.specs.Choosing.{begins_at}

-- the steps from the one on that begins at a serial; none where none does, or a second one does
unfoldable pub from_only : ℕ → List ZoneStep → Option (List ZoneStep)
from_only serial [] = None
from_only serial (s ∷ ss) =
    if begins_at serial s then (if list_any (begins_at serial) ss then None else Some (s ∷ ss))
    else from_only serial ss

-- The steps from the version of a serial to the newest one, which is newer; none where they aren't known, or serials have come around (RFC 1982): then
-- a second step begins at that serial, or one at the newest.
abbrev pub steps_from : ℕ → ℕ → List ZoneStep → Option (List ZoneStep)
steps_from held newest ss = if not (is_newer newest held) || list_any (begins_at newest) ss then None else from_only held ss

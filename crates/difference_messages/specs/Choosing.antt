-- What answers a question for the changes of a zone (RFC 1995 sections 2 and 4)
use Rattle.std.specs.Prelude.{ℕ, ◌==◌, Bool, false, not, if◌then◌else◌, List, Option, Some, None}
use Rattle.std.specs.List.{list_any, position}
use Rattle.zone_proto.specs.Sets.{first_serial}
use Rattle.zone_proto.specs.Serials.{is_newer}
use Rattle.shown_zones.specs.declared.step.ZoneStep.{ZoneStep}
use Rattle.difference_messages.specs.declared.choosing.DifferenceReply.{DifferenceReply}
use Rattle.difference_messages.specs.declared.choosing.DifferenceReply.TheVariants.{StartOfAuthority, StepsFrom, WholeZone}

abbrev pub is_serial : ℕ → Option ℕ → Bool
is_serial n None = false
is_serial n (Some m) = m == n

-- a step leads on from the version of a serial
abbrev pub begins_at : ℕ → ZoneStep → Bool
begins_at n s = is_serial n (first_serial s.old_soa.records)

abbrev pub from_place : Option ℕ → DifferenceReply
from_place None = WholeZone
from_place (Some k) = StepsFrom k

-- The SOA alone where the version that is held isn't older than the newest; else the steps from the first one on that begins at it. Where
-- none does, or one begins at the serial of the newest version, the whole zone.
abbrev pub reply_to : ℕ → ℕ → List ZoneStep → DifferenceReply
reply_to held newest steps =
    if not (is_newer newest held) then StartOfAuthority
    else (if list_any (begins_at newest) steps then WholeZone
    else from_place (position (begins_at held) steps))

-- A law of NOTIFY messages
use Rattle.std.specs.Prelude.{◌≡◌, ℕ, Some, None}
use Rattle.zone_proto.specs.Names.{Name, IsLowerName}
use Rattle.message_reading.specs.Messages.{message_of}
use Rattle.message_notify.specs.Notifies.{notify_of}
use Rattle.message_notify.specs.Texts.{notify_text}

-- what is written as a NOTIFY for the zone of an origin is read as one for it
abbrev pub ReadsBack : Type 0
ReadsBack = (id : ℕ) (origin : Name) → IsLowerName origin
    → notify_of (message_of (notify_text id origin)) ≡ Some (record { id = id; origin = origin; serial = None })

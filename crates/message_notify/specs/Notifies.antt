-- What messages say as NOTIFY messages and their responses (RFC 1996 section 3)
use Rattle.std.specs.Prelude.{ℕ, ◌==◌, ◌&&◌, not, Bool, List, [], ◌∷◌, Option, Some, None, if◌then◌else◌}
use Rattle.zone_proto.specs.declared.record.Record.{Record}
use Rattle.zone_proto.specs.Sets.{first_serial}
use Rattle.message_reading.specs.declared.header.Header.{Header}
use Rattle.message_reading.specs.declared.question.Question.{Question}
use Rattle.message_reading.specs.Headers.{header_of}
use Rattle.message_reading.specs.Messages.{Parts}
use Rattle.message_notify.specs.declared.notify.Notify.{Notify}
use Rattle.message_notify.specs.declared.notify.NotifyResponse.{NotifyResponse}

-- a request of the opcode 4
abbrev pub is_notify : Header → Bool
is_notify h = not h.is_response && (h.opcode == 4)

-- the question is for the SOA record of a zone of class IN
abbrev pub asks_for_zone : Question → Bool
asks_for_zone q = (q.query_type.0 == 6) && (q.query_class.0 == 1)

-- a NOTIFY has one question; the serial of the SOA record that comes first, if one does, is a hint (section 3.7)
abbrev pub notify_by : ℕ → List Question → List Record → Option Notify
notify_by id (q ∷ []) answers =
    if asks_for_zone q then Some (record { id = id; origin = q.name; serial = first_serial answers }) else None
notify_by id _ answers = None

abbrev pub notify_in : Parts → Option Notify
notify_in m = if is_notify m.header then notify_by m.header.id m.questions m.answers else None

-- the NOTIFY that a message is
abbrev pub notify_of : Option Parts → Option Notify
notify_of None = None
notify_of (Some m) = notify_in m

-- the response that a message of this header is
abbrev pub response_by : Option (Header × List ℕ) → Option NotifyResponse
response_by None = None
response_by (Some h) =
    if h.0.is_response && (h.0.opcode == 4) then Some (record { id = h.0.id; response_code = h.0.response_code }) else None

-- the response to a NOTIFY that a message is
abbrev pub response_of : List ℕ → Option NotifyResponse
response_of message = response_by (header_of message)

-- An update read from the octets of its message (RFC 2136 section 2)
use Rattle.std.specs.Prelude.{◌≡◌, ℕ, Bool, true, false, ◌==◌, ◌&&◌, ◌||◌, not, nat_le, count_by, if◌then◌else◌, List, [], ◌∷◌, length, Option, Some, None, option_map, Result, Ok, Err}
use Rattle.std.specs.List.{list_any}
use Rattle.zone_proto.specs.Names.{Name}
use Rattle.zone_proto.specs.Types.{IN, OPT, SOA}
use Rattle.zone_proto.specs.declared.dns_class.DNSClass.{DNSClass}
use Rattle.message_reading.specs.Octets.{◌>>=◌, octets_of, alone, offset_of}
use Rattle.message_reading.specs.MessageNames.{name_of}
use Rattle.message_reading.specs.DataForms.{data_of}
use Rattle.message_reading.specs.Headers.{header_of}
use Rattle.message_reading.specs.Messages.{fields_of, question_of, several}
use Rattle.message_reading.specs.Unread.{record_frame_of}
use Rattle.message_reading.specs.declared.fields.Fields.{Fields}
use Rattle.message_reading.specs.declared.header.Header.{Header}
use Rattle.message_reading.specs.declared.question.Question.{Question}
use Rattle.message_reading.specs.declared.record_frame.RecordFrame.{RecordFrame}
use Rattle.zone_update.specs.Entries.{class_any, class_none}
use Rattle.zone_update.specs.declared.entry.Content.{Content}
use Rattle.zone_update.specs.declared.entry.Content.TheVariants.{Empty, Unread, Data}
use Rattle.zone_update.specs.declared.entry.Entry.{Entry}
use Rattle.update_message.specs.declared.message.UpdateMessage.{UpdateMessage}
use Rattle.update_message.specs.declared.message.UpdateError.{UpdateError}
use Rattle.update_message.specs.declared.message.UpdateError.TheVariants.{NoUpdate, Malformed, OtherClass, Memory}

-- A record of class ANY has no data, nor has a prerequisite of class NONE (sections 2.4 and 2.5).
abbrev pub has_no_data : Bool → ℕ → Bool
has_no_data is_prerequisite class = class == class_any || (is_prerequisite && class == class_none)

-- what a record has as data: where it is to have none they aren't read
abbrev pub content_of : Bool → Fields → List ℕ → ℕ → List ℕ → Option Content
content_of is_prerequisite fields message at text =
    if has_no_data is_prerequisite fields.dns_class.0 then Some (if length text == 0 then Empty else Unread)
    else option_map (λ d. Data d) (data_of fields.record_type.0 message at text)

-- a record at the start of the last octets of a message: owner, fields, and as many octets of data as RDLENGTH says
unfoldable pub entry_of : Bool → List ℕ → List ℕ → Option (Entry × List ℕ)
entry_of is_prerequisite message octets =
    name_of message (offset_of message octets) octets >>= λ owner.
    fields_of owner.1 >>= λ fields.
    octets_of fields.0.count fields.1 >>= λ text.
    content_of is_prerequisite fields.0 message (offset_of message fields.1) text.0 >>= λ content.
    Some (
      record { name = owner.0; record_type = fields.0.record_type; dns_class = fields.0.dns_class; ttl = fields.0.ttl; content = content },
      text.1,
    )

-- an additional record, of which only the frame is read
abbrev pub additional_of : List ℕ → Option (RecordFrame × List ℕ)
additional_of octets = record_frame_of octets >>= λ r. Some (r.0, r.2)

-- an OPT record is of type 41 (RFC 6891 section 6.1.2)
abbrev pub is_extension : RecordFrame → Bool
is_extension frame = frame.record_type == OPT

abbrev pub is_astray : RecordFrame → Bool
is_astray frame = is_extension frame && not frame.is_at_root

-- one at most, at the root (RFC 6891 section 6.1.1)
abbrev pub are_additionals : List RecordFrame → Bool
are_additionals frames = nat_le (count_by is_extension frames) 1 && not (list_any is_astray frames)

-- an update: its header, its zone, its prerequisites and changes as lists, and whether an OPT record is among the others
pub record Parts : Type 0 where
  pub header : Header
  pub zone : Name
  pub prerequisites : List Entry
  pub changes : List Entry
  pub has_extension : Bool

abbrev pub parts_of : UpdateMessage → Parts
parts_of u = record {
  header = u.header;
  zone = u.zone;
  prerequisites = u.update.prerequisites.items;
  changes = u.update.changes.items;
  has_extension = u.has_extension;
}

-- the zone section has one zone, of type SOA (section 3.1.1)
abbrev pub zone_of : Header → List ℕ → List ℕ → Option (Question × List ℕ)
zone_of header message octets =
    (if header.questions == 1 then question_of message octets else None) >>= λ zone.
    if zone.0.query_type.0 == SOA then Some zone else None

-- the additional section, to the end of the octets: whether it has an OPT record
abbrev pub extension_of : ℕ → List ℕ → Option Bool
extension_of count octets =
    alone (several additional_of count octets) >>= λ frames.
    if are_additionals frames then Some (list_any is_extension frames) else None

-- the sections that the header counts, to the end of the octets, and the class of the zone
unfoldable pub body_of : List ℕ → Header → List ℕ → Option (Parts × DNSClass)
body_of message header octets =
    zone_of header message octets >>= λ zone.
    several (entry_of true message) header.answers zone.1 >>= λ prerequisites.
    several (entry_of false message) header.authorities prerequisites.1 >>= λ changes.
    extension_of header.additionals changes.1 >>= λ has_extension.
    Some (
      record { header = header; zone = zone.0.name; prerequisites = prerequisites.0; changes = changes.0; has_extension = has_extension },
      zone.0.query_class,
    )

-- an update of a zone of class IN: there are no others (section 3.1.2)
abbrev pub if_internet : Header → Option (Parts × DNSClass) → Result Parts UpdateError
if_internet header None = Err (Malformed header)
if_internet header (Some read) = if read.1.0 == IN then Ok read.0 else Err (OtherClass header)

abbrev pub if_update : List ℕ → Option (Header × List ℕ) → Result Parts UpdateError
if_update message None = Err NoUpdate
if_update message (Some h) =
    if h.0.is_response || not (h.0.opcode == 5) then Err NoUpdate else if_internet h.0 (body_of message h.0 h.1)

-- the update that octets are, or why they are none
unfoldable pub update_of : List ℕ → Result Parts UpdateError
update_of message = if_update message (header_of message)

-- a call answered with the update that octets are, or refused them; memory may run out in place of either
abbrev pub IsRefusal : UpdateError → Result Parts UpdateError → Type 0
IsRefusal Memory read = Unit {0}
IsRefusal e read = read ≡ Err e

abbrev pub IsUpdateRead : Result UpdateMessage UpdateError → Result Parts UpdateError → Type 0
IsUpdateRead (Ok u) read = read ≡ Ok (parts_of u)
IsUpdateRead (Err e) read = IsRefusal e read

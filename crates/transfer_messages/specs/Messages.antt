-- The messages of a transfer (RFC 5936 section 2.2)
use Rattle.std.specs.Prelude.{◌≡◌, ◌≢◌, ◌⊎◌, ℕ, ◌≤◌, List, [], ◌∷◌, ◌++◌, length, take, drop, Option, Some, None, Result, Ok, Err}
use Rattle.zone_proto.specs.declared.record.Record.{Record}
use Rattle.zone_proto.specs.Sets.{RRset}
use Rattle.zone_map.specs.Zones.{Sets}
use Rattle.message_reading.specs.declared.query.Query.{Query}
use Rattle.message_reading.specs.Messages.{Parts, message_of}
use Rattle.message_writing.specs.declared.response.Group.{Group}
use Rattle.message_writing.specs.Fronts.{HasNoRoomFor, FirstHasNoRoom}
use Rattle.message_writing.specs.Outcomes.{HasUnwritable}
use Rattle.message_writing.specs.Responses.{all_records, opt_for}
use Rattle.transfer_messages.specs.declared.place.Place.{Place}
use Rattle.transfer_messages.specs.declared.transfer.Transfer.{Transfer as Kept}
use Rattle.transfer_messages.specs.declared.transfer.TransferFault.{TransferFault}
use Rattle.transfer_messages.specs.declared.transfer.TransferFault.TheVariants as faults
use Rattle.transfer_messages.specs.Transfers.{left_at}
use Rattle.zone_server.specs.Transfers.{transfer_header}

-- A zone that is sent: to which query, its SOA and its sets, how many octets the server takes in one datagram, and how many a message may
-- have.
pub record Transfer : Type 0 where
  pub query : Query
  pub soa : RRset
  pub sets : Sets
  pub size : ℕ
  pub limit : ℕ

-- the message with the question as it came (RFC 5936 section 2.2.2), these answers, and an OPT record if and only if the query has one
-- (section 2.2.5)
abbrev pub transfer_parts : ℕ → Query → List Record → Parts
transfer_parts size q records = record {
  header = transfer_header q (length records) (length (opt_for size 0 q.extension));
  questions = q.question ∷ [];
  answers = records;
  authorities = [];
  additionals = opt_for size 0 q.extension;
}

-- octets are a message with these answers
pub record IsTransferMessage (t : Transfer) (records : List Record) (octets : List ℕ) : Type 0 where
  pub reads : message_of octets ≡ Some (transfer_parts t.size t.query records)
  pub within : length octets ≤ t.limit

-- a record that no message has room for beside the question
pub record HasTooLong (t : Transfer) (rs : List Record) : Type 0 where
  pub front : List Record
  pub long : Record
  pub rest : List Record
  pub stands : rs ≡ front ++ long ∷ rest
  pub is : HasNoRoomFor t.limit t.query [] (long ∷ [])

-- one of the records can't be sent: no octets are its data, or no message has room for it
abbrev pub HasUnsendable : Transfer → List Record → Type 0
HasUnsendable t rs = HasUnwritable rs ⊎ HasTooLong t rs

-- the records of a transfer that are left at a place
abbrev pub left_of : Transfer → Place → List Record
left_of t place = left_at t.soa t.sets place

-- a message has the first of the records that were left at a place, some of them, and the others are left behind it
pub record IsNext (t : Transfer) (old new : Place) (octets : List ℕ) : Type 0 where
  pub records : List Record
  pub some : records ≢ []
  pub parts : left_of t old ≡ records ++ left_of t new
  pub message : IsTransferMessage t records octets

-- The next message was written; or there is none, since no records are left; or it can't be.
abbrev pub Goes : Transfer → Place → List ℕ → Result (Option Place) TransferFault → Type 0
Goes t place octets (Ok (Some next)) = IsNext t place next octets
Goes t place octets (Ok None) = (left_of t place ≡ []) × (octets ≡ [])
Goes t place octets (Err faults.Unsendable) = HasUnsendable t (left_of t place)
Goes t place octets (Err faults.Memory) = Unit {0}

-- ---- as the program keeps it

abbrev pub transfer_of : Kept → Transfer
transfer_of t = record { query = t.query.now; soa = t.soa.now; sets = t.sets.now; size = t.size; limit = t.limit }

-- ---- on the way

-- a message of the first of some groups was written, so many as it has room for
pub record IsMessageOf (t : Transfer) (gs : List Group) (count : ℕ) (octets : List ℕ) : Type 0 where
  pub at_most : count ≤ length gs
  pub message : IsTransferMessage t (all_records (take count gs)) octets
  pub next : FirstHasNoRoom t.limit t.query (all_records (take count gs)) (drop count gs)

-- it was, or it says why not
abbrev pub WritesMessage : Transfer → List Group → List ℕ → Result ℕ TransferFault → Type 0
WritesMessage t gs octets (Ok count) = IsMessageOf t gs count octets
WritesMessage t gs octets (Err faults.Unsendable) = HasUnwritable (all_records gs)
WritesMessage t gs octets (Err faults.Memory) = Unit {0}

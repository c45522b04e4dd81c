-- The messages of an incremental transfer (RFC 1995 section 4, RFC 5936 section 2.2)
use Rattle.std.specs.Prelude.{◌≡◌, ◌⊎◌, ℕ, ◌-◌, ◌<◌, ◌≤◌, true, false, List, [], ◌∷◌, length, take, drop, Option, Some, None, Result, Ok, Err}
use Rattle.zone_proto.specs.declared.record.Record.{Record}
use Rattle.message_reading.specs.declared.header.Header.{Header}
use Rattle.message_reading.specs.declared.query.Query.{Query}
use Rattle.message_reading.specs.Messages.{Parts, message_of}
use Rattle.message_writing.specs.declared.response.Group.{Group}
use Rattle.message_writing.specs.Fronts.{FirstHasNoRoom, HasNoRoomFor}
use Rattle.message_writing.specs.Outcomes.{HasUnwritable}
use Rattle.message_writing.specs.Responses.{all_records, opt_for, records_of}
use Rattle.difference_messages.specs.declared.writing.DifferenceAnswer.{DifferenceAnswer}
use Rattle.difference_messages.specs.declared.writing.DifferenceFault.{DifferenceFault}
use Rattle.difference_messages.specs.declared.writing.DifferenceFault.TheVariants as faults

-- What is sent: to which query, the records, how many octets the server takes in one datagram, and how many a message may have.
pub record Answer : Type 0 where
  pub query : Query
  pub groups : List Group
  pub size : ℕ
  pub limit : ℕ

-- AA is set, and TC, AD and CD are clear; identifier and RD are the query's (RFC 5936 section 2.2.1, RFC 4035 section 3.1.6)
abbrev pub answer_header : Query → ℕ → ℕ → Header
answer_header q answers additionals = record {
  id = q.header.id;
  is_response = true;
  opcode = 0;
  authoritative = true;
  truncated = false;
  recursion_desired = q.header.recursion_desired;
  recursion_available = false;
  reserved = false;
  authentic_data = false;
  checking_disabled = false;
  response_code = 0;
  questions = 1;
  answers = answers;
  authorities = 0;
  additionals = additionals;
}

-- the message with the question as it came, these answers, and an OPT record if and only if the query has one (RFC 5936 section 2.2.5)
abbrev pub answer_parts : ℕ → Query → List Record → Parts
answer_parts size q records = record {
  header = answer_header q (length records) (length (opt_for size 0 q.extension));
  questions = q.question ∷ [];
  answers = records;
  authorities = [];
  additionals = opt_for size 0 q.extension;
}

-- octets are a message with these answers
pub record IsAnswerMessage (a : Answer) (records : List Record) (octets : List ℕ) : Type 0 where
  pub reads : message_of octets ≡ Some (answer_parts a.size a.query records)
  pub within : length octets ≤ a.limit

-- a message has the groups from one place to another, one at least
pub record IsNext (a : Answer) (sent next : ℕ) (octets : List ℕ) : Type 0 where
  pub some : sent < next
  pub at_most : next ≤ length a.groups
  pub message : IsAnswerMessage a (all_records (take (next - sent) (drop sent a.groups))) octets

-- no message has room for the first of some groups beside the question
pub record HasTooLong (a : Answer) (gs : List Group) : Type 0 where
  pub long : Group
  pub rest : List Group
  pub stands : gs ≡ long ∷ rest
  pub is : HasNoRoomFor a.limit a.query [] (records_of long)

-- one of the records that are left can't be sent: no octets are its data, or no message has room for it
abbrev pub HasUnsendable : Answer → List Group → Type 0
HasUnsendable a gs = HasUnwritable (all_records gs) ⊎ HasTooLong a gs

-- The next message was written; or there is none, since all is sent; or it can't be.
abbrev pub Goes : Answer → ℕ → List ℕ → Result (Option ℕ) DifferenceFault → Type 0
Goes a sent octets (Ok (Some next)) = IsNext a sent next octets
Goes a sent octets (Ok None) = (length a.groups ≤ sent) × (octets ≡ [])
Goes a sent octets (Err faults.Unsendable) = HasUnsendable a (drop sent a.groups)
Goes a sent octets (Err faults.Memory) = Unit {0}

-- ---- as the program keeps it

abbrev pub answer_of : DifferenceAnswer → Answer
answer_of a = record { query = a.query.now; groups = a.groups.now; size = a.size; limit = a.limit }

-- ---- on the way

-- a message of the first of some groups was written, so many as it has room for
pub record IsMessageOf (a : Answer) (gs : List Group) (count : ℕ) (octets : List ℕ) : Type 0 where
  pub at_most : count ≤ length gs
  pub message : IsAnswerMessage a (all_records (take count gs)) octets
  pub next : FirstHasNoRoom a.limit a.query (all_records (take count gs)) (drop count gs)

-- it was, or it says why not
abbrev pub WritesMessage : Answer → List Group → List ℕ → Result ℕ DifferenceFault → Type 0
WritesMessage a gs octets (Ok count) = IsMessageOf a gs count octets
WritesMessage a gs octets (Err faults.Unsendable) = HasUnwritable (all_records gs)
WritesMessage a gs octets (Err faults.Memory) = Unit {0}

-- Why records have no series of messages
use Rattle.std.specs.Prelude.{◌≡◌, ◌⊎◌, ◌<◌, false, List, [], ◌∷◌, ◌++◌, length, None}
use Rattle.zone_proto.specs.Names.{Name}
use Rattle.zone_proto.specs.Types.{IN}
use Rattle.zone_proto.specs.declared.record.Record.{Record}
use Rattle.message_reading.specs.declared.header.Header.{Header}
use Rattle.message_reading.specs.declared.query.Query.{Query}
use Rattle.message_writing.specs.Fronts.{HasNoRoomFor}
use Rattle.message_writing.specs.Outcomes.{HasUnwritable}
use Rattle.message_series.specs.declared.fault.SeriesFault.{SeriesFault}
use Rattle.message_series.specs.declared.fault.SeriesFault.TheVariants.{Unwritable, Memory}

-- the header of a query with one question
abbrev pub asking : Header
asking = record {
  id = 0;
  is_response = false;
  opcode = 0;
  authoritative = false;
  truncated = false;
  recursion_desired = false;
  recursion_available = false;
  reserved = false;
  authentic_data = false;
  checking_disabled = false;
  response_code = 0;
  questions = 1;
  answers = 0;
  authorities = 0;
  additionals = 0;
}

-- the query that the messages answer: what changed of the zone of an origin (RFC 1995 section 3)
abbrev pub query_about : Name → Query
query_about origin = record {
  header = asking;
  question = record { name = origin; query_type = record { 0 = 251 }; query_class = record { 0 = IN } };
  extension = None;
}

-- a message of 65,535 octets has no room for a record behind the question
abbrev pub IsTooLong : Query → Record → Type 0
IsTooLong q r = HasNoRoomFor 65535 q [] (r ∷ [])

-- one of the records is such a one
pub record HasTooLong (q : Query) (rs : List Record) : Type 0 where
  pub front : List Record
  pub long : Record
  pub rest : List Record
  pub stands : rs ≡ front ++ long ∷ rest
  pub is : IsTooLong q long

-- of more messages than these, each as long as it may be, there are 2^32 octets
abbrev pub AreTooMany : List Record → Type 0
AreTooMany rs = 65534 < length rs

-- Records have no series: one of them has data that no octets are, or one is too long for a message, or there are too many.
abbrev pub HaveNoSeries : Query → List Record → Type 0
HaveNoSeries q rs = HasUnwritable rs ⊎ (HasTooLong q rs ⊎ AreTooMany rs)

-- why no series of records was written
abbrev pub IsSeriesFault : Query → List Record → SeriesFault → Type 0
IsSeriesFault q rs Unwritable = HaveNoSeries q rs
IsSeriesFault q rs Memory = Unit {0}

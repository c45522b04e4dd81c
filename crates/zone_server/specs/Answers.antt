-- What the octets of a query are answered with. What is said is said by `IsResponse` of zone_response, what a query is by `query_of` of
-- message_reading, and what is written by `IsWritten` of message_writing; here these three meet.
use Rattle.std.specs.Prelude.{◌≡◌, ◌≢◌, ◌⊎◌, ◌<◌, ◌+◌, ℕ, false, List, [], ◌++◌, length, map, Option, Some, None, Result, Ok, Err}
use Rattle.std.specs.List.{flat_map}
use Rattle.std.specs.Option.{option_map_or}
use Rattle.zone_proto.specs.declared.record.Record.{Record}
use Rattle.zone_proto.specs.declared.response_code.ResponseCode.{ResponseCode}
use Rattle.zone_proto.specs.declared.response_code.ResponseCode.TheVariants as code
use Rattle.zone_proto.specs.Names.{lower}
use Rattle.zone_proto.specs.Sets.{RRset}
use Rattle.message_reading.specs.declared.query.Query.{Query as ReadQuery}
use Rattle.message_reading.specs.declared.error.ReadError.{ReadError}
use Rattle.message_reading.specs.declared.error.ReadError.TheVariants as errors
use Rattle.message_reading.specs.Queries.{query_of}
use Rattle.zone_response.specs.Queries.{Zone, Query}
use Rattle.zone_response.specs.Responses.{bare, IsResponse}
use Rattle.zone_response.specs.Sections.{Sections}
use Rattle.message_writing.specs.declared.response.Group.{Group}
use Rattle.message_writing.specs.declared.response.Response.{Response}
use Rattle.message_writing.specs.Outcomes.{HasUnwritable}
use Rattle.message_writing.specs.Responses.{IsWritten, records_of}
use Rattle.zone_server.specs.declared.answering.Answered.{Answered}
use Rattle.zone_server.specs.declared.answering.Answered.TheVariants as answered
use Rattle.zone_server.specs.declared.transport.Transport.{Transport}
use Rattle.zone_server.specs.BareHeaders.{IsBareHeader}
use Rattle.zone_server.specs.Limits.{datagram_size, limit_for}
use Rattle.zone_server.specs.ServedZones.{IsAnswering}

-- ---- what a message is written of

-- the number of a response code (RFC 1035 section 4.1.1)
abbrev pub code_number : ResponseCode → ℕ
code_number code.NoError = 0
code_number code.FormErr = 1
code_number code.ServFail = 2
code_number code.NXDomain = 3
code_number code.NotImp = 4
code_number code.Refused = 5
code_number (code.Other n) = n

-- the records of a set as it is sent, and behind them its signatures
abbrev pub records_sent : RRset → List Record
records_sent s = s.records ++ s.signatures

-- groups of records are these sets as they are sent, each group one set, in order
abbrev pub AreSets : List Group → List RRset → Type 0
AreSets gs ss = map records_of gs ≡ map records_sent ss

-- what is written answers this query by these sections
pub record Means (q : ReadQuery) (s : Sections) (r : Response) : Type 0 where
  pub query : r.query.now ≡ q
  pub code : r.code ≡ code_number s.code
  pub authoritative : r.authoritative ≡ s.authoritative
  pub size : r.size ≡ datagram_size
  pub answers : AreSets r.answers.now s.answers
  pub authorities : AreSets r.authorities.now s.authorities
  pub glue : AreSets r.glue.now s.glue
  pub additionals : AreSets r.additionals.now s.additionals

-- octets are the response of these sections to a query, within a limit
pub record IsSent (limit : ℕ) (q : ReadQuery) (s : Sections) (octets : List ℕ) : Type 0 where
  pub response : Response
  pub means : Means q s response
  pub written : IsWritten limit response octets

-- the records that sections have
abbrev pub records_in : Sections → List Record
records_in s = flat_map records_sent (s.answers ++ (s.authorities ++ (s.glue ++ s.additionals)))

-- no message has these sections: the data of a record are no octets, or the code has more than twelve bits (RFC 6891 section 6.1.3)
abbrev pub AreUnsendable : Sections → Type 0
AreUnsendable s = HasUnwritable (records_in s) ⊎ (4095 < code_number s.code)

-- the response is sent; where none can, the server has failed
abbrev pub GoesOut : ℕ → ReadQuery → Sections → List ℕ → Type 0
GoesOut limit q s octets = IsSent limit q s octets ⊎ (AreUnsendable s × IsSent limit q (bare code.ServFail) octets)

-- ---- what is said

-- the query as a zone is asked it: the name in lower case, and DNSSEC where the OPT record has DO set (RFC 3225 section 3)
abbrev pub asked_of : ReadQuery → Query
asked_of q = record {
  name = lower q.question.name;
  record_type = q.question.query_type.0;
  class = q.question.query_class.0;
  signed = option_map_or (λ e. e.dnssec_ok) q.extension false;
}

-- the zone that answers says so; if there is none, the server refuses (RFC 1035 section 4.1.1)
abbrev pub Says : Option Zone → Query → Sections → Type 0
Says (Some z) q s = IsResponse z q s
Says None q s = s ≡ bare code.Refused

-- octets are the response of a server to a query
pub record IsResponseTo (zs : List Zone) (limit : ℕ) (q : ReadQuery) (octets : List ℕ) : Type 0 where
  pub zone : Option Zone
  pub said : Sections
  pub answering : IsAnswering zs (asked_of q).name (asked_of q).record_type zone
  pub says : Says zone (asked_of q) said
  pub goes_out : GoesOut limit q said octets

-- how many labels the origin of a zone has, that of the root among them; 0 where there is no zone
abbrev pub origin_labels : Option Zone → ℕ
origin_labels None = 0
origin_labels (Some z) = length z.origin + 1

-- the same, where the zone that answers has an origin of so many labels: so many at the end of the question's name are the origin
pub record IsResponseFrom (zs : List Zone) (limit : ℕ) (q : ReadQuery) (labels : ℕ) (octets : List ℕ) : Type 0 where
  pub response : IsResponseTo zs limit q octets
  pub labels_of : labels ≡ origin_labels response.zone

-- ---- what octets are answered with

-- The number of NOTIMP, of FORMERR, and BADVERS (RFC 1035 section 4.1.1, RFC 6891 section 9).
abbrev pub not_implemented : ℕ
not_implemented = 4

abbrev pub malformed : ℕ
malformed = 1

abbrev pub bad_version : ResponseCode
bad_version = code.Other 16

-- Octets that are no header get no answer, and neither does a response (RFC 1035 section 4.1.1: QR); another opcode and what isn't of the
-- form of a query get a header alone; a version of EDNS that isn't known gets BADVERS and no records (RFC 6891 section 6.1.3).
abbrev pub IsAnswerTo : List Zone → Transport → Result ReadQuery ReadError → List ℕ → Type 0
IsAnswerTo zs t (Ok q) octets = IsResponseTo zs (limit_for t q.extension) q octets
IsAnswerTo zs t (Err errors.NoHeader) octets = octets ≡ []
IsAnswerTo zs t (Err errors.NoQuery) octets = octets ≡ []
IsAnswerTo zs t (Err (errors.NotImplemented h)) octets = IsBareHeader h not_implemented octets
IsAnswerTo zs t (Err (errors.Malformed h)) octets = IsBareHeader h malformed octets
IsAnswerTo zs t (Err (errors.BadVersion q)) octets = IsSent (limit_for t q.extension) q (bare bad_version) octets
IsAnswerTo zs t (Err errors.Memory) octets = ⊥

-- the answer to a message: no octets are no answer
abbrev pub IsAnswer : List Zone → Transport → List ℕ → List ℕ → Type 0
IsAnswer zs t message octets = IsAnswerTo zs t (query_of message) octets

-- the same, from a zone whose origin has so many labels; from none where no zone is asked
abbrev pub IsAnswerFromTo : List Zone → Transport → Result ReadQuery ReadError → ℕ → List ℕ → Type 0
IsAnswerFromTo zs t (Ok q) labels octets = IsResponseFrom zs (limit_for t q.extension) q labels octets
IsAnswerFromTo zs t (Err e) labels octets = (labels ≡ 0) × IsAnswerTo zs t (Err e) octets

abbrev pub IsAnswerFrom : List Zone → Transport → List ℕ → ℕ → List ℕ → Type 0
IsAnswerFrom zs t message labels octets = IsAnswerFromTo zs t (query_of message) labels octets

-- a call told whether there is one
abbrev pub SaysWhether : Answered → List ℕ → Type 0
SaysWhether answered.Nothing octets = octets ≡ []
SaysWhether answered.Response octets = octets ≢ []

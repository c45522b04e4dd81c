-- A whole zone sent in messages one behind the other, AXFR (RFC 5936), and what a query for a zone's changes is answered with, IXFR
-- (RFC 1995)
use Rattle.std.specs.Prelude.{◌≡◌, ◌≢◌, ◌⊎◌, ℕ, ◌-◌, ◌≤◌, true, false, Bool, ◌&&◌, ◌||◌, ◌==◌, nat_lt, if◌then◌else◌, List, [], ◌∷◌, ◌++◌, length, map, Option, Some, None, unwrap_or}
use Rattle.std.specs.List.{flat_map}
use Rattle.std.specs.Map.{values_of}
use Rattle.zone_proto.specs.declared.record.Record.{Record}
use Rattle.zone_proto.specs.declared.response_code.ResponseCode.{ResponseCode}
use Rattle.zone_proto.specs.declared.response_code.ResponseCode.TheVariants as code
use Rattle.zone_proto.specs.Names.{Name, lower, name_eq}
use Rattle.zone_proto.specs.Serials.{is_newer}
use Rattle.zone_proto.specs.Sets.{RRset, first_serial, soa_serial}
use Rattle.zone_proto.specs.Types.{AXFR, IN, IXFR, SOA}
use Rattle.message_reading.specs.declared.header.Header.{Header}
use Rattle.message_reading.specs.declared.query.Query.{Query as ReadQuery}
use Rattle.message_reading.specs.Messages.{Parts, first_authority_of, message_of}
use Rattle.message_reading.specs.Octets.{◌>>=◌}
use Rattle.zone_server.specs.declared.transfer_policy.TransferPolicy.{TransferPolicy}
use Rattle.zone_server.specs.declared.transfer_policy.TransferPolicy.TheVariants.{AllowAll, Deny}
use Rattle.zone_map.specs.Zones.{Sets, set_at}
use Rattle.zone_response.specs.declared.response.Part.TheVariants as part
use Rattle.zone_response.specs.Queries.{Zone}
use Rattle.zone_response.specs.Responses.{bare}
use Rattle.zone_response.specs.Sections.{Sections, as_it_is}
use Rattle.message_writing.specs.Fronts.{HasNoRoomFor}
use Rattle.message_writing.specs.Outcomes.{HasUnwritable}
use Rattle.message_writing.specs.Responses.{opt_for, records_together}
use Rattle.zone_server.specs.declared.transport.Transport.{Transport}
use Rattle.zone_server.specs.declared.transport.Transport.TheVariants as transports
use Rattle.zone_server.specs.Answers.{GoesOut, IsSent}
use Rattle.zone_server.specs.Frames.{framed}
use Rattle.zone_server.specs.Limits.{datagram_size, limit_for}

-- ---- the records of a zone

-- the SOA, whose signatures go with the other sets
abbrev pub soa_alone : RRset → RRset
soa_alone soa = record soa { signatures = [] }

-- a set as it is between the two SOA records: of an SOA the signatures alone (RFC 5936 section 2.2)
abbrev pub between : RRset → RRset
between s = if s.record_type == SOA then record s { records = [] } else s

-- what is sent of a zone with this SOA, a list of records for each set: the SOA, all sets in the order of their keys, and the SOA again
abbrev pub groups_sent : RRset → Sets → List (List Record)
groups_sent soa m =
    records_together (soa_alone soa) ∷ (map (λ s. records_together (between s)) (values_of m) ++ records_together (soa_alone soa) ∷ [])

-- ---- a message of a transfer

-- lists joined in their order
abbrev pub joined : {A : Type 0} → List (List A) → List A
joined xss = flat_map (λ xs. xs) xss

-- AA is set, and TC, AD and CD are clear; identifier and RD are the query's (RFC 5936 section 2.2.1, RFC 4035 section 3.1.6)
abbrev pub transfer_header : ReadQuery → ℕ → ℕ → Header
transfer_header q answers additionals = record {
  id = q.header.id;
  is_response = true;
  opcode = 0;
  authoritative = true;
  truncated = false;
  recursion_desired = q.header.recursion_desired;
  recursion_available = false;
  reserved = false;
  authentic_data = false;
  checking_disabled = false;
  response_code = 0;
  questions = 1;
  answers = answers;
  authorities = 0;
  additionals = additionals;
}

-- the message with the question as it came (RFC 5936 section 2.2.2), these answers, and an OPT record if and only if the query has one (section 2.2.5)
abbrev pub transfer_parts : ReadQuery → List Record → Parts
transfer_parts q records = record {
  header = transfer_header q (length records) (length (opt_for datagram_size 0 q.extension));
  questions = q.question ∷ [];
  answers = records;
  authorities = [];
  additionals = opt_for datagram_size 0 q.extension;
}

-- octets are a message with these answers
pub record IsTransferMessage (q : ReadQuery) (records : List Record) (octets : List ℕ) : Type 0 where
  pub reads : message_of octets ≡ Some (transfer_parts q records)
  pub within : length octets ≤ 65535

-- ---- the messages of a transfer

-- no message has room for these records beside the question
abbrev pub AreTooLong : ReadQuery → List Record → Type 0
AreTooLong q records = HasNoRoomFor 65535 q [] records

-- each record by itself
abbrev pub one_by_one : List Record → List (List Record)
one_by_one records = map (λ r. r ∷ []) records

-- a set is one piece; where no message has room for it, each of its records is one
abbrev pub IsCutInto : ReadQuery → List Record → List (List Record) → Type 0
IsCutInto q set pieces = (pieces ≡ set ∷ []) ⊎ (AreTooLong q set × (pieces ≡ one_by_one set))

-- the pieces of some sets, in their order
abbrev pub ArePiecesOf : ReadQuery → List (List Record) → List (List Record) → Type 0
ArePiecesOf q [] pieces = pieces ≡ []
ArePiecesOf q (set ∷ sets) pieces =
    (first others : List (List Record)) × (pieces ≡ first ++ others) × IsCutInto q set first × ArePiecesOf q sets others

-- messages one behind the other, each behind its length, of these pieces each, one at least: a piece isn't cut
abbrev pub AreMessages : ReadQuery → List (List (List Record)) → List ℕ → Type 0
AreMessages q [] text = text ≡ []
AreMessages q (pieces ∷ others) text =
    (octets more : List ℕ) × (pieces ≢ []) × IsTransferMessage q (joined pieces) octets × (text ≡ framed octets ++ more)
    × AreMessages q others more

-- Sets are sent whole: the answers of the messages together are the records of the sets, in their order.
pub record AreSentWhole (q : ReadQuery) (sets : List (List Record)) (text : List ℕ) : Type 0 where
  pub pieces : List (List Record)
  pub cut : ArePiecesOf q sets pieces
  pub messages : List (List (List Record))
  pub parted : joined messages ≡ pieces
  pub written : AreMessages q messages text

-- a record that no message has room for
pub record HasTooLong (q : ReadQuery) (rs : List Record) : Type 0 where
  pub front : List Record
  pub long : Record
  pub rest : List Record
  pub stands : rs ≡ front ++ long ∷ rest
  pub is : AreTooLong q (long ∷ [])

-- one of the records can't be sent: no message has room for it, or no octets are its data
abbrev pub HasUnsendable : ReadQuery → List Record → Type 0
HasUnsendable q rs = HasUnwritable rs ⊎ HasTooLong q rs

-- The records of sets are sent up to some place behind which one can't be; one message of ServFail ends it (RFC 5936 section 2.2).
pub record AreBrokenOff (q : ReadQuery) (sets : List (List Record)) (text : List ℕ) : Type 0 where
  pub sent : List Record
  pub left : List Record
  pub parts : joined sets ≡ sent ++ left
  pub unsendable : HasUnsendable q left
  pub messages : List (List (List Record))
  pub parted : joined (joined messages) ≡ sent
  pub written_text : List ℕ
  pub written : AreMessages q messages written_text
  pub last : List ℕ
  pub failed : IsSent 65535 q (bare code.ServFail) last
  pub text_is : text ≡ written_text ++ framed last

-- ---- which zone, and who may have it

-- the zone of this origin and its policy, of zones with their policies in the same order; one that has none is transferred to nobody
abbrev pub zone_at : List Zone → List TransferPolicy → Name → Option (Zone × TransferPolicy)
zone_at [] policies x = None
zone_at (z ∷ zs) [] x = if name_eq z.origin x then Some (z, Deny) else zone_at zs [] x
zone_at (z ∷ zs) (p ∷ ps) x = if name_eq z.origin x then Some (z, p) else zone_at zs ps x

-- the zone that a query asks for, by the name and the class of its question
abbrev pub zone_asked : List Zone → List TransferPolicy → ReadQuery → Option (Zone × TransferPolicy)
zone_asked zs ps q = if q.question.query_class.0 == IN then zone_at zs ps (lower q.question.name) else None

-- ---- a query for a zone's changes

-- the serial that the client has: that of the SOA with which the authority section of its query begins (RFC 1995 section 3)
abbrev pub client_serial : List ℕ → Option ℕ
client_serial message = first_authority_of message >>= λ first. soa_serial first.rdata

-- the serial of an SOA
abbrev pub serial_of : RRset → ℕ
serial_of soa = unwrap_or (first_serial soa.records) 0

-- ---- what a query for a zone is answered with

-- a code alone; the SOA alone; the zone with this SOA and these sets
pub data Reply : Type 0 where
  by_code : ResponseCode → Reply
  by_soa : RRset → Reply
  by_zone : RRset → Sets → Reply

-- NOTAUTH (RFC 5936 section 2.2.1, RFC 2136 section 2.2)
abbrev pub not_authoritative : ResponseCode
not_authoritative = code.Other 9

-- over TCP, so that a message follows another
abbrev pub is_stream : Transport → Bool
is_stream transports.Tcp = true
is_stream (transports.Udp limit) = false

-- IXFR asks for the changes since a serial. The zone is sent whole to a client whose serial is older, over TCP; else
-- the SOA alone, by which a client that asks over UDP sees whether it has to ask over TCP (RFC 1995 sections 2 and 4).
abbrev pub changes_reply : Transport → Option ℕ → RRset → Sets → Reply
changes_reply t None soa m = by_code code.FormErr
changes_reply t (Some theirs) soa m = if is_stream t && is_newer (serial_of soa) theirs then by_zone soa m else by_soa soa

-- a zone without SOA has failed
abbrev pub allowed_reply : Transport → List ℕ → ReadQuery → Sets → Option RRset → Reply
allowed_reply t message q m None = by_code code.ServFail
allowed_reply t message q m (Some soa) = if q.question.query_type.0 == AXFR then by_zone soa m else changes_reply t (client_serial message) soa m

-- Anybody may have the zone; no signature of a query is tested, so a policy that asks for one lets nobody have it.
abbrev pub policy_reply : Transport → List ℕ → ReadQuery → Zone → TransferPolicy → Reply
policy_reply t message q z AllowAll = allowed_reply t message q z.sets (set_at z.sets z.origin SOA)
policy_reply t message q z _ = by_code code.Refused

abbrev pub reply_of : Transport → List ℕ → ReadQuery → Option (Zone × TransferPolicy) → Reply
reply_of t message q None = by_code not_authoritative
reply_of t message q (Some x) = policy_reply t message q x.0 x.1

-- the reply of a server of these zones to a query that octets are read as
abbrev pub reply_to : List Zone → List TransferPolicy → Transport → List ℕ → ReadQuery → Reply
reply_to zs ps t message q = reply_of t message q (zone_asked zs ps q)

-- ---- what is written

-- the SOA alone as a response
abbrev pub soa_sections : RRset → Sections
soa_sections soa = record (bare code.NoError) { authoritative = true; answers = as_it_is part.Records soa ∷ [] }

-- one message that is sent, behind its length
pub record IsOneMessage (limit : ℕ) (q : ReadQuery) (s : Sections) (text : List ℕ) : Type 0 where
  pub octets : List ℕ
  pub goes_out : GoesOut limit q s octets
  pub text_is : text ≡ framed octets

abbrev pub Replies : Transport → ReadQuery → Reply → List ℕ → Type 0
Replies t q (by_code c) text = IsOneMessage (limit_for t q.extension) q (bare c) text
Replies t q (by_soa soa) text = IsOneMessage (limit_for t q.extension) q (soa_sections soa) text
Replies t q (by_zone soa m) text = AreSentWhole q (groups_sent soa m) text ⊎ AreBrokenOff q (groups_sent soa m) text

-- IXFR asks for a transfer, and AXFR does over TCP; over UDP it isn't defined (RFC 5936 section 4.2)
abbrev pub asks_for_transfer : Transport → ReadQuery → Bool
asks_for_transfer t q = (q.question.query_type.0 == IXFR) || ((q.question.query_type.0 == AXFR) && is_stream t)

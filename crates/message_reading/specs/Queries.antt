-- A query as a server reads it, or the first cause for which it is refused
use Rattle.std.specs.Prelude.{◌≡◌, ℕ, zero, suc, ◌/◌, ◌%◌, ◌==◌, ◌&&◌, ◌||◌, Bool, true, false, List, [], ◌∷◌, Option, Some, None, Result, Ok, Err, nat_le, nat_lt, min, max, if◌then◌else◌}
use Rattle.zone_proto.specs.Types.{IXFR, OPT}
use Rattle.message_reading.specs.declared.header.Header.{Header}
use Rattle.message_reading.specs.declared.question.Question.{Question}
use Rattle.message_reading.specs.declared.query.Query.{Query}
use Rattle.message_reading.specs.declared.query.Extension.{Extension}
use Rattle.message_reading.specs.declared.record_frame.RecordFrame.{RecordFrame}
use Rattle.message_reading.specs.declared.error.ReadError.{ReadError}
use Rattle.message_reading.specs.declared.error.ReadError.TheVariants as errors
use Rattle.message_reading.specs.Octets.{◌>>=◌, octet_of, short_of, long_of, octets_of, alone}
use Rattle.message_reading.specs.Headers.{header_of, has_bit}
use Rattle.message_reading.specs.Messages.{question_of}
use Rattle.message_reading.specs.Unread.{record_frame_of}

-- a code, a length and so many octets: what follows them (RFC 6891 section 6.1.2)
abbrev pub behind_option : List ℕ → Option (List ℕ)
behind_option octets =
    short_of octets >>= λ code.
    short_of code.1 >>= λ count.
    octets_of count.0 count.1 >>= λ value.
    Some value.1

abbrev pub and_then : (List ℕ → Bool) → Option (List ℕ) → Bool
and_then goes_on None = false
and_then goes_on (Some left) = goes_on left

-- Octets are options to their end, in so many steps at most: each option and the end is one.
unfoldable pub are_options : ℕ → List ℕ → Bool
are_options zero octets = false
are_options (suc steps) [] = true
are_options (suc steps) (b ∷ rest) = and_then (are_options steps) (behind_option (b ∷ rest))

-- What an OPT record says (RFC 6891 section 6.1.3): the class is the size that the sender takes, the second octet of the TTL is the
-- version, and the highest bit of its lower half is DO.
abbrev pub extension_of : RecordFrame → Extension
extension_of r = record { size = r.class; version = (r.ttl / 65536) % 256; dnssec_ok = has_bit 32768 r.ttl }

-- An OPT record is at the root, is the only one, and its data are options (RFC 6891 sections 6.1.1 and 6.1.2), at most 64:
-- some twenty are known, and 65,535 octets have room for thousands.
abbrev pub if_only : Option Extension → RecordFrame → List ℕ → Option (Option Extension)
if_only None r octets = if r.is_at_root && are_options 65 octets then Some (Some (extension_of r)) else None
if_only (Some e) r octets = None

-- what EDNS says so far, and one more record with these data
abbrev pub with_record : Option Extension → RecordFrame → List ℕ → Option (Option Extension)
with_record found r octets = if r.record_type == OPT then if_only found r octets else Some found

-- so many additional records, and what EDNS says with them
unfoldable pub additionals_of : ℕ → Option Extension → List ℕ → Option (Option Extension × List ℕ)
additionals_of zero found octets = Some (found, octets)
additionals_of (suc n) found octets =
    record_frame_of octets >>= λ r.
    with_record found r.0 r.1 >>= λ said.
    additionals_of n said r.2

-- what follows so many records, none of which is OPT
unfoldable pub behind_authorities : ℕ → List ℕ → Option (List ℕ)
behind_authorities zero octets = Some octets
behind_authorities (suc n) octets =
    record_frame_of octets >>= λ r. if r.0.record_type == OPT then None else behind_authorities n r.2

-- the query for a zone's changes, IXFR, tells the serial that the sender has in the authority section (RFC 1995 section 3)
abbrev pub may_have_authorities : Header → Question → Bool
may_have_authorities header question = header.authorities == 0 || question.query_type.0 == IXFR

-- a query behind its question: nothing follows its last record
unfoldable pub behind_question : Header → Question → List ℕ → Option Query
behind_question header question octets =
    (if may_have_authorities header question then behind_authorities header.authorities octets else None) >>= λ left.
    alone (additionals_of header.additionals None left) >>= λ extension.
    Some (record { header = header; question = question; extension = extension })

-- The most records that a section of a query may have. Its additional section has an OPT record and what signs it (TSIG,
-- RFC 8945, or SIG(0)), and the authority section of a query for IXFR an SOA; 65,535 octets have room for thousands.
abbrev pub most_records : ℕ
most_records = 4

-- one question (RFC 9619 section 4), no answers, and few records after them
abbrev pub has_few : Header → Bool
has_few header =
    header.questions == 1 && (header.answers == 0 && (nat_le header.authorities most_records && nat_le header.additionals most_records))

-- the query of a header and of the octets after it
unfoldable pub body_of : List ℕ → Header → List ℕ → Option Query
body_of message header octets =
    (if has_few header then question_of message octets else None) >>= λ question.
    behind_question header question.0 question.1

-- version 0 of EDNS alone is known (RFC 6891 section 6.1.3)
abbrev pub if_version : Query → Option Extension → Result Query ReadError
if_version query None = Ok query
if_version query (Some e) = if nat_lt 0 e.version then Err (errors.BadVersion query) else Ok query

abbrev pub if_formed : Header → Option Query → Result Query ReadError
if_formed header None = Err (errors.Malformed header)
if_formed header (Some query) = if_version query query.extension

-- The causes in their order: no header, and a response, which get no answer; another opcode than a standard query, NOTIMP (RFC 1035
-- section 4.1.1); what isn't of the form of a query, FORMERR; another version of EDNS, BADVERS.
abbrev pub if_query : List ℕ → Option (Header × List ℕ) → Result Query ReadError
if_query message None = Err errors.NoHeader
if_query message (Some h) =
    if h.0.is_response then Err errors.NoQuery
    else (if h.0.opcode == 0 then if_formed h.0 (body_of message h.0 h.1) else Err (errors.NotImplemented h.0))

unfoldable pub query_of : List ℕ → Result Query ReadError
query_of message = if_query message (header_of message)

-- a refusal is that of the octets, unless memory ran out
abbrev pub RefusesQuery : ReadError → Result Query ReadError → Type 0
RefusesQuery errors.Memory read = Unit {0}
RefusesQuery e read = read ≡ Err e

-- a call answered with the query that octets are, or refused them
abbrev pub ReadsQuery : Result Query ReadError → Result Query ReadError → Type 0
ReadsQuery (Ok query) read = read ≡ Ok query
ReadsQuery (Err e) read = RefusesQuery e read

-- How many octets a datagram that answers may have: 512 where the query says nothing by EDNS (RFC 1035 section 4.2.1), else as many as
-- the client takes and we send, but a size below 512 counts as 512 (RFC 6891 section 6.2.3).
abbrev pub limit_of : Option Extension → ℕ → ℕ
limit_of None ours = 512
limit_of (Some e) ours = max 512 (min e.size ours)

-- A message: its header, its questions and the records of its three sections, to its last octet (RFC 1035 section 4.1)
use Rattle.std.specs.Prelude.{◌≡◌, ℕ, zero, suc, ◌==◌, ◌&&◌, not, Bool, if◌then◌else◌, List, [], ◌∷◌, Option, Some, None, Result, Ok, Err}
use Rattle.zone_proto.specs.Names.{Name}
use Rattle.zone_proto.specs.declared.record.Record.{Record}
use Rattle.message_reading.specs.declared.header.Header.{Header}
use Rattle.message_reading.specs.declared.question.Question.{Question}
use Rattle.message_reading.specs.declared.message.Message.{Message}
use Rattle.message_reading.specs.declared.fields.Fields.{Fields}
use Rattle.message_reading.specs.declared.error.MessageError.{MessageError}
use Rattle.message_reading.specs.declared.error.MessageError.TheVariants.{Malformed, Memory}
use Rattle.message_reading.specs.Octets.{◌>>=◌, short_of, long_of, octets_of, alone, offset_of}
use Rattle.message_reading.specs.MessageNames.{name_of}
use Rattle.message_reading.specs.Headers.{header_of}
use Rattle.message_reading.specs.DataForms.{data_of}

-- what follows the name of a question
abbrev pub question_fields : Name → List ℕ → Option (Question × List ℕ)
question_fields name octets =
    short_of octets >>= λ t.
    short_of t.1 >>= λ class.
    Some (
      record { name = name; query_type = record { 0 = t.0 }; query_class = record { 0 = class.0 } },
      class.1,
    )

-- a question at the start of the last octets of a message (section 4.1.2)
unfoldable pub question_of : List ℕ → List ℕ → Option (Question × List ℕ)
question_of message octets =
    name_of message (offset_of message octets) octets >>= λ name. question_fields name.0 name.1

-- what stands between the owner of a record and its data: type, class, TTL and RDLENGTH (section 4.1.3)
abbrev pub fields_of : List ℕ → Option (Fields × List ℕ)
fields_of octets =
    short_of octets >>= λ t.
    short_of t.1 >>= λ class.
    long_of class.1 >>= λ ttl.
    short_of ttl.1 >>= λ count.
    Some (
      record {
        record_type = record { 0 = t.0 };
        dns_class = record { 0 = class.0 };
        ttl = ttl.0;
        count = count.0;
      },
      count.1,
    )

-- a record at the start of the last octets of a message: owner, fields, and as many octets of data as RDLENGTH says
unfoldable pub record_of : List ℕ → List ℕ → Option (Record × List ℕ)
record_of message octets =
    name_of message (offset_of message octets) octets >>= λ owner.
    fields_of owner.1 >>= λ fields.
    octets_of fields.0.count fields.1 >>= λ text.
    data_of fields.0.record_type.0 message (offset_of message fields.1) text.0 >>= λ rdata.
    Some (
      record { name = owner.0; dns_class = fields.0.dns_class; ttl = fields.0.ttl; rdata = rdata },
      text.1,
    )

-- so many entries, one after the other
unfoldable pub several : {A : Type 0} → (List ℕ → Option (A × List ℕ)) → ℕ → List ℕ → Option (List A × List ℕ)
several read zero octets = Some ([], octets)
several read (suc n) octets =
    read octets >>= λ first.
    several read n first.1 >>= λ others.
    Some (first.0 ∷ others.0, others.1)

-- what a message has: its header, and its sections as lists
pub record Parts : Type 0 where
  pub header : Header
  pub questions : List Question
  pub answers : List Record
  pub authorities : List Record
  pub additionals : List Record

abbrev pub parts_of : Message → Parts
parts_of m = record {
  header = m.header;
  questions = m.questions.items;
  answers = m.answers.items;
  authorities = m.authorities.items;
  additionals = m.additionals.items;
}

-- the sections that the header counts, to the end of the octets
unfoldable pub sections_of : List ℕ → Header → List ℕ → Option Parts
sections_of message header octets =
    several (question_of message) header.questions octets >>= λ questions.
    several (record_of message) header.answers questions.1 >>= λ answers.
    several (record_of message) header.authorities answers.1 >>= λ authorities.
    alone (several (record_of message) header.additionals authorities.1) >>= λ additionals.
    Some (record {
      header = header;
      questions = questions.0;
      answers = answers.0;
      authorities = authorities.0;
      additionals = additionals;
    })

-- the message that octets are
unfoldable pub message_of : List ℕ → Option Parts
message_of message = header_of message >>= λ header. sections_of message header.0 header.1

-- one question and no answers are counted, and an authority at least
abbrev pub has_first_authority : Header → Bool
has_first_authority header = (header.questions == 1) && (header.answers == 0) && not (header.authorities == 0)

-- the record that the authority section of a query begins with, behind its question (RFC 1995 section 3); what follows it isn't read
unfoldable pub first_authority_behind : List ℕ → Header → List ℕ → Option Record
first_authority_behind message header octets =
    (if has_first_authority header then question_of message octets else None) >>= λ question.
    record_of message question.1 >>= λ first.
    Some first.0

abbrev pub first_authority_of : List ℕ → Option Record
first_authority_of message = header_of message >>= λ header. first_authority_behind message header.0 header.1

-- why octets are not read: they are no message, or memory ran out
abbrev pub FailsToRead : MessageError → Option Parts → Type 0
FailsToRead Malformed read = read ≡ None
FailsToRead Memory read = Unit {0}

-- a call answered with the message that octets are, or refused them
abbrev pub ReadsMessage : Result Message MessageError → Option Parts → Type 0
ReadsMessage (Ok m) read = read ≡ Some (parts_of m)
ReadsMessage (Err e) read = FailsToRead e read

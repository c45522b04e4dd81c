-- Reading in which pointers stand only where a sender may put them: in owners, and in names in data of the types of RFC 1035; in those
-- of any other type there is none (RFC 3597 section 4)
use Rattle.std.specs.Prelude.{ℕ, ◌==◌, ◌||◌, Bool, List, [], Option, Some, if◌then◌else◌}
use Rattle.zone_proto.specs.Types as types
use Rattle.zone_proto.specs.declared.record.Record.{Record}
use Rattle.message_reading.specs.Octets.{◌>>=◌, octets_of, offset_of}
use Rattle.message_reading.specs.MessageNames.{name_of}
use Rattle.message_reading.specs.DataForms.{data_of}
use Rattle.message_reading.specs.Messages.{fields_of}

abbrev pub may_have_pointers : ℕ → Bool
may_have_pointers t = t == types.NS || (t == types.CNAME || (t == types.SOA || t == types.MX))

-- the message into which pointers of data of a type may lead: none, where there are to be no pointers
abbrev pub message_for : ℕ → List ℕ → List ℕ
message_for t message = if may_have_pointers t then message else []

-- a record at the start of the last octets of a message, in whose data pointers stand only where they may
unfoldable pub strict_record_of : List ℕ → List ℕ → Option (Record × List ℕ)
strict_record_of message octets =
    name_of message (offset_of message octets) octets >>= λ owner.
    fields_of owner.1 >>= λ fields.
    octets_of fields.0.count fields.1 >>= λ text.
    data_of fields.0.record_type.0 (message_for fields.0.record_type.0 message) (offset_of message fields.1) text.0 >>= λ rdata.
    Some (
      record { name = owner.0; dns_class = fields.0.dns_class; ttl = fields.0.ttl; rdata = rdata },
      text.1,
    )

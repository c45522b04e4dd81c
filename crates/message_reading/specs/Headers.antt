-- The header of a message (RFC 1035 section 4.1.1; AD and CD: RFC 4035 sections 3.1.6 and 3.2.2)
use Rattle.std.specs.Prelude.{ℕ, ◌/◌, ◌%◌, ◌==◌, Bool, List, Option, Some}
use Rattle.message_reading.specs.Octets.{◌>>=◌, octet_of, short_of}
use Rattle.message_reading.specs.declared.header.Header.{Header}

-- whether the bit of this weight is set
abbrev pub has_bit : ℕ → ℕ → Bool
has_bit weight octet = (octet / weight) % 2 == 1

-- |QR| Opcode (4) |AA|TC|RD|   |RA|Z|AD|CD| RCODE (4) |
abbrev pub header_of : List ℕ → Option (Header × List ℕ)
header_of octets =
    short_of octets >>= λ id.
    octet_of id.1 >>= λ high.
    octet_of high.1 >>= λ low.
    short_of low.1 >>= λ questions.
    short_of questions.1 >>= λ answers.
    short_of answers.1 >>= λ authorities.
    short_of authorities.1 >>= λ additionals.
    Some (
      record {
        id = id.0;
        is_response = has_bit 128 high.0;
        opcode = (high.0 / 8) % 16;
        authoritative = has_bit 4 high.0;
        truncated = has_bit 2 high.0;
        recursion_desired = high.0 % 2 == 1;
        recursion_available = has_bit 128 low.0;
        reserved = has_bit 64 low.0;
        authentic_data = has_bit 32 low.0;
        checking_disabled = has_bit 16 low.0;
        response_code = low.0 % 16;
        questions = questions.0;
        answers = answers.0;
        authorities = authorities.0;
        additionals = additionals.0;
      },
      additionals.1,
    )

-- A response of a header alone, where there is no question that could be repeated
use Rattle.std.specs.Prelude.{◌≡◌, ℕ, ◌+◌, ◌*◌, ◌/◌, ◌%◌, ◌<◌, true, false, if◌then◌else◌, List, [], ◌∷◌, Some, Result, Err}
use Rattle.message_reading.specs.declared.header.Header.{Header}
use Rattle.message_reading.specs.declared.query.Query.{Query}
use Rattle.message_reading.specs.declared.error.ReadError.{ReadError}
use Rattle.message_reading.specs.declared.error.ReadError.TheVariants.{NotImplemented, Malformed}
use Rattle.message_reading.specs.Messages.{message_of}

-- identifier, opcode and RD are the query's (RFC 1035 section 4.1.1), and AD and CD are clear (RFC 4035 section 3.1.6)
abbrev pub bare_header : Header → ℕ → Header
bare_header h code = record {
  id = h.id;
  is_response = true;
  opcode = h.opcode;
  authoritative = false;
  truncated = false;
  recursion_desired = h.recursion_desired;
  recursion_available = false;
  reserved = false;
  authentic_data = false;
  checking_disabled = false;
  response_code = code;
  questions = 0;
  answers = 0;
  authorities = 0;
  additionals = 0;
}

-- octets are a message of this header, and of no entries
abbrev pub IsBareHeader : Header → ℕ → List ℕ → Type 0
IsBareHeader h code octets =
    message_of octets
    ≡ Some (record { header = bare_header h code; questions = []; answers = []; authorities = []; additionals = [] })

-- What is written; what it means is said by reading alone. The third octet has QR, the opcode and RD, the fourth the code.
abbrev pub bare_text : Header → ℕ → List ℕ
bare_text h code =
    (h.id / 256) ∷ (h.id % 256)
    ∷ (128 + (h.opcode * 8 + (if h.recursion_desired then 1 else 0)))
    ∷ code
    ∷ 0 ∷ 0 ∷ 0 ∷ 0 ∷ 0 ∷ 0 ∷ 0 ∷ 0 ∷ []

-- a header that is to be answered has an opcode of four bits
abbrev pub HasOpcode : Result Query ReadError → Type 0
HasOpcode (Err (NotImplemented h)) = h.opcode < 16
HasOpcode (Err (Malformed h)) = h.opcode < 16
HasOpcode read = Unit {0}

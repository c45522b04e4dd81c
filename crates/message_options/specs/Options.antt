-- Options of EDNS (RFC 6891 section 6.1.2)
use Rattle.std.specs.Prelude.{ℕ, zero, suc, ◌+◌, ◌-◌, ◌/◌, ◌%◌, ◌==◌, ◌&&◌, Bool, false, List, [], ◌∷◌, ◌++◌, length, take, nat_lt, slice_index, Option, Some, None, if◌then◌else◌}
use Rattle.zone_proto.specs.Types.{OPT}
use Rattle.message_reading.specs.declared.record_frame.RecordFrame.{RecordFrame}
use Rattle.message_reading.specs.Octets.{◌>>=◌, short_of, octets_of}
use Rattle.message_reading.specs.Headers.{header_of}
use Rattle.message_reading.specs.Unread.{behind_questions, record_frame_of}

-- ---- what a message has

-- the first OPT record, whose type is 41, among so many records: what it says of itself, and its data
unfoldable pub opt_within : ℕ → List ℕ → Option (RecordFrame × List ℕ)
opt_within zero octets = None
opt_within (suc n) octets =
    record_frame_of octets >>= λ r. if r.0.record_type == OPT then Some (r.0, r.1) else opt_within n r.2

-- the OPT record of a message: there is one at most (RFC 6891 section 6.1.1)
unfoldable pub opt_of : List ℕ → Option (RecordFrame × List ℕ)
opt_of message =
    header_of message >>= λ header.
    behind_questions header.0.questions header.1 >>= λ records.
    opt_within (header.0.answers + header.0.authorities + header.0.additionals) records

-- an option: its code, its value, and what follows it
abbrev pub option_of : List ℕ → Option (ℕ × List ℕ × List ℕ)
option_of octets =
    short_of octets >>= λ code.
    short_of code.1 >>= λ count.
    octets_of count.0 count.1 >>= λ value.
    Some (code.0, value.0, value.1)

-- the value of the first option of a code, among so many at most
unfoldable pub option_value : ℕ → ℕ → List ℕ → Option (List ℕ)
option_value zero code octets = None
option_value (suc steps) code octets =
    option_of octets >>= λ found. if found.0 == code then Some found.1 else option_value steps code found.2

-- ---- what a response gets

-- a number of 16 bits, the high octet first
abbrev pub number_text : ℕ → List ℕ
number_text n = (n / 256) ∷ (n % 256) ∷ []

-- an option: its code, the length of its value, and the value
abbrev pub option_text : ℕ → List ℕ → List ℕ
option_text code value = number_text code ++ number_text (length value) ++ value

-- The last eleven octets are an OPT record without data: the root, type 41, the class and the TTL, whatever these are, and the length 0
-- (RFC 6891 section 6.1.2).
unfoldable pub ends_with_opt : List ℕ → Bool
ends_with_opt octets =
    let at = length octets - 11 in
    if nat_lt (length octets) 11 then false
    else (slice_index octets at == 0) && ((slice_index octets (at + 1) == 0) && ((slice_index octets (at + 2) == 41)
    && ((slice_index octets (at + 9) == 0) && (slice_index octets (at + 10) == 0))))

-- a response whose last record, OPT, has no data, with these: their length in place of the last two octets, and then they
unfoldable pub with_options : List ℕ → List ℕ → List ℕ
with_options options response = take (length response - 2) response ++ number_text (length options) ++ options

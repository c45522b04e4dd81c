-- Where a message has a TSIG record (RFC 8945 section 5.2)
use Rattle.std.specs.Prelude.{ℕ, zero, suc, ◌+◌, ◌-◌, ◌==◌, ◌||◌, Bool, false, List, length, take, Option, Some, None, nat_lt, if◌then◌else◌}
use Rattle.message_reading.specs.declared.header.Header.{Header}
use Rattle.message_reading.specs.declared.record_frame.RecordFrame.{RecordFrame}
use Rattle.message_reading.specs.Headers.{header_of}
use Rattle.message_reading.specs.Octets.{◌>>=◌, offset_of}
use Rattle.message_reading.specs.Unread.{behind_questions, record_frame_of}
use Rattle.message_tsig.specs.declared.place.Place.{Place}
use Rattle.message_tsig.specs.declared.place.Place.TheVariants as at
use Rattle.message_tsig.specs.Texts.{with_additionals}

-- the number of the type TSIG (RFC 8945 section 4.1)
abbrev pub TSIG : ℕ
TSIG = 250

-- whether one of so many records is a TSIG, if none before is, and what follows them
unfoldable pub passed : ℕ → Bool → List ℕ → Option (Bool × List ℕ)
passed zero found octets = Some (found, octets)
passed (suc n) found octets = record_frame_of octets >>= λ r. passed n (found || (r.0.record_type == TSIG)) r.2

-- how many records a message has
abbrev pub record_count : Header → ℕ
record_count h = h.answers + h.authorities + h.additionals

abbrev pub is_empty : List ℕ → Bool
is_empty octets = length octets == 0

-- The last record of a message, which begins at these octets: a TSIG stands at the end of the additional section, and nothing follows it.
abbrev pub place_last : List ℕ → Header → List ℕ → Option (RecordFrame × List ℕ × List ℕ) → Place
place_last message h last None = at.Absent
place_last message h last (Some r) =
    if r.0.record_type == TSIG then (
    if nat_lt 0 h.additionals then (if is_empty r.2 then at.Last (offset_of message last) else at.Misplaced) else at.Misplaced
    ) else at.Absent

-- of the records before the last none is a TSIG
abbrev pub place_behind : List ℕ → Header → Option (Bool × List ℕ) → Place
place_behind message h None = at.Absent
place_behind message h (Some p) = if p.0 then at.Misplaced else place_last message h p.1 (record_frame_of p.1)

-- the same for the octets behind the questions; where the message isn't whole, it is told by those who read it further
abbrev pub place_among : List ℕ → Header → Option (List ℕ) → Place
place_among message h None = at.Absent
place_among message h (Some records) =
    if record_count h == 0 then at.Absent else place_behind message h (passed (record_count h - 1) false records)

abbrev pub place_in : List ℕ → Option (Header × List ℕ) → Place
place_in message None = at.Absent
place_in message (Some h) = place_among message h.0 (behind_questions h.0.questions h.1)

unfoldable pub place_of : List ℕ → Place
place_of message = place_in message (header_of message)

-- a message without the record at an offset, which is its last (RFC 8945 section 5.2)
abbrev pub without : ℕ → ℕ → List ℕ → List ℕ
without additionals at message = with_additionals (additionals - 1) (take at message)

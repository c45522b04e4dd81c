-- Messages without records: what a refused request is answered with, and a response for which there is no room
use Rattle.std.specs.Prelude.{ℕ, ◌+◌, ◌-◌, ◌*◌, ◌/◌, ◌%◌, List, [], ◌∷◌, ◌++◌, length, take, drop, slice_index, Option, Some, None}
use Rattle.message_reading.specs.Unread.{behind_questions}
use Rattle.message_tsig.specs.Texts.{short_at, short_text}

-- the questions of a message, how many they are and as they stand; none where they aren't whole
abbrev pub asked_before : ℕ → List ℕ → Option (List ℕ) → ℕ × List ℕ
asked_before count octets None = (0, [])
asked_before count octets (Some rest) = (count, take (length octets - length rest) octets)

abbrev pub asked : List ℕ → ℕ × List ℕ
asked message = asked_before (short_at 4 message) (drop 12 message) (behind_questions (short_at 4 message) (drop 12 message))

-- a header with these counts of questions, and the questions
abbrev pub questions_text : ℕ × List ℕ → List ℕ
questions_text questions = short_text questions.0 ++ 0 ∷ 0 ∷ 0 ∷ 0 ∷ 0 ∷ 0 ∷ questions.1

-- QR, the opcode and RD of a request (RFC 1035 section 4.1.1)
abbrev pub high_flags : List ℕ → ℕ
high_flags request = 128 + slice_index request 2 / 8 % 16 * 8 + slice_index request 2 % 2

-- its CD (RFC 4035 section 3.2.2), and a code
abbrev pub low_flags : List ℕ → ℕ → ℕ
low_flags request code = slice_index request 3 / 16 % 2 * 16 + code

-- a response of a code, with the questions of the request
unfoldable pub refusal_text : List ℕ → ℕ → List ℕ
refusal_text request code = take 2 request ++ high_flags request ∷ low_flags request code ∷ [] ++ questions_text (asked request)

-- the flags of a response, with TC and without its code (RFC 8945 section 5.3)
abbrev pub truncated_flags : List ℕ → List ℕ
truncated_flags response =
    (slice_index response 2 / 4 % 64 * 4 + 2 + slice_index response 2 % 2) ∷ (slice_index response 3 / 16 % 16 * 16) ∷ []

-- a response without its records: the questions alone
unfoldable pub truncated_text : List ℕ → List ℕ
truncated_text response = take 2 response ++ truncated_flags response ++ questions_text (asked response)

-- and without its questions too
unfoldable pub header_text : List ℕ → List ℕ
header_text response = take 2 response ++ truncated_flags response ++ questions_text (0, [])

-- The octets of the response to an update (RFC 2136 section 3.8): a header and, where the request had one, an OPT record (RFC 6891
-- section 6.1.1)
use Rattle.std.specs.Prelude.{ℕ, ◌+◌, ◌*◌, ◌/◌, ◌%◌, Bool, true, false, List, [], ◌∷◌, ◌++◌}
use Rattle.message_reading.specs.declared.header.Header.{Header}

-- QR, the opcode of the request and the code; no entries but so many additional records
abbrev pub header_text : Header → ℕ → ℕ → List ℕ
header_text h code additionals = (h.id / 256) ∷ (h.id % 256) ∷ (128 + h.opcode * 8) ∷ code ∷ 0 ∷ 0 ∷ 0 ∷ 0 ∷ 0 ∷ 0 ∷ 0 ∷ additionals ∷ []

-- at the root, of type 41, and of so large messages as may be sent: 1232 octets
abbrev pub extension_text : List ℕ
extension_text = 0 ∷ 0 ∷ 41 ∷ 4 ∷ 208 ∷ 0 ∷ 0 ∷ 0 ∷ 0 ∷ 0 ∷ 0 ∷ []

abbrev pub response_text : Header → ℕ → Bool → List ℕ
response_text h code false = header_text h code 0
response_text h code true = header_text h code 1 ++ extension_text

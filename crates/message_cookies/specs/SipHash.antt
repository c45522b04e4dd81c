-- SipHash-2-4 (Aumasson and Bernstein, "SipHash: a fast short-input PRF", 2012), by which server cookies are made (RFC 9018 section 4.4).
-- An octet is a number below 2 ^ 8 and a word one below 2 ^ 64. Section numbers are those of the paper.
use Rattle.std.specs.Prelude.{ℕ, zero, suc, ◌+◌, ◌-◌, ◌*◌, ◌/◌, ◌%◌, ◌^◌, List, [], ◌∷◌, ◌++◌, length, replicate, bit_xor, slice_index}
use Rattle.std.specs.Int.{w64, from_le_bytes, rotate_left}
use Rattle.message_cookies.specs.declared.sip_hash.State.{State}

-- the sum of two words, without the carry
abbrev pub plus : ℕ → ℕ → ℕ
plus x y = (x + y) % 2 ^ 64

-- SipRound (section 2.1, figure 2.1)
unfoldable pub sip_round : State → State
sip_round s =
    let a0 = plus s.v0 s.v1 in
    let a2 = plus s.v2 s.v3 in
    let a1 = bit_xor (rotate_left w64 s.v1 13) a0 in
    let a3 = bit_xor (rotate_left w64 s.v3 16) a2 in
    let b2 = plus a2 a1 in
    let b0 = plus (rotate_left w64 a0 32) a3 in
    record {
      v0 = b0;
      v1 = bit_xor (rotate_left w64 a1 17) b2;
      v2 = rotate_left w64 b2 32;
      v3 = bit_xor (rotate_left w64 a3 21) b0;
    }

-- before the first word: each half of the key with two constants (section 2.1)
unfoldable pub initial : ℕ → ℕ → State
initial low high = record {
  v0 = bit_xor low 0x736F_6D65_7073_6575;
  v1 = bit_xor high 0x646F_7261_6E64_6F6D;
  v2 = bit_xor low 0x6C79_6765_6E65_7261;
  v3 = bit_xor high 0x7465_6462_7974_6573;
}

-- two rounds for each word of the message (section 2.2)
unfoldable pub compressed : State → ℕ → State
compressed s word =
    let after = sip_round (sip_round (record s { v3 = bit_xor s.v3 word })) in
    record after { v0 = bit_xor after.v0 word }

-- four rounds behind the last word (section 2.3)
unfoldable pub finalized : State → ℕ
finalized s =
    let after = sip_round (sip_round (sip_round (sip_round (record s { v2 = bit_xor s.v2 0xFF })))) in
    bit_xor (bit_xor (bit_xor after.v0 after.v1) after.v2) after.v3

-- The message, octets 0 up to one less than a whole number of words, and the count of its octets by 256, in the last octet of the last
-- word (section 2.2).
unfoldable pub padded : List ℕ → List ℕ
padded message = message ++ replicate (7 - length message % 8) 0 ++ (length message % 256) ∷ []

-- word i of octets, the lowest octet first (section 2.2)
unfoldable pub word_at : List ℕ → ℕ → ℕ
word_at octets i = from_le_bytes w64
    (slice_index octets (8 * i) ∷ slice_index octets (8 * i + 1) ∷ slice_index octets (8 * i + 2) ∷ slice_index octets (8 * i + 3)
    ∷ slice_index octets (8 * i + 4) ∷ slice_index octets (8 * i + 5) ∷ slice_index octets (8 * i + 6)
    ∷ slice_index octets (8 * i + 7) ∷ [])

-- the state after the first n words
unfoldable pub state_after : State → List ℕ → ℕ → State
state_after s octets zero = s
state_after s octets (suc n) = compressed (state_after s octets n) (word_at octets n)

-- the code of a message under a key of 16 octets
unfoldable pub siphash : List ℕ → List ℕ → ℕ
siphash key message =
    finalized (state_after (initial (word_at key 0) (word_at key 1)) (padded message) (length (padded message) / 8))

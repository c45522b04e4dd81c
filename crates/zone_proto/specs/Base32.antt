-- Octets in base32hex
use Rattle.std.specs.Prelude.{ℕ, ◌+◌, ◌-◌, ◌*◌, ◌/◌, ◌%◌, ◌^◌, List, length, map, slice_index}
use Rattle.std.specs.Char.{digit_char}
use Rattle.std.specs.List.{range_with_len}

-- the number of five bits of octets from this bit on, the first the highest; zero bits follow the last octet
abbrev pub five_bits : List ℕ → ℕ → ℕ
five_bits bs i = (slice_index bs (i / 8) * 256 + slice_index bs (i / 8 + 1)) / 2 ^ (11 - i % 8) % 32

-- how many characters of five bits so many octets take
abbrev pub base32_count : ℕ → ℕ
base32_count n = (n * 8 + 4) / 5

-- octets in base32hex: five bits a character from the highest on, the last one filled with zero bits, in lower case and
-- without padding (RFC 4648 section 7, RFC 5155 section 3.3)
abbrev pub base32_text : List ℕ → List ℕ
base32_text bs = map (λ i. digit_char (five_bits bs (i * 5))) (range_with_len 0 (base32_count (length bs)))

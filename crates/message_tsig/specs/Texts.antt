-- Numbers and octets as they are written, and what stands at an offset
use Rattle.std.specs.Prelude.{ℕ, ◌+◌, ◌*◌, ◌/◌, ◌%◌, List, [], ◌∷◌, ◌++◌, length, take, drop, slice_index}

-- a number of 16 bits, the high octet first (RFC 1035 section 2.3.2)
abbrev pub short_text : ℕ → List ℕ
short_text n = (n / 256 % 256) ∷ (n % 256) ∷ []

-- a number of 48 bits, the high octets first
abbrev pub time_text : ℕ → List ℕ
time_text t = short_text (t / 4294967296) ++ short_text (t / 65536) ++ short_text t

-- octets behind the number of them
abbrev pub counted_text : List ℕ → List ℕ
counted_text octets = short_text (length octets) ++ octets

-- the number of 16 bits at an offset
abbrev pub short_at : ℕ → List ℕ → ℕ
short_at at octets = slice_index octets at * 256 + slice_index octets (at + 1)

-- a message with another count of additional records (RFC 1035 section 4.1.1)
abbrev pub with_additionals : ℕ → List ℕ → List ℕ
with_additionals n message = take 10 message ++ short_text n ++ drop 12 message

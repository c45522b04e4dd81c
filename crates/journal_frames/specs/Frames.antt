-- A frame: a message behind its length and its checksum
use Rattle.std.specs.Prelude.{ℕ, ◌+◌, ◌*◌, ◌/◌, ◌%◌, nat_le, nat_eq, if◌then◌else◌, List, [], ◌∷◌, ◌++◌, length, take, drop, Option, Some, None}
use Rattle.std.specs.Cmp.Lexicographic.{pointwise}
use Rattle.sha2.specs.Sha256.{sha256}

-- the checksum of a message: its digest by SHA-256 (FIPS 180-4)
unfoldable pub checksum : List ℕ → List ℕ
checksum message = sha256 message

-- a number in four octets, the highest first
abbrev pub number_octets : ℕ → List ℕ
number_octets n = (n / 0x1000000) ∷ (n / 0x10000 % 256) ∷ (n / 0x100 % 256) ∷ (n % 256) ∷ []

-- a message behind its length in four octets and its checksum in 32
abbrev pub framed : List ℕ → List ℕ
framed message = number_octets (length message) ++ (checksum message ++ message)

-- a message and what stands behind it, if its checksum is this one
abbrev pub confirmed : List ℕ → List ℕ → List ℕ → Option (List ℕ × List ℕ)
confirmed sum message behind = if pointwise nat_eq sum (checksum message) then Some (message, behind) else None

-- a message of so many octets behind its checksum, and what stands behind it; none where they end before it does
abbrev pub message_of : ℕ → List ℕ → Option (List ℕ × List ℕ)
message_of count octets =
    if nat_le (32 + count) (length octets) then confirmed (take 32 octets) (take count (drop 32 octets)) (drop count (drop 32 octets)) else None

-- the message of the frame that octets begin with, and what stands behind it; none where they begin with no whole frame
abbrev pub frame_at : List ℕ → Option (List ℕ × List ℕ)
frame_at (a ∷ b ∷ c ∷ d ∷ octets) = message_of (a * 0x1000000 + b * 0x10000 + c * 0x100 + d) octets
frame_at _ = None

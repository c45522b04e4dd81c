-- What octets begin with: a value and the octets after it, or none if they begin with no such value
use Rattle.std.specs.Prelude.{ℕ, ◌+◌, ◌-◌, ◌*◌, List, [], ◌∷◌, length, take, drop, nat_le, Option, Some, None, if◌then◌else◌}

-- one reading after the other: the second goes on with what the first one found
infixl 10 ◌>>=◌
abbrev pub ◌>>=◌ : {A B : Type 0} → Option A → (A → Option B) → Option B
None >>= f = None
(Some x) >>= f = f x

-- an octet
abbrev pub octet_of : List ℕ → Option (ℕ × List ℕ)
octet_of [] = None
octet_of (b ∷ rest) = Some (b, rest)

-- a number of 16 bits, the high octet first (RFC 1035 section 2.3.2)
abbrev pub short_of : List ℕ → Option (ℕ × List ℕ)
short_of [] = None
short_of (a ∷ []) = None
short_of (a ∷ b ∷ rest) = Some (a * 256 + b, rest)

-- a number of 32 bits, the high half first
abbrev pub long_of : List ℕ → Option (ℕ × List ℕ)
long_of rest = short_of rest >>= λ high. short_of high.1 >>= λ low. Some (high.0 * 65536 + low.0, low.1)

-- so many octets
abbrev pub octets_of : ℕ → List ℕ → Option (List ℕ × List ℕ)
octets_of n rest = if nat_le n (length rest) then Some (take n rest, drop n rest) else None

-- octets behind an octet that counts them
abbrev pub counted_of : List ℕ → Option (List ℕ × List ℕ)
counted_of octets = octet_of octets >>= λ count. octets_of count.0 count.1

-- a value behind which nothing stands
abbrev pub alone : {A : Type 0} → Option (A × List ℕ) → Option A
alone None = None
alone (Some (x, [])) = Some x
alone (Some (x, b ∷ rest)) = None

-- the offset of what follows a value: octets were at an offset, and these are left of them
abbrev pub past : ℕ → List ℕ → List ℕ → ℕ
past at octets left = at + (length octets - length left)

-- the offset at which the last octets of a message begin
abbrev pub offset_of : List ℕ → List ℕ → ℕ
offset_of message octets = length message - length octets

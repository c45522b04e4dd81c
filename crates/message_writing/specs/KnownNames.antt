-- Names that a message has already, and how a name is cut where its end is one of them (RFC 1035 section 4.1.4)
use Rattle.std.specs.Borrow.{Bor}
use Rattle.std.specs.Prelude.{◌≡◌, ℕ, zero, suc, ◌+◌, ◌/◌, ◌%◌, ◌<◌, ◌≤◌, List, [], ◌∷◌, ◌++◌, length, drop, Option, Some, None}
use Rattle.zone_proto.specs.Names.{Name}
use Rattle.message_reading.specs.MessageNames.{name_within}

-- The name is at an offset, and is read in half of the steps that a name may take: so the labels before it find room in
-- the others.
pub record StandsAt (octets : List ℕ) (p : ℕ) (n : Name) : Type 0 where
  pub after : List ℕ
  pub stands : name_within 127 octets p (drop p octets) ≡ Some (n, after)

-- A pointer may lead to it: behind the header, and within the 14 bits of a pointer.
pub record IsKnown (octets : List ℕ) (p : ℕ) (n : Name) : Type 0 where
  pub low : 12 ≤ p
  pub short : p < 16384
  pub stands : StandsAt octets p n

-- the end of a name, or a pointer to what follows of it
abbrev pub ending : Option ℕ → List ℕ
ending None = 0 ∷ []
ending (Some p) = (192 + p / 256) ∷ (p % 256) ∷ []

-- so many labels of a name, each behind its length, and then its end or a pointer
abbrev pub cut_text : ℕ → Option ℕ → Name → List ℕ
cut_text zero pointer n = ending pointer
cut_text (suc k) pointer [] = ending pointer
cut_text (suc k) pointer (l ∷ n) = length l ∷ (l ++ cut_text k pointer n)

-- the labels alone
abbrev pub labels_text : ℕ → Name → List ℕ
labels_text zero n = []
labels_text (suc k) [] = []
labels_text (suc k) (l ∷ n) = length l ∷ (l ++ labels_text k n)

-- what follows these labels is known there, or is nothing
abbrev pub IsRest : List ℕ → Option ℕ → Name → Type 0
IsRest octets None left = left ≡ []
IsRest octets (Some p) left = IsKnown octets p left

pub record IsCut (octets : List ℕ) (labels : ℕ) (pointer : Option ℕ) (n : Name) : Type 0 where
  pub within : labels ≤ length n
  pub rest : IsRest octets pointer (drop labels n)

-- an offset that a pointer can give
abbrev pub IsShort : Option ℕ → Type 0
IsShort None = Unit {0}
IsShort (Some p) = p < 16384

-- the name that is asked for, if there is one, comes after the header
abbrev pub IsAskedAt : List ℕ → Option (Bor Name) → Type 0
IsAskedAt octets None = Unit {0}
IsAskedAt octets (Some n) = IsKnown octets 12 n.now

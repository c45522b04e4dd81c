-- Owners, questions and records that are passed over: what they say isn't read
use Rattle.std.specs.Prelude.{ℕ, zero, suc, ◌==◌, Bool, false, List, [], ◌∷◌, Option, Some, None, nat_lt, if◌then◌else◌}
use Rattle.message_reading.specs.declared.record_frame.RecordFrame.{RecordFrame}
use Rattle.message_reading.specs.Octets.{◌>>=◌, octet_of, short_of, long_of, octets_of}

-- What follows the owner of a record, which is not read: its labels are passed over in so many steps at most, up to its
-- end or to a pointer.
unfoldable pub behind_owner : ℕ → List ℕ → Option (List ℕ)
behind_owner zero octets = None
behind_owner (suc steps) [] = None
behind_owner (suc steps) (b ∷ rest) =
    if b == 0 then Some rest
    else (if nat_lt b 64 then (octets_of b rest >>= λ label. behind_owner steps label.1)
    else (if nat_lt b 192 then None
    else (octet_of rest >>= λ low. Some low.1)))

-- what follows so many questions: a name, a type and a class each (RFC 1035 section 4.1.2)
unfoldable pub behind_questions : ℕ → List ℕ → Option (List ℕ)
behind_questions zero octets = Some octets
behind_questions (suc n) octets =
    behind_owner 128 octets >>= λ fields. octets_of 4 fields >>= λ fields. behind_questions n fields.1

-- the first octet is 0, the wire form of the root
abbrev pub begins_with_root : List ℕ → Bool
begins_with_root [] = false
begins_with_root (b ∷ rest) = b == 0

-- What a record says of itself, its data, and what follows it. A name has at most 127 labels, and then its end or a pointer.
unfoldable pub record_frame_of : List ℕ → Option (RecordFrame × List ℕ × List ℕ)
record_frame_of octets =
    behind_owner 128 octets >>= λ fields.
    short_of fields >>= λ t.
    short_of t.1 >>= λ class.
    long_of class.1 >>= λ ttl.
    short_of ttl.1 >>= λ count.
    octets_of count.0 count.1 >>= λ text.
    Some (
      record { is_at_root = begins_with_root octets; record_type = t.0; class = class.0; ttl = ttl.0 },
      text.0,
      text.1,
    )

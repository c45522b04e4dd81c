-- Keys of record sets: a name in lower case and a type.
use Rattle.std.specs.Prelude.{ℕ, Bool, [], ◌∷◌}
use Rattle.std.specs.declared.cmp.Ordering.{Ordering}
use Rattle.std.specs.Ordering.{nat_cmp, ordering_then, is_eq}
use Rattle.zone_proto.specs.declared.rr_key.RrKey.{RrKey}
use Rattle.zone_proto.specs.Names.{Name, name_cmp}
use Rattle.zone_proto.specs.Ranges.{IsInRange, octets_of_labels}

-- the key of a name and a type number
abbrev pub key : Name → ℕ → RrKey
key n t = record { name = n; record_type = record { 0 = t } }

-- the least key that a name may have
abbrev pub first_key : Name → RrKey
first_key n = key n 0

-- the order of keys: by name, in the canonical order, and then by the type's number
abbrev pub key_cmp : RrKey → RrKey → Ordering
key_cmp j k = ordering_then (name_cmp j.name k.name) (nat_cmp j.record_type.0 k.record_type.0)

-- keys are the same
abbrev pub key_eq : RrKey → RrKey → Bool
key_eq j k = is_eq (key_cmp j k)

-- a key whose octets are from 0 to 255 and whose type number is from 0 to 65535
abbrev pub IsKeyInRange : RrKey → Type 0
IsKeyInRange k = IsInRange (octets_of_labels k.name) (k.record_type.0 ∷ [])

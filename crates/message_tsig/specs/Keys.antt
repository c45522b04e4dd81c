-- Keys, and which of them a TSIG names
use Rattle.std.specs.Prelude.{ℕ, ◌&&◌, Bool, true, List, [], ◌∷◌, Option, codes}
use Rattle.std.specs.List.{find, list_any}
use Rattle.std.specs.Ordering.{eq_by_cmp}
use Rattle.zone_proto.specs.Names.{Name, label_eq, lower, name_cmp, wire_form}
use Rattle.message_hmac.specs.declared.algorithm.Algorithm.{Algorithm}
use Rattle.message_hmac.specs.declared.algorithm.Algorithm.TheVariants as by
use Rattle.message_tsig.specs.declared.key.Key.{Key}
use Rattle.message_tsig.specs.declared.key.KeyZones.{KeyZones}
use Rattle.message_tsig.specs.declared.key.KeyZones.TheVariants as zones
use Rattle.message_tsig.specs.declared.tsig.Tsig.{Tsig}

-- the names of the algorithms (RFC 8945 section 6), each a label under the root
abbrev pub algorithm_name : Algorithm → Name
algorithm_name by.Sha1 = codes "hmac-sha1" ∷ []
algorithm_name by.Sha224 = codes "hmac-sha224" ∷ []
algorithm_name by.Sha256 = codes "hmac-sha256" ∷ []
algorithm_name by.Sha384 = codes "hmac-sha384" ∷ []
algorithm_name by.Sha512 = codes "hmac-sha512" ∷ []

-- names in lower case are the same: neither is before the other in their order (RFC 4034 section 6.1)
abbrev pub are_same : Name → Name → Bool
are_same = eq_by_cmp name_cmp

-- a key has this name and this algorithm, of which these are the wire form
abbrev pub is_named : Name → List ℕ → Key → Bool
is_named name algorithm k = are_same k.name name && label_eq (wire_form (algorithm_name k.algorithm)) algorithm

-- a TSIG names a key: by its name and its algorithm, without regard to case (section 5.2.1)
abbrev pub names_key : Tsig → Key → Bool
names_key t k = is_named (lower t.name) (wire_form (lower t.algorithm)) k

-- the first key that a TSIG names
abbrev pub key_for : Tsig → List Key → Option Key
key_for t keys = find (names_key t) keys

-- zones have one of this origin among them
abbrev pub has_zone : Name → KeyZones → Bool
has_zone origin zones.All = true
has_zone origin (zones.Only origins) = list_any (λ (x : Name). are_same x origin) origins.items

-- those who have a key may have the zone of this origin
abbrev pub may_have : Key → Name → Bool
may_have k origin = has_zone origin k.zones

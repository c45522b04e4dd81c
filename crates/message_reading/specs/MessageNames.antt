-- Names in messages, with compression (RFC 1035 sections 3.1 and 4.1.4)
use Rattle.std.specs.Prelude.{◌≡◌, ℕ, zero, suc, ◌+◌, ◌-◌, ◌*◌, ◌&&◌, ◌==◌, Bool, List, [], ◌∷◌, drop, nat_le, nat_lt, Option, Some, None, if◌then◌else◌}
use Rattle.zone_proto.specs.Names.{Name, wire_form, wire_length}
use Rattle.zone_proto.specs.WireForms.{HaveOctets}
use Rattle.message_reading.specs.Octets.{◌>>=◌, octet_of, octets_of}

-- A pointer leads to a prior occurrence of a name: before an offset, and not into the 12 octets of the header, where no name stands.
abbrev pub leads_back : ℕ → ℕ → Bool
leads_back before target = nat_le 12 target && nat_lt target before

-- the offset that the two octets of a pointer give: 14 bits, behind two that are set
abbrev pub target_of : ℕ → ℕ → ℕ
target_of high low = (high - 192) * 256 + low

-- where the pointer leads of whose two octets this is the first, and what follows it
abbrev pub lead : ℕ → ℕ → List ℕ → Option (ℕ × List ℕ)
lead before high rest =
    octet_of rest >>= λ low.
    if leads_back before (target_of high low.0) then Some (target_of high low.0, low.1) else None

-- a label of so many octets, and then a name
abbrev pub label_then : (List ℕ → Option (Name × List ℕ)) → ℕ → List ℕ → Option (Name × List ℕ)
label_then name count rest = octets_of count rest >>= λ label. name label.1 >>= λ n. Some (label.0 ∷ n.0, n.1)

-- the name that a pointer leads to; what follows it is what follows the pointer
abbrev pub pointed : (ℕ → List ℕ → Option (Name × List ℕ)) → List ℕ → ℕ → ℕ → List ℕ → Option (Name × List ℕ)
pointed name message before high rest =
    lead before high rest >>= λ to. name to.0 (drop to.0 message) >>= λ n. Some (n.0, to.1)

-- The name that octets of a message begin with, in so many steps at most: each label, each pointer and the end is a step. An octet 0 is
-- the end; 1 to 63 is the length of a label; from 192 on it is the first of a pointer's two; the others are reserved. A pointer leads
-- before an offset; what stands where it leads may have pointers too, and these lead before that place.
unfoldable pub name_within : ℕ → List ℕ → ℕ → List ℕ → Option (Name × List ℕ)
name_within zero message before octets = None
name_within (suc steps) message before [] = None
name_within (suc steps) message before (b ∷ rest) =
    if b == 0 then Some ([], rest)
    else (if nat_lt b 64 then label_then (name_within steps message before) b rest
    else (if nat_lt b 192 then None
    else pointed (name_within steps message) message before b rest))

-- A name has at most 127 labels, so 256 steps let a pointer come before each label and before the end.
abbrev pub most_steps : ℕ
most_steps = 256

-- a name whose wire form has at most 255 octets, its pointers followed (RFC 1035 section 2.3.4)
abbrev pub if_short : Name × List ℕ → Option (Name × List ℕ)
if_short found = if nat_le (wire_length found.0) 255 then Some found else None

-- the name that the octets at an offset of a message begin with, and the octets after it; its pointers lead before that offset
unfoldable pub name_of : List ℕ → ℕ → List ℕ → Option (Name × List ℕ)
name_of message at octets = name_within most_steps message at octets >>= if_short

-- a name without pointers: nothing comes before the offset 0, so none leads anywhere
abbrev pub plain_name_of : List ℕ → Option (Name × List ℕ)
plain_name_of octets = name_of [] 0 octets

-- a name, spelled as its wire form, was found, and all its labels have octets; or there is none
abbrev pub Spells : Option (List ℕ × List ℕ) → Option (Name × List ℕ) → Type 0
Spells None found = found ≡ None
Spells (Some x) found = (n : Name) × (found ≡ Some (n, x.1)) × (x.0 ≡ wire_form n) × HaveOctets n

-- The new names of names below a DNAME (RFC 6672 sections 2.1 and 2.2)
use Rattle.std.specs.Prelude.{◌≡◌, ℕ, List, ◌++◌, Some, None, ◌↔◌}
use Rattle.zone_proto.specs.Faults.{fault_of}
use Rattle.zone_proto.specs.Names.{Name, wire_form}
use Rattle.zone_response.specs.Dname.{name_in, in_place_of}

-- the name that is read in octets is the one of which they are the wire form
abbrev pub TargetsAreRead : Type 0
TargetsAreRead = (octets : List ℕ) (n : Name) → (name_in octets ≡ Some n) ↔ ((octets ≡ wire_form n) × (fault_of n ≡ None))

-- the labels that come before an owner come before the target then
abbrev pub OwnersAreReplaced : Type 0
OwnersAreReplaced = (owner target front : Name) → in_place_of owner target (front ++ owner) ≡ front ++ target

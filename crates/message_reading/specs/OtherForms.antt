-- The data of types without a case of their own: octets as they are, but for the names in them that a sender may have
-- compressed, which are in wire form, without pointers (RFC 3597 sections 3 and 4)
use Rattle.std.specs.Prelude.{ℕ, zero, suc, ◌==◌, ◌||◌, Bool, List, [], ◌∷◌, ◌++◌, Option, Some, None, if◌then◌else◌}
use Rattle.zone_proto.specs.Names.{wire_form}
use Rattle.message_reading.specs.Octets.{◌>>=◌, octets_of, past}
use Rattle.message_reading.specs.MessageNames.{name_of}

-- a name alone: MD, MF, MB, MG, MR, PTR (RFC 1035 section 3.3)
abbrev pub is_name : ℕ → Bool
is_name t = t == 3 || (t == 4 || (t == 7 || (t == 8 || (t == 9 || t == 12))))

-- two names: MINFO (RFC 1035 section 3.3.7), RP (RFC 1183 section 2.2)
abbrev pub is_two_names : ℕ → Bool
is_two_names t = t == 14 || t == 17

-- a number of 16 bits and a name: AFSDB, RT (RFC 1183 sections 1 and 3.3)
abbrev pub is_numbered_name : ℕ → Bool
is_numbered_name t = t == 18 || t == 21

-- how many octets come before the names of the data of a type, and how many names follow; none of all other types
abbrev pub form_of : ℕ → Option (ℕ × ℕ)
form_of t =
    if is_name t then Some (0, 1)
    else (if is_two_names t then Some (0, 2)
    else (if is_numbered_name t then Some (2, 1)
    else None))

-- so many names, to the end of the octets, in wire form; what is left of the octets tells its place in the message
unfoldable pub names_of : ℕ → List ℕ → (List ℕ → ℕ) → List ℕ → Option (List ℕ)
names_of zero message place [] = Some []
names_of zero message place (b ∷ rest) = None
names_of (suc count) message place octets =
    name_of message (place octets) octets >>= λ name.
    names_of count message place name.1 >>= λ more.
    Some (wire_form name.0 ++ more)

-- these octets, and then so many names
abbrev pub with_names : List ℕ → ℕ → List ℕ → (List ℕ → ℕ) → List ℕ → Option (List ℕ)
with_names front count message place octets = names_of count message place octets >>= λ names. Some (front ++ names)

-- octets of a form, without pointers
abbrev pub in_form : Option (ℕ × ℕ) → List ℕ → ℕ → List ℕ → Option (List ℕ)
in_form None message at octets = Some octets
in_form (Some form) message at octets =
    octets_of form.0 octets >>= λ front. with_names front.0 form.1 message (past at octets) front.1

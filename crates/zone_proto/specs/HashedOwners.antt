-- The owners of NSEC3 sets
use Rattle.std.specs.Prelude.{ℕ, List, ◌∷◌, Option, Some, None, Result, Ok, Err}
use Rattle.zone_proto.specs.declared.error.ProtoError.{ProtoError}
use Rattle.zone_proto.specs.declared.error.ProtoError.TheVariants.{Hash}
use Rattle.zone_proto.specs.Base32.{base32_text}
use Rattle.zone_proto.specs.Faults.{fault_of}
use Rattle.zone_proto.specs.Names.{Name}

-- the owner of the NSEC3 set of a name with this digest: the digest's text as one label before the zone's name (RFC 5155
-- section 3)
abbrev pub hashed_owner : Name → List ℕ → Name
hashed_owner zone digest = base32_text digest ∷ zone

-- labels that are a name, or the fault that keeps them from being one
abbrev pub name_or_fault : Name → Option ProtoError → Result Name ProtoError
name_or_fault n None = Ok n
name_or_fault n (Some e) = Err e

-- the owner for the answer of a hash: there is none if the hash gives no digest, and where the digest's text is no
-- label or makes the name too long
abbrev pub owner_or_refusal : Name → Option (List ℕ) → Result Name ProtoError
owner_or_refusal zone None = Err Hash
owner_or_refusal zone (Some digest) = name_or_fault (hashed_owner zone digest) (fault_of (hashed_owner zone digest))

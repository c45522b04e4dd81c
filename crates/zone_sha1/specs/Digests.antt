-- The digests of names for NSEC3 records
use Rattle.std.specs.Prelude.{ℕ, zero, suc, List, ◌++◌, Option, Some, None, ◌==◌, if◌then◌else◌}
use Rattle.sha1.specs.Sha1.{sha1}
use Rattle.zone_proto.specs.Names.{Name, wire_form}

-- IH(salt, x, k) of RFC 5155 section 5, for a hash H of octets: IH(salt, x, 0) = H(x || salt), and
-- IH(salt, x, k) = H(IH(salt, x, k-1) || salt)
abbrev pub iterated_hash : (List ℕ → List ℕ) → List ℕ → List ℕ → ℕ → List ℕ
iterated_hash hash salt x zero = hash (x ++ salt)
iterated_hash hash salt x (suc k) = hash (iterated_hash hash salt x k ++ salt)

-- by algorithm 1, which is SHA-1 (RFC 5155 section 11), the digest of the wire form of a name in lower case; no digest by
-- another algorithm
abbrev pub name_digest : ℕ → List ℕ → Name → ℕ → Option (List ℕ)
name_digest algorithm salt name iterations = if algorithm == 1 then Some (iterated_hash sha1 salt (wire_form name) iterations) else None

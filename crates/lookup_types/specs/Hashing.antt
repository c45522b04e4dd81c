-- The digests of names with the parameters of a query, and the hashed owner of the wildcard at a name
use Rattle.std.specs.Prelude.{ℕ, List, Option, Some, None, Result, Err}
use Rattle.zone_proto.specs.declared.error.ProtoError.{ProtoError}
use Rattle.zone_proto.specs.Faults.{fault_of}
use Rattle.zone_proto.specs.HashedOwners.{owner_or_refusal}
use Rattle.zone_proto.specs.Names.{Name, wildcard_under}
use Rattle.lookup_types.specs.declared.nsec3_query_info.Nsec3QueryInfo.{Nsec3QueryInfo}

-- of a hash by algorithm, salt, name and iterations, its digest of a name with those that a query has
abbrev pub digest_for : (ℕ → List ℕ → Name → ℕ → Option (List ℕ)) → Nsec3QueryInfo → Name → Option (List ℕ)
digest_for digest_of query name = digest_of query.algorithm query.salt.now name query.iterations

-- a result, unless there is a fault
abbrev pub unless_fault : {A : Type 0} → Option ProtoError → Result A ProtoError → Result A ProtoError
unless_fault None result = result
unless_fault (Some fault) result = Err fault

-- the hashed owner of the wildcard at an encloser, in the zone of an origin: it is refused where the wildcard is no
-- name, and then as hashed owners are
abbrev pub wildcard_owner_or_refusal : (ℕ → List ℕ → Name → ℕ → Option (List ℕ)) → Nsec3QueryInfo → Name → Name → Result Name ProtoError
wildcard_owner_or_refusal digest_of query encloser zone =
    unless_fault (fault_of (wildcard_under encloser)) (owner_or_refusal zone (digest_for digest_of query (wildcard_under encloser)))

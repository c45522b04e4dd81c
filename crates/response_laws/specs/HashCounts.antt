-- How many names are hashed for a response (RFC 5155 section 7.2)
use Rattle.std.specs.Prelude.{◌≢◌, ℕ, ◌+◌, ◌≤◌, length, Some, None, IsFalse}
use Rattle.zone_proto.specs.declared.rdata.denial.NSEC3PARAM.{NSEC3PARAM as Nsec3Parameters}
use Rattle.zone_proto.specs.Names.{Name}
use Rattle.zone_response.specs.Paths.{Path, path}
use Rattle.zone_response.specs.Queries.{Zone, Query, inquiry}
use Rattle.zone_response.specs.Responses.{query_hashed}
use Rattle.zone_response.specs.Steps.{End, referred, missing}
use Rattle.response_laws.specs.HashedSayings.{zone_hash, DeniesByNsec3}

-- for the end of a search at most three, where a wildcard was asked: the closest encloser, the next closer name and the wildcard (sections 7.2.2 and 7.2.5). Otherwise the name of which something is said (sections 7.2.3, 7.2.4 and 7.2.7)
abbrev pub most_for_end : End → ℕ
most_for_end (missing x (Some w) there) = 3
most_for_end (missing x None there) = 1
most_for_end (referred c) = 1
most_for_end _ = 0

-- and one for each answer of a wildcard, the next closer name (section 7.2.6)
abbrev pub most_hashed : Path → ℕ
most_hashed p = length p.made + most_for_end p.end

-- the hash has a digest of each name
abbrev pub HasDigests : Zone → Nsec3Parameters → Type 0
HasDigests z parameters = (x : Name) → zone_hash z parameters x ≢ None

-- no more names are hashed for a query where opt-out leaves none out of the chain
abbrev pub FewNamesAreHashed : Type 0
FewNamesAreHashed = (z : Zone) (parameters : Nsec3Parameters) (q : Query) → DeniesByNsec3 z parameters → IsFalse parameters.opt_out → HasDigests z parameters → length (query_hashed z q) ≤ most_hashed (path (inquiry z q) q.name)

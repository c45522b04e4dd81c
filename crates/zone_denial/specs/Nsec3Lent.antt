-- The NSEC3 sets of a denial, as they are found in a zone
use Rattle.std.specs.Prelude.{ℕ, Bool, List, Option, None, Some, Result, Ok, filter_map}
use Rattle.std.specs.declared.cmp.Ordering.{Ordering}
use Rattle.zone_proto.specs.declared.error.ProtoError.{ProtoError}
use Rattle.zone_proto.specs.HashedOwners.{owner_or_refusal}
use Rattle.zone_proto.specs.Names.{Name, name_cmp, caseless_cmp}
use Rattle.zone_proto.specs.Sets.{RRset}
use Rattle.zone_proto.specs.Types.{NSEC3}
use Rattle.zone_map.specs.Zones.{Sets, set_at}
use Rattle.lookup_types.specs.Hashing.{digest_for}
use Rattle.lookup_types.specs.declared.nsec3_query_info.Nsec3QueryInfo.{Nsec3QueryInfo}
use Rattle.zone_denial.specs.Nsec3Denial.{result_and_then, enclosed, nsec3_denial}
use Rattle.zone_denial.specs.TypeLists.{joined, in_order}

-- of a zone's origin and of a hash, the hashed owner of a name with the parameters of a query, or its refusal
abbrev pub hashed_for : Name → (ℕ → List ℕ → Name → ℕ → Option (List ℕ)) → Nsec3QueryInfo → Name → Result Name ProtoError
hashed_for origin digest_of query name = owner_or_refusal origin (digest_for digest_of query name)

-- the NSEC3 sets that deny a query in a zone, or the refusal of the first name that is hashed and has no hashed owner
abbrev pub query_denial : (ℕ → List ℕ → Name → ℕ → Option (List ℕ)) → Name → Sets → Nsec3QueryInfo → Result (List RRset) ProtoError
query_denial digest_of origin m query = nsec3_denial m (hashed_for origin digest_of query) query.has_wildcard_match query.qname.now

-- the NSEC3 sets of owners
abbrev pub sets_of : {E : Type 0} → Sets → Result (List Name) E → Result (List RRset) E
sets_of m owners = result_and_then (λ os. Ok (filter_map (λ o. set_at m o NSEC3) os)) owners

-- sets in the canonical order of their owners
abbrev pub owner_cmp : RRset → RRset → Ordering
owner_cmp s r = caseless_cmp s.owner r.owner

-- a list of sets in that order with one more set that may be there, unless its owner has one in the list
abbrev pub joined_any : Option RRset → List RRset → List RRset
joined_any None ss = ss
joined_any (Some s) ss = joined owner_cmp s ss

-- the sets that deny where the name's own set doesn't, for its encloser
abbrev pub enclosed_sets : {E : Type 0} → Sets → (Name → Result Name E) → Bool → Name → Option Name → Result (List RRset) E
enclosed_sets m hashed wildcard q encloser = sets_of m (result_and_then (λ owners. Ok (in_order name_cmp owners)) (enclosed m hashed wildcard q encloser))

-- The chain of a zone's sets of denial, as BIND, ldns, Knot and this library write it: which sets belong to it, which names it goes
-- through, and what its sets list
use Rattle.std.specs.Prelude.{◌≡◌, ◌≢◌, ◌↔◌, ◌⊎◌, ℕ, Bool, false, ◌&&◌, ◌||◌, not, List, [], length, ◌==◌, Option, Some, None, filter, unwrap_or, IsTrue, IsFalse}
use Rattle.std.specs.List.{Contains, list_any}
use Rattle.std.specs.Option.{option_map_or}
use Rattle.zone_proto.specs.declared.nx_proof_kind.NxProofKind.{NxProofKind}
use Rattle.zone_proto.specs.declared.nx_proof_kind.NxProofKind.TheVariants as kind
use Rattle.zone_proto.specs.declared.rdata.denial.NSEC3.{NSEC3 as Nsec3Data}
use Rattle.zone_proto.specs.declared.rdata.denial.NSEC3PARAM.{NSEC3PARAM as Nsec3Parameters}
use Rattle.zone_proto.specs.Data.{same_octets}
use Rattle.zone_proto.specs.HashedOwners.{hashed_owner}
use Rattle.zone_proto.specs.Names.{Name, name_cmp, name_eq, is_above, IsAtOrAbove}
use Rattle.zone_proto.specs.Order.{is_before, least}
use Rattle.zone_proto.specs.Sets.{RRset}
use Rattle.zone_proto.specs.Types.{NS, CNAME, SOA, DS, RRSIG, NSEC, NSEC3, NSEC3PARAM, DNAME}
use Rattle.zone_map.specs.Upserts.{is_denial_type}
use Rattle.zone_map.specs.Zones.{Sets, IsZone, set_at, owns, owners}
use Rattle.zone_denial.specs.Authority.{is_authoritative, owns_besides}
use Rattle.zone_denial.specs.NsecCircle.{next_of, types_of}
use Rattle.zone_denial.specs.Nsec3Circle.{first_nsec3, nsec3_data, digests, next_digest}

-- ---- which sets belong to it

-- an NSEC3 set has an algorithm, a salt and iterations (RFC 5155 section 3.1)
abbrev pub has_parameters : ℕ → List ℕ → ℕ → RRset → Bool
has_parameters algorithm salt iterations s =
    option_map_or (λ (a : Nsec3Data). (a.algorithm == algorithm) && (same_octets a.salt salt && (a.iterations == iterations))) (first_nsec3 s.records) false

-- a set of denial of type t belongs to the chain by which a zone denies: an NSEC set, or an NSEC3 set of the zone's algorithm, salt and iterations (RFC 5155 sections 7.2 and 8.2)
abbrev pub is_of_chain : Option NxProofKind → ℕ → RRset → Bool
is_of_chain (Some kind.Nsec) t s = t == NSEC
is_of_chain (Some (kind.Nsec3 algorithm salt iterations opt_out)) t s = (t == NSEC3) && has_parameters algorithm salt iterations s
is_of_chain None t s = false

-- a set of type t stays where only the sets of the chain deny: it is no set of denial, or it belongs to the chain
abbrev pub stays : Option NxProofKind → ℕ → RRset → Bool
stays kind t s = not (is_denial_type t) || is_of_chain kind t s

-- the sets of a zone without those of denial that don't belong to its chain: those of another chain, or of the remains of one
abbrev pub chain_sets : Option NxProofKind → Sets → Sets
chain_sets kind m = filter (λ e. stays kind e.0.record_type.0 e.1) m

-- ---- names

-- n is a delegation: strictly below the origin, with NS and without SOA, which is the apex of another zone (RFC 1034 section 4.2)
abbrev pub is_delegation : Name → Sets → Name → Bool
is_delegation origin m n = is_above origin n && (owns m n NS && not (owns m n SOA))

-- one without DS (RFC 5155 section 1.3)
abbrev pub is_insecure_delegation : Name → Sets → Name → Bool
is_insecure_delegation origin m n = is_delegation origin m n && not (owns m n DS)

-- a DNAME is above n, so that what n owns is never answered (RFC 6672 section 2.4)
abbrev pub is_below_dname : Sets → Name → Bool
is_below_dname m n = list_any (λ a. is_above a n) (owners m DNAME)

-- ---- lists of types

-- n owns RRSIG, beside a set that it signs or alone; NSEC3 aside, whose owner is no name of the zone
abbrev pub has_signature : Sets → Name → Bool
has_signature m n =
    list_any (λ e. name_eq n e.0.name && (not (e.0.record_type.0 == NSEC3) && ((e.0.record_type.0 == RRSIG) || not (length e.1.signatures == 0)))) m

-- the types of which a list tells at a delegation: of others the parent has no say there, so that those of glue may be listed or not, and RRSIG too (RFC 4035 section 2.3, RFC 5155 section 7.1, RFC 6840 sections 4.1 and 4.3)
abbrev pub is_stated_at_delegation : ℕ → Bool
is_stated_at_delegation t = (t == NS) || ((t == CNAME) || ((t == SOA) || (t == DS)))

-- a list of n says whether t is there
abbrev pub is_stated : Name → Sets → Name → ℕ → Bool
is_stated origin m n t = not (is_delegation origin m n) || is_stated_at_delegation t

-- a list of types is right for n (RFC 4034 section 4.1.2, RFC 5155 section 3.2.1), NSEC and NSEC3 aside
pub record IsRightList (origin : Name) (m : Sets) (n : Name) (types : List ℕ) : Type 0 where
  -- at a delegation it tells of four types whether they are there
  pub at_delegation : IsTrue (is_delegation origin m n) → (t : ℕ) → IsTrue (is_stated_at_delegation t) → Contains types t ↔ IsTrue (owns m n t)
  -- at any other name it has exactly the types that are there, and RRSIG where something is signed; elsewhere RRSIG is
  -- free
  pub exact : IsFalse (is_delegation origin m n) → (t : ℕ) → t ≢ RRSIG → t ≢ NSEC → t ≢ NSEC3 → Contains types t ↔ IsTrue (owns m n t)
  pub signed : IsFalse (is_delegation origin m n) → IsTrue (has_signature m n) → Contains types RRSIG

-- ---- the chain of NSEC sets

-- the owner of NSEC that comes next after n, and after the last one the origin (RFC 4034 section 4.1.1)
abbrev pub next_owner : Name → Sets → Name → Name
next_owner origin m n = unwrap_or (least name_cmp (filter (is_before name_cmp n) (owners m NSEC))) origin

-- the NSEC set of n: a single record, with the next owner and the right types; NSEC is among them, though at a
-- delegation it needn't be, and NSEC3 where n owns it
pub record IsInNsecChain (origin : Name) (m : Sets) (n : Name) (s : RRset) : Type 0 where
  pub single : length s.records ≡ 1
  pub next : next_of s ≡ Some (next_owner origin m n)
  pub types : List ℕ
  pub listed : types_of s ≡ Some types
  pub right : IsRightList origin m n types
  pub own : IsFalse (is_delegation origin m n) → Contains types NSEC
  pub hashed : Contains types NSEC3 ↔ IsTrue (owns m n NSEC3)

-- the NSEC sets of a zone are a chain (RFC 4035 section 2.3)
pub record IsNsecChain (origin : Name) (m : Sets) : Type 0 where
  pub zone : IsZone m
  -- it begins at the origin, and goes through names that the zone is authoritative for
  pub begins : IsTrue (owns m origin NSEC)
  pub authoritative : (n : Name) → IsTrue (owns m n NSEC) → IsTrue (is_authoritative origin m NSEC n)
  -- through all of these, but that names below a DNAME may be left out
  pub complete : (n : Name) → IsTrue (is_authoritative origin m NSEC n) → IsTrue (owns m n NSEC) ⊎ IsTrue (is_below_dname m n)
  pub each : (n : Name) (s : RRset) → set_at m n NSEC ≡ Some s → IsInNsecChain origin m n s

-- ---- the chain of NSEC3 sets

-- an authoritative name that a chain of NSEC3 sets may leave out: one below a DNAME, or with opt-out a delegation without DS (RFC 5155 section 6)
abbrev pub may_be_left_out : Name → Sets → Bool → Name → Bool
may_be_left_out origin m opt_out n = is_below_dname m n || (opt_out && is_insecure_delegation origin m n)

-- m are the sets of a zone without those of other chains, `beside` all that may be there too
module _ (origin : Name) (beside m : Sets) (hash : Name → Option (List ℕ)) (parameters : Nsec3Parameters) (names : List Name) where
  -- the NSEC3 set of a name of this digest: a single record, with the parameters and the flag Opt-Out of the chain, the next of the digests of its names, and the right types
  pub record IsInNsec3Chain (n : Name) (d : List ℕ) (s : RRset) : Type 0 where
    pub single : length s.records ≡ 1
    pub types : List ℕ
    pub says : first_nsec3 s.records ≡ Some (nsec3_data parameters (next_digest (digests hash names) d) types)
    pub right : IsRightList origin m n types
    -- NSEC is listed where n owns it among m; else at most where n owns it beside, as while one kind of chain takes the
    -- place of the other (RFC 5155 sections 10.4 and 10.5): BIND doesn't list it then. At a delegation it is free
    pub nsec : IsFalse (is_delegation origin m n) → (IsTrue (owns m n NSEC) → Contains types NSEC) × (Contains types NSEC → IsTrue (owns m n NSEC) ⊎ IsTrue (owns beside n NSEC))
    -- NSEC3 never, whose owner is no name of the zone, and of a name that owns nothing else nothing (RFC 5155 section 7.1)
    pub no_hashed : Contains types NSEC3 → ⊥
    pub empty : IsFalse (owns_besides m NSEC3 n) → types ≡ []

  -- the NSEC3 sets of a zone are a chain through these names (RFC 5155 section 7.1)
  pub record IsNsec3Chain : Type 0 where
    pub zone : IsZone m
    -- it begins at the origin, goes with a name through those between, and each is at or above one that the zone is authoritative for
    pub begins : Contains names origin
    pub between : (n a : Name) → Contains names n → IsAtOrAbove origin a → IsAtOrAbove a n → Contains names a
    pub authoritative : (n : Name) → Contains names n → IsAtOrAbove origin n × ((c : Name) × IsTrue (is_authoritative origin m NSEC3 c) × IsAtOrAbove n c)
    -- through all of these, but for those that it may leave out
    pub complete : (n : Name) → IsTrue (is_authoritative origin m NSEC3 n) → Contains names n ⊎ IsTrue (may_be_left_out origin m parameters.opt_out n)
    -- one set for each name under its hashed owner, and no other
    pub one_for_each : (n : Name) (d : List ℕ) → Contains names n → hash n ≡ Some d
        → (s : RRset) × (set_at m (hashed_owner origin d) NSEC3 ≡ Some s) × IsInNsec3Chain n d s
    pub no_other : (o : Name) → IsTrue (owns m o NSEC3) → (n : Name) × (d : List ℕ) × Contains names n × (hash n ≡ Some d) × (o ≡ hashed_owner origin d)
    -- and the origin owns NSEC3PARAM
    pub announced : IsTrue (owns m origin NSEC3PARAM)

-- What the sets of an NSEC3 answer prove of a name, and how a lookup agrees with a circle of NSEC3 sets
use Rattle.std.specs.Prelude.{◌≡◌, ◌≢◌, ℕ, Bool, List, Option, Some, None, Ok, Err, IsTrue}
use Rattle.std.specs.List.{Contains}
use Rattle.zone_proto.specs.declared.response_code.ResponseCode.TheVariants as code
use Rattle.zone_proto.specs.declared.rdata.denial.NSEC3PARAM.{NSEC3PARAM as Nsec3Parameters}
use Rattle.zone_proto.specs.Names.{Name, is_above}
use Rattle.zone_proto.specs.Sets.{RRset}
use Rattle.zone_proto.specs.Types.{NSEC3, RRSIG}
use Rattle.zone_handler.specs.declared.auth_lookup.AuthLookup.{AuthLookup}
use Rattle.zone_handler.specs.declared.auth_lookup.AuthLookup.TheVariants as answer
use Rattle.zone_handler.specs.declared.control_flow.LookupControlFlow.{LookupControlFlow}
use Rattle.zone_handler.specs.declared.control_flow.LookupControlFlow.TheVariants.{Continue}
use Rattle.lookup_types.specs.declared.lookup_error.LookupError.{LookupError}
use Rattle.lookup_types.specs.declared.lookup_error.LookupError.TheVariants as error
use Rattle.zone_handler.specs.declared.lookup_records.LookupRecords.{LookupRecords}
use Rattle.lookup_types.specs.declared.nsec3_query_info.Nsec3QueryInfo.{Nsec3QueryInfo}
use Rattle.zone_handler.specs.Answers.{sets_in}
use Rattle.lookup_types.specs.Hashing.{digest_for}
use Rattle.zone_map.specs.Zones.{Sets, owns}
use Rattle.zone_denial.specs.Nsec3Denial.{closest_encloser, next_closer}
use Rattle.zone_denial.specs.Nsec3Laws.{types3_of, IsSetOf, CoversName, FindsOrEncloses, ProvesWildcard, IsNsec3Listed}
use Rattle.zone_denial.specs.Nsec3Zones.{IsNsec3Zone, IsCircleName, IsHashed, HasDistinctDigests}
use Rattle.denial_laws.specs.Nsec3Acceptance.{IsNsec3Accepted, IsAskedWildcardAccepted}
use Rattle.denial_laws.specs.Nsec3Scope.{read_nsec3_sets, IsInNsec3Scope}
use Rattle.zone_in_memory.specs.AnsweredSets.{AnswersSetsOrMemory}
use Rattle.zone_in_memory.specs.Handlers.{Zone}

module _ (origin : Name) (m : Sets) (hash : Name → Option (List ℕ)) (opt_out : Bool) (n : Name) where
  -- an answer whose sets are the NSEC3 set of n alone, or prove its closest encloser; or no memory
  abbrev pub HasNsec3Proof : LookupControlFlow AuthLookup LookupError → Type 0
  HasNsec3Proof step = AnswersSetsOrMemory (FindsOrEncloses origin m hash opt_out n) step

  -- an answer that has the NSEC3 set of the wildcard at the closest encloser of n, or one that covers the wildcard; or
  -- no memory
  abbrev pub HasNsec3WildcardProof : LookupControlFlow AuthLookup LookupError → Type 0
  HasNsec3WildcardProof step = AnswersSetsOrMemory (ProvesWildcard origin m hash opt_out n) step

  -- sets have one that covers the next closer name of n, which is one label longer than the closest encloser (RFC 5155 section 1.3)
  pub record CoversNextCloser (sets : List RRset) : Type 0 where
    pub encloser : Name
    pub is_encloser : closest_encloser origin m opt_out n ≡ Some encloser
    pub closer : Name
    pub is_closer : next_closer n encloser ≡ Some closer
    pub cover : RRset
    pub covers : CoversName origin m hash cover closer
    pub has_cover : Contains sets cover

  -- how a lookup of n and t agrees with a circle of NSEC3 sets: a name that is denied isn't on it; a type that is
  -- denied of a name on it isn't in the list of that name, RRSIG aside; and what is owned, NSEC3 aside, is listed, or
  -- is below a zone cut, or is an unsigned delegation that opt-out leaves out
  pub record AgreesWithNsec3Circle (t : ℕ) (step : LookupControlFlow AuthLookup LookupError) : Type 0 where
    pub name : step ≡ Continue (Err (error.ResponseCode code.NXDomain)) → IsCircleName origin m opt_out n → ⊥
    pub type' : step ≡ Continue (Err error.NameExists) → IsCircleName origin m opt_out n → (s : RRset) (types : List ℕ) → IsSetOf origin m hash n s → types3_of s ≡ Some types → Contains types t → t ≡ RRSIG
    pub owned : t ≢ NSEC3 → IsTrue (owns m n t) → IsNsec3Listed origin m hash opt_out n t

-- where the name of a query is judged, the records of the answer
module _ {S H : Type 0} (digest_of : H → ℕ → List ℕ → Name → ℕ → Option (List ℕ)) (zone : Zone S H) (query : Nsec3QueryInfo) (step : LookupControlFlow AuthLookup LookupError) where
  abbrev hash : Name → Option (List ℕ)
  hash = digest_for (digest_of zone.hash) query

  -- an answer of whose records a validator makes what the zone has of the name, or no memory
  abbrev pub HasAcceptedNsec3Records : Type 0
  HasAcceptedNsec3Records = (parameters : Nsec3Parameters) → IsInNsec3Scope zone.origin zone.inner.records hash parameters query.qname.now
      → AnswersSetsOrMemory (λ sets. IsNsec3Accepted zone.origin zone.inner.records hash parameters.opt_out query.qname.now (read_nsec3_sets sets)) step

  -- the records of the answer that is given, if one is, prove that the wildcard at the closest encloser of the name may
  -- answer, and what they prove is so
  abbrev pub HasAskedWildcardProof : Type 0
  HasAskedWildcardProof = (parameters : Nsec3Parameters) → IsInNsec3Scope zone.origin zone.inner.records hash parameters query.qname.now
      → (s : LookupRecords) → step ≡ Continue (Ok (answer.Records s None)) → IsAskedWildcardAccepted zone.origin zone.inner.records hash parameters.opt_out query.qname.now (read_nsec3_sets (sets_in s))

  -- below the origin of a zone whose NSEC3 sets are a circle by a hash that tells names apart: an answer, also where a wildcard answered for the name; its sets cover the next closer name, unless the name is on the circle; or no memory
  abbrev pub HasNextCloser : Type 0
  HasNextCloser = (parameters : Nsec3Parameters) → IsNsec3Zone zone.origin zone.inner.records hash parameters
      → HasDistinctDigests (IsHashed zone.origin zone.inner.records parameters.opt_out query.qname.now) hash → IsTrue (is_above zone.origin query.qname.now)
      → AnswersSetsOrMemory (λ sets. (IsCircleName zone.origin zone.inner.records parameters.opt_out query.qname.now → ⊥)
      → CoversNextCloser zone.origin zone.inner.records hash parameters.opt_out query.qname.now sets) step

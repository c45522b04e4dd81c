-- Why a response is a code alone: that the zone isn't asked what it could answer, or that it can't answer
use Rattle.std.specs.Prelude.{◌≡◌, ◌≢◌, ◌⊎◌, List, Option, Some, None, Err, IsTrue, IsFalse}
use Rattle.std.specs.List.{Contains}
use Rattle.zone_proto.specs.declared.error.ProtoError.{ProtoError}
use Rattle.zone_proto.specs.declared.nx_proof_kind.NxProofKind.{NxProofKind}
use Rattle.zone_proto.specs.declared.nx_proof_kind.NxProofKind.TheVariants as kind
use Rattle.zone_proto.specs.declared.response_code.ResponseCode.{ResponseCode}
use Rattle.zone_proto.specs.declared.response_code.ResponseCode.TheVariants as code
use Rattle.zone_proto.specs.Names.{Name, is_at_or_above}
use Rattle.zone_proto.specs.Sets.{RRset}
use Rattle.zone_proto.specs.Types.{IN, SOA, ANAME, DNAME}
use Rattle.zone_map.specs.Zones.{set_at, owns, IsZone}
use Rattle.zone_response.specs.Denials.{hashed_owner_of}
use Rattle.zone_response.specs.Paths.{path}
use Rattle.zone_response.specs.Queries.{Zone, Query, HasOwnDenials, Inquiry, inquiry}
use Rattle.zone_response.specs.QueryTypes.{is_no_data}
use Rattle.zone_response.specs.Dname.{dname_target}
use Rattle.zone_response.specs.Responses.{bare, query_hashed, refusal}
use Rattle.zone_response.specs.Sections.{Sections, is_signed}
use Rattle.zone_response.specs.Aname.{addresses, untold, stand_in_answer}
use Rattle.zone_response.specs.Steps.{failed, as_found_for, keeps}
use Rattle.response_laws.specs.Agreement.{HasHashedOwners}
use Rattle.response_laws.specs.Servers.{Server}

-- ---- faults of a zone

-- an ANAME set of the zone, as it is found for x: its own, or that of a wildcard at the name x
pub record IsFoundAname (q : Inquiry) (x : Name) (s : RRset) : Type 0 where
  pub owner : Name
  pub stored : RRset
  pub stands : set_at q.sets owner ANAME ≡ Some stored
  pub wildcard_name : Option Name
  pub found : s ≡ as_found_for (keeps q.signed q.record_type) wildcard_name x stored

-- what is in a zone and can't be answered
pub data Fault (q : Inquiry) : Type 0 where
  -- a DNAME set without a target: its data are the wire form of no name, or it has several records (RFC 6672 sections 2.1 and 2.4)
  without_target : (n : Name) (s : RRset) → set_at q.sets n DNAME ≡ Some s → dname_target s ≡ None → Fault q
  -- an ANAME set that leads to a name which the zone doesn't tell
  leads_away : (x : Name) (s : RRset) → IsFoundAname q x s → stand_in_answer q x s ≡ untold → Fault q
  -- one that leads to addresses which nobody signs, though they have to be proved (RFC 4035 section 4.3)
  unsigned : (x : Name) (s made : RRset) → IsFoundAname q x s → stand_in_answer q x s ≡ addresses made → IsTrue q.is_proved → IsFalse (is_signed made) → Fault q

-- ---- why a zone fails

-- a zone denies by hashed names, and one of these names has no hashed owner (RFC 5155 sections 3 and 5), for this cause
abbrev pub IsUnhashed : Zone → Option NxProofKind → List Name → ProtoError → Type 0
IsUnhashed z (Some (kind.Nsec3 algorithm salt iterations opt_out)) names why = (x : Name) × Contains names x × (hashed_owner_of z algorithm salt iterations x ≡ Err why)
IsUnhashed z _ names why = ⊥

-- why a zone has failed
pub data Failure (z : Zone) (q : Query) : Type 0 where
  -- it has no SOA, and so is no zone
  without_soa : set_at z.sets z.origin SOA ≡ None → Failure z q
  -- the search ends at a fault
  at_fault : (path (inquiry z q) q.name).end ≡ failed → Fault (inquiry z q) → Failure z q
  -- what is to be said has to be proved, and a name that is hashed for that has no hashed owner
  unprovable : (why : ProtoError) → IsTrue q.signed → IsUnhashed z z.nx_proof_kind (query_hashed z q) why → Failure z q

-- ---- why a code is alone

-- a query is refused that asks for another class, or for a name outside the zone; a type that no record has isn't implemented; and else the zone has failed (RFC 1035 section 4.1.1)
abbrev pub WhyAlone : Zone → Query → ResponseCode → Type 0
WhyAlone z q code.Refused = (q.class ≢ IN) ⊎ IsFalse (is_at_or_above z.origin q.name)
WhyAlone z q code.NotImp = IsTrue (is_no_data q.record_type)
WhyAlone z q code.ServFail = Failure z q
WhyAlone z q _ = ⊥

-- ---- where a zone doesn't fail

-- a zone that can answer: it has an SOA and none of the faults, and each name has a hashed owner, if it denies by hashed names
pub record IsAnswerable (z : Zone) (q : Query) : Type 0 where
  pub soa : IsTrue (owns z.sets z.origin SOA)
  pub hashed : IsTrue q.signed → HasHashedOwners z z.nx_proof_kind
  pub faultless : Fault (inquiry z q) → ⊥

-- ---- the laws

-- a failure has a reason
abbrev pub FailureHasReason : Server → Type 0
FailureHasReason server = (z : Zone) (q : Query) (r : Sections) → IsZone z.sets → HasOwnDenials z → server z q r → r.code ≡ code.ServFail → Failure z q

-- a zone that can answer doesn't fail
abbrev pub AnswerableIsAnswered : Server → Type 0
AnswerableIsAnswered server = (z : Zone) (q : Query) (r : Sections) → IsZone z.sets → HasOwnDenials z → IsAnswerable z q → server z q r → r.code ≢ code.ServFail

-- and where one has failed that isn't asked in vain, nothing else is said
abbrev pub FailureIsReported : Server → Type 0
FailureIsReported server = (z : Zone) (q : Query) (r : Sections) → refusal z.origin q ≡ None → Failure z q → server z q r → r ≡ bare code.ServFail
